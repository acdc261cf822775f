use Rattle.std.proofs.lemmas.Bool.Decides.{Decides-eqb}
use Rattle.std.proofs.lemmas.Slice.Eq.{strip_prefix_is}
use Rattle.cose_answers.proofs.lemmas.Keys.VouchedSignatures.{same_rest}
use Rattle.cose_answers.proofs.vouch.rest_after.Goals as goal

pub returns : goal.returns
returns c = λ rest. same_rest c.args.word.now c.args.piece.now rest c.strip_prefix.result
    (strip_prefix_is Decides-eqb c.args.word.now c.args.piece.now c.strip_prefix.result c.strip_prefix.ensures.cases)
