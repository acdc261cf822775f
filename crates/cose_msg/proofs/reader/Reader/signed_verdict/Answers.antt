use Rattle.std.proofs.Common.{true, false, ◌∙◌, sym}
use Rattle.cose_msg.proofs.lemmas.Deciding.Decisions.{signed_answer, signed_has_key}
use Rattle.cose_msg.proofs.reader.Reader.signed_verdict.Goals as goal

pub returns-then-is_signed-clause-answer : goal.returns-then-is_signed-clause-answer
returns-then-is_signed-clause-answer g c = λ task B n reading here h.
    let key = signed_has_key c.args.signed c.requires.phase h in
    signed_answer c.args.signed c.requires.phase h here (g.E.EcVerifier.decides c.args.ec.now) key.0 key.1 true (sym c.if-is_signed.true ∙ c.is_signed.ensures key.0 key.1)

pub returns-clause-answer : goal.returns-clause-answer
returns-clause-answer g c = λ task B n reading here h.
    let key = signed_has_key c.args.signed c.requires.phase h in
    signed_answer c.args.signed c.requires.phase h here (g.E.EcVerifier.decides c.args.ec.now) key.0 key.1 false (sym c.if-is_signed.false ∙ c.is_signed.ensures key.0 key.1)
