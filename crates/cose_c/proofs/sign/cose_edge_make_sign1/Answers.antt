use Rattle.std.proofs.Common.{ap, ◌∙◌, w32}
use Rattle.std.proofs.lemmas.Int.{to_z-of_z}
use Rattle.cose_c.specs.Sign.{signature_numbered}
use Rattle.cose_c.proofs.sign.cose_edge_make_sign1.Goals as goal

pub returns-in-Ok-clause-making : goal.returns-in-Ok-clause-making
returns-in-Ok-clause-making c = λ found numbered begun.
    let signing = c.begin.ensures.signing found (ap signature_numbered (to_z-of_z w32 c.args.alg c.ranges.alg) ∙ numbered) in
    rw c.in-Ok.is at signing
