use Rattle.std.proofs.Common.{ap, ◌∙◌, w32}
use Rattle.std.proofs.lemmas.Int.{to_z-of_z}
use Rattle.cose_c.specs.Make.{mac_numbered}
use Rattle.cose_c.proofs.make.cose_edge_make.Goals as goal

pub returns-in-Ok-clause-making : goal.returns-in-Ok-clause-making
returns-in-Ok-clause-making c = λ found read numbered key_is begun.
    let making = c.begin.ensures.making found read (ap mac_numbered (to_z-of_z w32 c.args.alg c.ranges.alg) ∙ numbered) key_is in
    rw c.in-Ok.is at making
