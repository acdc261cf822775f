use Rattle.std.proofs.Common.{arith}
use Rattle.std.proofs.lemmas.Grind.{common_steps}
use Rattle.cose_msg.proofs.verifier.Verifier.request.Goals as goal

pub min-requires : goal.min-requires
min-requires g c = cc

pub returns-clause-most : goal.returns-clause-most
returns-clause-most g c = grind (arith, common_steps)

pub returns-clause-wanted : goal.returns-clause-wanted
returns-clause-wanted g c = grind (arith, common_steps)

pub returns-clause-early : goal.returns-clause-early
returns-clause-early g c = grind (arith, common_steps)

pub returns-clause-some : goal.returns-clause-some
returns-clause-some g c = grind (arith, common_steps)
