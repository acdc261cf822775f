use Rattle.std.proofs.Common.{arith}
use Rattle.std.proofs.lemmas.Grind.{common_steps}
use Rattle.cose_msg.proofs.intake.ReadIntake.new.Goals as goal

pub returns-clause-known : goal.returns-clause-known
returns-clause-known g c = grind (arith, common_steps)

pub returns-clause-not_failed : goal.returns-clause-not_failed
returns-clause-not_failed g c = grind (arith, common_steps)

pub returns-clause-not_ended : goal.returns-clause-not_ended
returns-clause-not_ended g c = grind (arith, common_steps)
