use Rattle.std.proofs.Common.{arith}
use Rattle.std.proofs.lemmas.Grind.{common_steps}
use Rattle.cose_head.proofs.walker.follows_head.Goals as goal

pub returns-in-2 : goal.returns-in-2
returns-in-2 c = grind (arith, common_steps)

pub returns-in-4 : goal.returns-in-4
returns-in-4 c = grind (arith, common_steps)

pub returns-in_default : goal.returns-in_default
returns-in_default c = grind (arith, common_steps)
