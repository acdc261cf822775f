use Rattle.std.proofs.Common.{arith}
use Rattle.std.proofs.lemmas.Grind.{common_steps}
use Rattle.cose_head.proofs.item.allowed_children.Goals as goal

pub returns-then-depth-eq0 : goal.returns-then-depth-eq0
returns-then-depth-eq0 c = grind (arith, common_steps)

pub returns-then-count-room : goal.returns-then-count-room
returns-then-count-room c = grind (arith, common_steps)

pub returns : goal.returns
returns c = grind (arith, common_steps)
