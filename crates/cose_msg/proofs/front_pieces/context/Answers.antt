use Rattle.std.proofs.Common.{refl}
use Rattle.cose_head.specs.Head.{shortest_head}
use Rattle.cose_msg.proofs.front_pieces.context.Goals as goal

pub returns-in-Mac0 : goal.returns-in-Mac0
unfolding shortest_head
returns-in-Mac0 c = rw c.in-Mac0.is refl

pub returns-in-Sign1 : goal.returns-in-Sign1
unfolding shortest_head
returns-in-Sign1 c = rw c.in-Sign1.is refl
