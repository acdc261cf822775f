use Rattle.std.proofs.Common.{refl}
use Rattle.cose_head.specs.Head.{bare_head}
use Rattle.cose_head.proofs.half_head.take_head_byte.Goals as goal

pub returns-in-Ok-Some-clause-begun : goal.returns-in-Ok-Some-clause-begun
unfolding bare_head
returns-in-Ok-Some-clause-begun c = rw c.clear.ensures refl
