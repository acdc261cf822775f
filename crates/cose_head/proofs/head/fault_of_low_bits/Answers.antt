use Rattle.std.proofs.Common.{arith}
use Rattle.std.proofs.lemmas.Grind.{common_steps}
use Rattle.cose_head.proofs.head.fault_of_low_bits.Goals as goal

pub returns-then-low-lt28 : goal.returns-then-low-lt28
returns-then-low-lt28 c = grind (arith, common_steps)

pub returns-then-low-lt31 : goal.returns-then-low-lt31
returns-then-low-lt31 c = grind (arith, common_steps)

pub returns : goal.returns
returns c = grind (arith, common_steps)
