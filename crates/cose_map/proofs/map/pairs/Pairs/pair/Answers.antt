use Rattle.std.proofs.Common.{arith}
use Rattle.std.proofs.lemmas.Grind.{common_steps}
use Rattle.cose_map.proofs.map.pairs.Pairs.pair.Goals as goal

pub pairs-init : goal.pairs-init
pairs-init c = grind (arith, common_steps)

pub returns-then-is_same : goal.returns-then-is_same
returns-then-is_same c = grind (arith, common_steps)

pub pairs-smaller : goal.pairs-smaller
pairs-smaller c = grind (arith, common_steps)

pub pairs-preserved : goal.pairs-preserved
pairs-preserved c = grind (arith, common_steps)

pub returns : goal.returns
returns c = grind (arith, common_steps)
