use Rattle.std.proofs.Common.{arith}
use Rattle.std.proofs.lemmas.Grind.{common_steps}
use Rattle.cose_map.proofs.bucket.common.Common.of.Goals as goal

pub pairs-init : goal.pairs-init
pairs-init c = grind (arith, common_steps)

pub pairs-smaller : goal.pairs-smaller
pairs-smaller c = grind (arith, common_steps)

pub pairs-preserved : goal.pairs-preserved
pairs-preserved c = grind (arith, common_steps)

pub returns-clause-alg : goal.returns-clause-alg
returns-clause-alg c = grind (arith, common_steps)

pub returns-clause-crit : goal.returns-clause-crit
returns-clause-crit c = grind (arith, common_steps)

pub returns-clause-kid : goal.returns-clause-kid
returns-clause-kid c = grind (arith, common_steps)

pub returns-clause-iv : goal.returns-clause-iv
returns-clause-iv c = grind (arith, common_steps)

pub returns-clause-partial_iv : goal.returns-clause-partial_iv
returns-clause-partial_iv c = grind (arith, common_steps)
