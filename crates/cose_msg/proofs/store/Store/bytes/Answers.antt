use Rattle.std.proofs.Common.{arith}
use Rattle.std.proofs.lemmas.Grind.{common_steps}
use Rattle.cose_msg.proofs.store.Store.bytes.Goals as goal

pub returns-clause-held : goal.returns-clause-held
returns-clause-held g c = grind (arith, common_steps)

pub returns-clause-limit : goal.returns-clause-limit
returns-clause-limit g c = grind (arith, common_steps)

pub returns-clause-sure : goal.returns-clause-sure
returns-clause-sure g c = grind (arith, common_steps)
