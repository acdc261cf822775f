use Rattle.std.proofs.Common.{arith}
use Rattle.std.proofs.lemmas.Grind.{common_steps}
use Rattle.cose_msg.proofs.store.Store.new.Goals as goal

pub returns-clause-empty : goal.returns-clause-empty
returns-clause-empty g c = grind (arith, common_steps)

pub returns-clause-not_failed : goal.returns-clause-not_failed
returns-clause-not_failed g c = grind (arith, common_steps)

pub returns-clause-sure : goal.returns-clause-sure
returns-clause-sure g c = grind (arith, common_steps)
