use Rattle.std.proofs.Common.{arith}
use Rattle.std.proofs.lemmas.Grind.{common_steps}
use Rattle.cose_msg.proofs.sink.NothingSink.put.Goals as goal

pub returns-clause-bytes : goal.returns-clause-bytes
returns-clause-bytes c = grind (arith, common_steps)

pub returns-clause-failure : goal.returns-clause-failure
returns-clause-failure c = grind (arith, common_steps)

pub returns-clause-promised : goal.returns-clause-promised
returns-clause-promised c = grind (arith, common_steps)

pub returns-clause-promise : goal.returns-clause-promise
returns-clause-promise c = grind (arith, common_steps)
