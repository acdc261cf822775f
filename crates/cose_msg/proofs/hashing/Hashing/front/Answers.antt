use Rattle.std.proofs.Common.{arith}
use Rattle.std.proofs.lemmas.Grind.{common_steps}
use Rattle.cose_msg.proofs.lemmas.Fronts.{front_completed}
use Rattle.cose_msg.proofs.hashing.Hashing.front.Goals as goal

pub returns-in-Running-clause-appended : goal.returns-in-Running-clause-appended
returns-in-Running-clause-appended c = grind (arith, common_steps)

pub returns-in-Running-clause-front : goal.returns-in-Running-clause-front
returns-in-Running-clause-front c = grind (arith, common_steps)

pub returns-clause-appended : goal.returns-clause-appended
returns-clause-appended c = grind (arith, common_steps)

pub returns-clause-front : goal.returns-clause-front
returns-clause-front c = grind (arith, common_steps)

pub returns-2-clause-appended : goal.returns-2-clause-appended
returns-2-clause-appended c = grind (arith, common_steps)

pub returns-2-clause-front : goal.returns-2-clause-front
returns-2-clause-front c = grind (arith, common_steps)

pub returns-3-clause-front : goal.returns-3-clause-front
returns-3-clause-front c = λ found message payload fed count. front_completed c.args.kind c.args.protected.now c.args.aad.now payload c.args.payload_length count
