use Rattle.std.proofs.Common.{arith}
use Rattle.std.proofs.lemmas.Grind.{common_steps}
use Rattle.cose_msg.proofs.reader.Reader.open_items.Goals as goal

pub returns-clause-value : goal.returns-clause-value
returns-clause-value g c = grind (arith, common_steps)

pub returns-clause-limit : goal.returns-clause-limit
returns-clause-limit g c = grind (arith, common_steps)
