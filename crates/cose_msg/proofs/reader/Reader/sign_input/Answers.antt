use Rattle.std.proofs.Common.{arith}
use Rattle.std.proofs.lemmas.Grind.{common_steps}
use Rattle.cose_msg.proofs.reader.Reader.sign_input.Goals as goal

pub returns-then-not-has_signature-clause-value : goal.returns-then-not-has_signature-clause-value
returns-then-not-has_signature-clause-value g c = grind (arith, common_steps)

pub returns-in-Some-clause-value : goal.returns-in-Some-clause-value
returns-in-Some-clause-value g c = grind (arith, common_steps)

pub returns-in-None-clause-value : goal.returns-in-None-clause-value
returns-in-None-clause-value g c = grind (arith, common_steps)
