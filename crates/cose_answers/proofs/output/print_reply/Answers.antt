use Rattle.std.proofs.Common.{arith}
use Rattle.std.proofs.lemmas.Grind.{common_steps}
use Rattle.cose_answers.proofs.lemmas.Messages.Replies.{line_fails}
use Rattle.cose_answers.proofs.output.print_reply.Goals as goal

pub returns-in-Ok-clause-prints : goal.returns-in-Ok-clause-prints
returns-in-Ok-clause-prints g c = grind (arith, common_steps)

pub returns-in-Err-clause-prints : goal.returns-in-Err-clause-prints
returns-in-Err-clause-prints g c = grind (arith, common_steps)

pub returns-in-Err-clause-fails : goal.returns-in-Err-clause-fails
returns-in-Err-clause-fails g c = λ said says is. line_fails _ _ _ said c.print_fault.ensures.line
