use Rattle.std.proofs.Common.{arith}
use Rattle.std.proofs.lemmas.Grind.{common_steps}
use Rattle.cose_msg.proofs.bare_head.take_bare_head_byte.Goals as goal

pub returns-in-More-clause-short : goal.returns-in-More-clause-short
returns-in-More-clause-short c = grind (arith, common_steps)

pub returns-in-More-clause-answer : goal.returns-in-More-clause-answer
returns-in-More-clause-answer c = grind (arith, common_steps)

pub returns-in-More-clause-kept : goal.returns-in-More-clause-kept
returns-in-More-clause-kept c = grind (arith, common_steps)

pub returns-in-More-clause-stays : goal.returns-in-More-clause-stays
returns-in-More-clause-stays c = grind (arith, common_steps)

pub returns-in-More-clause-last : goal.returns-in-More-clause-last
returns-in-More-clause-last c = grind (arith, common_steps)

pub returns-in-More-clause-used : goal.returns-in-More-clause-used
returns-in-More-clause-used c = grind (arith, common_steps)
