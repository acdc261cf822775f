use Rattle.std.proofs.Common.{arith}
use Rattle.std.proofs.lemmas.Grind.{common_steps}
use Rattle.cose_answers.proofs.answers.cwt.policy_of.Goals as goal

pub returns : goal.returns
returns c = grind (arith, common_steps)
