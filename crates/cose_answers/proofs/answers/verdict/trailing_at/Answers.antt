use Rattle.std.proofs.Common.{arith}
use Rattle.std.proofs.lemmas.Grind.{common_steps}
use Rattle.cose_answers.proofs.answers.verdict.trailing_at.Goals as goal

pub slice_bounds-take-end : goal.slice_bounds-take-end
slice_bounds-take-end g c = grind (arith, common_steps)

pub returns-in-Ok-eq0-clause-whole : goal.returns-in-Ok-eq0-clause-whole
returns-in-Ok-eq0-clause-whole g c = grind (arith, common_steps)

pub returns-in-Ok-eq0-clause-fault : goal.returns-in-Ok-eq0-clause-fault
returns-in-Ok-eq0-clause-fault g c = grind (arith, common_steps)

pub returns-in-Ok-eq0-clause-failure : goal.returns-in-Ok-eq0-clause-failure
returns-in-Ok-eq0-clause-failure g c = grind (arith, common_steps)

pub returns-in-Ok-clause-whole : goal.returns-in-Ok-clause-whole
returns-in-Ok-clause-whole g c = grind (arith, common_steps)

pub returns-in-Ok-clause-fault : goal.returns-in-Ok-clause-fault
returns-in-Ok-clause-fault g c = grind (arith, common_steps)

pub returns-in-Ok-clause-failure : goal.returns-in-Ok-clause-failure
returns-in-Ok-clause-failure g c = grind (arith, common_steps)

pub returns-in-Err-clause-whole : goal.returns-in-Err-clause-whole
returns-in-Err-clause-whole g c = grind (arith, common_steps)

pub returns-in-Err-clause-fault : goal.returns-in-Err-clause-fault
returns-in-Err-clause-fault g c = grind (arith, common_steps)

pub returns-in-Err-clause-failure : goal.returns-in-Err-clause-failure
returns-in-Err-clause-failure g c = grind (arith, common_steps)
