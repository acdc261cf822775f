use Rattle.std.proofs.Common.{arith}
use Rattle.std.proofs.lemmas.Grind.{common_steps}
use Rattle.cose_head.proofs.head.parse_head.Goals as goal

pub returns-in_default-clause-stays : goal.returns-in_default-clause-stays
returns-in_default-clause-stays c = grind (arith, common_steps)

pub returns-in_default-clause-some_wanted : goal.returns-in_default-clause-some_wanted
returns-in_default-clause-some_wanted c = grind (arith, common_steps)

pub returns-in_default-clause-wanted_fits : goal.returns-in_default-clause-wanted_fits
returns-in_default-clause-wanted_fits c = grind (arith, common_steps)

pub returns-in_default-clause-some_used : goal.returns-in_default-clause-some_used
returns-in_default-clause-some_used c = grind (arith, common_steps)

pub returns-in_default-clause-used_there : goal.returns-in_default-clause-used_there
returns-in_default-clause-used_there c = grind (arith, common_steps)

pub returns-in_default-clause-used_fits : goal.returns-in_default-clause-used_fits
returns-in_default-clause-used_fits c = grind (arith, common_steps)

pub returns-in_default-clause-last : goal.returns-in_default-clause-last
returns-in_default-clause-last c = grind (arith, common_steps)

pub returns-then-low-lt24-clause-some_wanted : goal.returns-then-low-lt24-clause-some_wanted
returns-then-low-lt24-clause-some_wanted c = grind (arith, common_steps)

pub returns-then-low-lt24-clause-wanted_fits : goal.returns-then-low-lt24-clause-wanted_fits
returns-then-low-lt24-clause-wanted_fits c = grind (arith, common_steps)

pub returns-then-low-lt24-clause-some_used : goal.returns-then-low-lt24-clause-some_used
returns-then-low-lt24-clause-some_used c = grind (arith, common_steps)

pub returns-then-low-lt24-clause-used_there : goal.returns-then-low-lt24-clause-used_there
returns-then-low-lt24-clause-used_there c = grind (arith, common_steps)

pub returns-then-low-lt24-clause-used_fits : goal.returns-then-low-lt24-clause-used_fits
returns-then-low-lt24-clause-used_fits c = grind (arith, common_steps)

pub returns-in-Some-clause-some_wanted : goal.returns-in-Some-clause-some_wanted
returns-in-Some-clause-some_wanted c = grind (arith, common_steps)

pub returns-in-Some-clause-wanted_fits : goal.returns-in-Some-clause-wanted_fits
returns-in-Some-clause-wanted_fits c = grind (arith, common_steps)

pub returns-in-Some-clause-some_used : goal.returns-in-Some-clause-some_used
returns-in-Some-clause-some_used c = grind (arith, common_steps)

pub returns-in-Some-clause-used_there : goal.returns-in-Some-clause-used_there
returns-in-Some-clause-used_there c = grind (arith, common_steps)

pub returns-in-Some-clause-used_fits : goal.returns-in-Some-clause-used_fits
returns-in-Some-clause-used_fits c = grind (arith, common_steps)

pub returns-in-Some-clause-last : goal.returns-in-Some-clause-last
returns-in-Some-clause-last c = grind (arith, common_steps)

pub returns-then-rest-length-clause-stays : goal.returns-then-rest-length-clause-stays
returns-then-rest-length-clause-stays c = grind (arith, common_steps)

pub returns-then-rest-length-clause-some_wanted : goal.returns-then-rest-length-clause-some_wanted
returns-then-rest-length-clause-some_wanted c = grind (arith, common_steps)

pub returns-then-rest-length-clause-wanted_fits : goal.returns-then-rest-length-clause-wanted_fits
returns-then-rest-length-clause-wanted_fits c = grind (arith, common_steps)

pub returns-then-rest-length-clause-some_used : goal.returns-then-rest-length-clause-some_used
returns-then-rest-length-clause-some_used c = grind (arith, common_steps)

pub returns-then-rest-length-clause-used_there : goal.returns-then-rest-length-clause-used_there
returns-then-rest-length-clause-used_there c = grind (arith, common_steps)

pub returns-then-rest-length-clause-used_fits : goal.returns-then-rest-length-clause-used_fits
returns-then-rest-length-clause-used_fits c = grind (arith, common_steps)

pub returns-then-rest-length-clause-last : goal.returns-then-rest-length-clause-last
returns-then-rest-length-clause-last c = grind (arith, common_steps)

pub returns-then-arg-lt32-clause-some_wanted : goal.returns-then-arg-lt32-clause-some_wanted
returns-then-arg-lt32-clause-some_wanted c = grind (arith, common_steps)

pub returns-then-arg-lt32-clause-wanted_fits : goal.returns-then-arg-lt32-clause-wanted_fits
returns-then-arg-lt32-clause-wanted_fits c = grind (arith, common_steps)

pub returns-then-arg-lt32-clause-some_used : goal.returns-then-arg-lt32-clause-some_used
returns-then-arg-lt32-clause-some_used c = grind (arith, common_steps)

pub returns-then-arg-lt32-clause-used_there : goal.returns-then-arg-lt32-clause-used_there
returns-then-arg-lt32-clause-used_there c = grind (arith, common_steps)

pub returns-then-arg-lt32-clause-used_fits : goal.returns-then-arg-lt32-clause-used_fits
returns-then-arg-lt32-clause-used_fits c = grind (arith, common_steps)

pub returns-then-arg-lt32-clause-last : goal.returns-then-arg-lt32-clause-last
returns-then-arg-lt32-clause-last c = grind (arith, common_steps)

pub returns-clause-some_wanted : goal.returns-clause-some_wanted
returns-clause-some_wanted c = grind (arith, common_steps)

pub returns-clause-wanted_fits : goal.returns-clause-wanted_fits
returns-clause-wanted_fits c = grind (arith, common_steps)

pub returns-clause-some_used : goal.returns-clause-some_used
returns-clause-some_used c = grind (arith, common_steps)

pub returns-clause-used_there : goal.returns-clause-used_there
returns-clause-used_there c = grind (arith, common_steps)

pub returns-clause-used_fits : goal.returns-clause-used_fits
returns-clause-used_fits c = grind (arith, common_steps)
