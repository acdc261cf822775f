use Rattle.std.proofs.Common.{refl}
use Rattle.cose_c.proofs.stream.held.Goals as goal

pub returns-in-Some-clause-value : goal.returns-in-Some-clause-value
returns-in-Some-clause-value g c = rw c.in-Some.is c.held.ensures.value

pub returns-in-Some-clause-limit : goal.returns-in-Some-clause-limit
returns-in-Some-clause-limit g c = c.held.ensures.limit

pub returns-in-None-clause-value : goal.returns-in-None-clause-value
returns-in-None-clause-value g c = rw c.in-None.is refl
