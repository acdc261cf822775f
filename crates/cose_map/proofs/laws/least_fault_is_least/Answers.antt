use Rattle.cose_map.proofs.lemmas.Laws.Least.{no_least_of_none, least_is_among, none_before_least}
use Rattle.cose_map.proofs.laws.least_fault_is_least.Goals as goal

pub returns-clause-none : goal.returns-clause-none
returns-clause-none c = no_least_of_none

pub returns-clause-among : goal.returns-clause-among
returns-clause-among c = least_is_among

pub returns-clause-least : goal.returns-clause-least
returns-clause-least c = none_before_least
