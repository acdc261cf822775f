use Rattle.cose_map.proofs.lemmas.Laws.Place.{chosen_stands_there, no_place_of_none}
use Rattle.cose_map.proofs.laws.chosen_key_stands_there.Goals as goal

pub returns-clause-key : goal.returns-clause-key
returns-clause-key c = chosen_stands_there

pub returns-clause-none : goal.returns-clause-none
returns-clause-none c = no_place_of_none
