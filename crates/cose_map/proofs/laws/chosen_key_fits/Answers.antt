use Rattle.cose_map.proofs.lemmas.Laws.Chosen.{chosen_among, chosen_fits, chosen_of_kind, chosen_typed, no_other_fits}
use Rattle.cose_map.proofs.laws.chosen_key_fits.Goals as goal

pub returns-clause-among : goal.returns-clause-among
returns-clause-among c = chosen_among

pub returns-clause-fits : goal.returns-clause-fits
returns-clause-fits c = chosen_fits

pub returns-clause-kind : goal.returns-clause-kind
returns-clause-kind c = chosen_of_kind

pub returns-clause-typed : goal.returns-clause-typed
returns-clause-typed c = chosen_typed

pub returns-clause-only : goal.returns-clause-only
returns-clause-only c = no_other_fits
