use Rattle.cose_map.proofs.lemmas.Laws.Further.{further_named, further_signed, further_takes_curve, no_other_okp_key_fits, no_place_of_no_okp_key, okp_key_among, okp_key_fits, okp_key_stands_there}
use Rattle.cose_map.proofs.laws.okp_key_fits.Goals as goal

pub returns-clause-among : goal.returns-clause-among
returns-clause-among c = okp_key_among

pub returns-clause-fits : goal.returns-clause-fits
returns-clause-fits c = okp_key_fits

pub returns-clause-named : goal.returns-clause-named
returns-clause-named c = further_named

pub returns-clause-curve : goal.returns-clause-curve
returns-clause-curve c = further_takes_curve

pub returns-clause-signed : goal.returns-clause-signed
returns-clause-signed c = further_signed

pub returns-clause-only : goal.returns-clause-only
returns-clause-only c = no_other_okp_key_fits

pub returns-clause-there : goal.returns-clause-there
returns-clause-there c = okp_key_stands_there

pub returns-clause-none : goal.returns-clause-none
returns-clause-none c = no_place_of_no_okp_key
