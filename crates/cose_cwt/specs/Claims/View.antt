-- Claims of the code, without where they are in memory.
use Rattle.std.specs.Prelude.{option_map}
use Rattle.cose_map.specs.Map.View.{pairs_left}
use Rattle.cose_cwt.specs.declared.claims.Claims.{Claims}
use Rattle.cose_cwt.specs.Claims.{ClaimsValue, claims_with}
use Rattle.cose_cwt.specs.Confirmation.View.{cnf_items_value}

abbrev pub claims_value : Claims → ClaimsValue
claims_value claims = claims_with (pairs_left claims.pairs) (option_map cnf_items_value claims.confirmation)
