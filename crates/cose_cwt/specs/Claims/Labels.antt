-- The labels of the registered claims (RFC 8392 section 3.1) and of the confirmation (RFC 8747 section 3.1).
use Rattle.std.specs.Prelude.{pos}
use Rattle.cose_map.specs.Label.{LabelValue, number}

abbrev pub iss : LabelValue
iss = number (pos 1)

abbrev pub sub : LabelValue
sub = number (pos 2)

abbrev pub aud : LabelValue
aud = number (pos 3)

abbrev pub exp : LabelValue
exp = number (pos 4)

abbrev pub nbf : LabelValue
nbf = number (pos 5)

abbrev pub iat : LabelValue
iat = number (pos 6)

abbrev pub cti : LabelValue
cti = number (pos 7)

abbrev pub cnf : LabelValue
cnf = number (pos 8)
