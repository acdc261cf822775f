-- The labels of the header parameters that RFC 9052 section 3.1 defines.
use Rattle.std.specs.Prelude.{pos}
use Rattle.cose_map.specs.Label.{LabelValue, number}

abbrev pub alg : LabelValue
alg = number (pos 1)

abbrev pub crit : LabelValue
crit = number (pos 2)

abbrev pub content_type : LabelValue
content_type = number (pos 3)

abbrev pub kid : LabelValue
kid = number (pos 4)

abbrev pub iv : LabelValue
iv = number (pos 5)

abbrev pub partial_iv : LabelValue
partial_iv = number (pos 6)
