-- The labels of the members of keys.
use Rattle.std.specs.Prelude.{pos, negsuc}
use Rattle.cose_map.specs.Label.{LabelValue, number}

-- The labels of keys of every type (RFC 9052 section 7.1).
abbrev pub kty : LabelValue
kty = number (pos 1)

abbrev pub key_kid : LabelValue
key_kid = number (pos 2)

abbrev pub key_alg : LabelValue
key_alg = number (pos 3)

abbrev pub key_ops : LabelValue
key_ops = number (pos 4)

abbrev pub base_iv : LabelValue
base_iv = number (pos 5)

-- The label of symmetric keys (RFC 9053 section 7.3).
abbrev pub k : LabelValue
k = number (negsuc 0)

-- The labels of keys on a curve (RFC 9053 section 7.1.1).
abbrev pub crv : LabelValue
crv = number (negsuc 0)

abbrev pub x : LabelValue
x = number (negsuc 1)

abbrev pub y : LabelValue
y = number (negsuc 2)

abbrev pub d : LabelValue
d = number (negsuc 3)
