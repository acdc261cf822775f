-- What `Debug` prints of keys: how many bytes there are, the number of the curve and the sign of y, and no byte.
use Rattle.std.specs.Prelude.{ℕ, List, length, ◌++◌, codes, if◌then◌else◌}
use Rattle.std.specs.Fmt.{decimal}
use Rattle.cose_head.specs.Hidden.{hidden_text}
use Rattle.cose_map.specs.Key.Value.{YValue, coordinate, sign, MaterialValue, symmetric, elliptic}

abbrev pub y_text : YValue → List ℕ
y_text (coordinate y) = codes "Bytes(" ++ hidden_text (length y) ++ codes ")"
y_text (sign odd) = codes "Sign(" ++ (if odd then codes "true" else codes "false") ++ codes ")"

abbrev pub material_text : MaterialValue → List ℕ
material_text (symmetric secret) = codes "Symmetric(" ++ hidden_text (length secret) ++ codes ")"
material_text (elliptic curve x y) =
    codes "Ec { crv: " ++ decimal curve ++ codes ", x: " ++ hidden_text (length x) ++ codes ", y: " ++ y_text y ++ codes " }"

-- Of a key set of so many bytes.
abbrev pub key_set_text : ℕ → List ℕ
key_set_text count = codes "KeySet(" ++ hidden_text count ++ codes ")"

-- Of a table of so many keys.
abbrev pub key_table_text : ℕ → List ℕ
key_table_text count = codes "KeyTable { keys: " ++ decimal count ++ codes " }"

-- Of a table of so many prepared keys.
abbrev pub prepared_table_text : ℕ → List ℕ
prepared_table_text count = codes "PreparedTable { keys: " ++ decimal count ++ codes " }"
