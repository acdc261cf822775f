-- The forms of the values of header parameters (RFC 9052 section 3.1).
use Rattle.std.specs.Prelude.{ℤ, pos, negsuc, Bool, true, false, not, List, length, Option, Some, None, is_some, ◌==◌, ◌&&◌, ◌||◌, if◌then◌else◌}
use Rattle.std.specs.List.{list_all}
use Rattle.cose_head.specs.declared.reason.Reason.TheVariants.{BadValue}
use Rattle.cose_head.specs.Placed.{Placed, look, integer_in, text_in, is_an_array, children_of}
use Rattle.cose_map.specs.Bucket.Header.{alg, crit, content_type, kid, iv, partial_iv}
use Rattle.cose_map.specs.Label.{LabelValue, same_label}
use Rattle.cose_map.specs.Map.Form.{Table, is_label, is_bytes}

abbrev pub is_unsigned : Option ℤ → Bool
is_unsigned (Some (pos n)) = true
is_unsigned (Some (negsuc n)) = false
is_unsigned None = false

-- An unsigned integer, or a text string.
abbrev pub is_content_type : Placed → Bool
is_content_type p = is_unsigned (integer_in (look p)) || is_some (text_in (look p))

-- An array of one or more labels.
abbrev pub are_labels : List Placed → Bool
are_labels elements = not (length elements == 0) && list_all is_label elements

abbrev pub is_crit : Placed → Bool
is_crit p = is_an_array (look p) && are_labels (children_of p)

-- The forms of their values. Other labels have any value.
abbrev pub bucket_form : LabelValue → Placed → Bool
bucket_form name value =
    if same_label name alg then is_label value else
    if same_label name crit then is_crit value else
    if same_label name content_type then is_content_type value else
    if same_label name kid || (same_label name iv || same_label name partial_iv) then is_bytes value else true

unfoldable pub bucket_table : Table
bucket_table name value = if bucket_form name value then None else Some BadValue
