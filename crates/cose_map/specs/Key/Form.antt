-- The forms of the members that keys of every type may have (RFC 9052 section 7.1).
use Rattle.std.specs.Prelude.{Bool, true, not, List, length, Some, None, ◌==◌, ◌&&◌, ◌||◌, if◌then◌else◌, is_some}
use Rattle.std.specs.List.{list_all}
use Rattle.cose_head.specs.declared.reason.Reason.TheVariants.{BadValue}
use Rattle.cose_head.specs.Placed.{Placed, look, integer_in, is_a_text, is_an_array, children_of}
use Rattle.cose_map.specs.Key.Labels.{kty, key_kid, key_alg, key_ops, base_iv}
use Rattle.cose_map.specs.Map.Form.{Table, is_label, is_bytes}
use Rattle.cose_map.specs.Label.{LabelValue, same_label}

-- An integer or any text string.
abbrev pub is_number_or_text : Placed → Bool
is_number_or_text p = is_some (integer_in (look p)) || is_a_text (look p)

-- An array of one or more of these.
abbrev pub are_operations : List Placed → Bool
are_operations elements = not (length elements == 0) && list_all is_number_or_text elements

abbrev pub is_key_ops : Placed → Bool
is_key_ops p = is_an_array (look p) && are_operations (children_of p)

-- The forms of their values. Other labels have any value here.
abbrev pub key_form : LabelValue → Placed → Bool
key_form name value =
    if same_label name kty then is_number_or_text value else
    if same_label name key_alg then is_label value else
    if same_label name key_ops then is_key_ops value else
    if same_label name key_kid || same_label name base_iv then is_bytes value else true

unfoldable pub key_table : Table
key_table name value = if key_form name value then None else Some BadValue
