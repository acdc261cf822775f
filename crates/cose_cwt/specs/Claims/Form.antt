-- The forms of the values of claims (RFC 8392 section 3.1, RFC 8747 section 3.1).
use Rattle.std.specs.Prelude.{ℕ, Bool, false, not, List, length, Option, Some, None, is_some, ◌==◌, ◌&&◌, ◌||◌, if◌then◌else◌}
use Rattle.std.specs.List.{list_all}
use Rattle.cose_head.specs.declared.reason.Reason.{Reason}
use Rattle.cose_head.specs.declared.reason.Reason.TheVariants.{BadValue, FloatDate, TaggedDate}
use Rattle.cose_head.specs.Placed.{Placed, look, integer_in, text_in, tag_in, is_a_float, is_an_array, is_a_map, children_of}
use Rattle.cose_map.specs.Label.{same_label}
use Rattle.cose_map.specs.Map.Form.{Table, is_bytes}
use Rattle.cose_cwt.specs.Claims.Labels.{iss, sub, aud, exp, nbf, iat, cti, cnf}

-- A text string that is UTF-8.
abbrev pub is_text : Placed → Bool
is_text p = is_some (text_in (look p))

-- One or more text strings.
abbrev pub are_texts : List Placed → Bool
are_texts elements = not (length elements == 0) && list_all is_text elements

-- A text string, or an array of one or more text strings.
abbrev pub is_audience : Placed → Bool
is_audience p = is_text p || (is_an_array (look p) && are_texts (children_of p))

-- The tag 1 of a date in seconds since 1970 (RFC 8949 section 3.4.2).
abbrev pub is_epoch_tag : Option (ℕ × Placed) → Bool
is_epoch_tag None = false
is_epoch_tag (Some found) = found.0 == 1

abbrev pub is_tagged_date : Placed → Bool
is_tagged_date p = is_epoch_tag (tag_in p)

-- A date is an integer, the seconds since 1970, without their tag (RFC 8392 section 2). Floats are refused here.
abbrev pub date_fault : Placed → Option Reason
date_fault p =
    if is_some (integer_in (look p)) then None else
    if is_a_float (look p) then Some FloatDate else
    if is_tagged_date p then Some TaggedDate else Some BadValue

abbrev pub fault_unless : Bool → Option Reason
fault_unless is_right = if is_right then None else Some BadValue

-- The forms of their values. Other claims have any value.
unfoldable pub claims_table : Table
claims_table name value =
    if same_label name iss || same_label name sub then fault_unless (is_text value) else
    if same_label name aud then fault_unless (is_audience value) else
    if same_label name exp || (same_label name nbf || same_label name iat) then date_fault value else
    if same_label name cti then fault_unless (is_bytes value) else
    if same_label name cnf then fault_unless (is_a_map (look value)) else None
