-- A set of labels: the numbers that most labels have, in increasing order, and the labels that have none.
pub mod View
use Rattle.std.specs.Prelude.{◌≡◌, ℕ, ℤ, pos, negsuc, ◌+◌, ◌*◌, ◌^◌, ◌<◌, ◌≤◌, Bool, true, false, not, List, [], ◌∷◌, ◌++◌, length, Option, Some, None, option_map, Result, nat_lt, ◌==◌, ◌&&◌, if◌then◌else◌, MatchOption, MatchResult, slice_index}
use Rattle.std.specs.List.{list_any}
use Rattle.cose_map.specs.Label.{LabelValue, number, words, same_label}

-- The number of bytes, the first one the highest, after a number so far. It is below 2 ^ 112.
abbrev pub number_after : ℕ → List ℕ → Option ℕ
number_after so_far [] = Some so_far
number_after so_far (byte ∷ bytes) = if nat_lt so_far (2 ^ 104) && nat_lt byte 256 then number_after (so_far * 256 + byte) bytes else None

-- The key of a text of at most 14 bytes: its number and its length.
abbrev pub text_key : List ℕ → Option ℕ
text_key text = if nat_lt 14 (length text) then None else option_map (λ n. 2 ^ 66 + n * 16 + length text) (number_after 0 text)

abbrev pub integer_key : ℤ → Option ℕ
integer_key (pos n) = if nat_lt n (2 ^ 64) then Some n else None
integer_key (negsuc n) = if nat_lt n (2 ^ 64) then Some (2 ^ 64 + n) else None

-- A number that no other label has. The integers of CBOR and short texts have one.
abbrev pub key_of : LabelValue → Option ℕ
key_of (number z) = integer_key z
key_of (words text) = text_key text

-- Each number is greater than the one before it.
abbrev pub rises_after : ℕ → List ℕ → Bool
rises_after before [] = true
rises_after before (key ∷ keys) = nat_lt before key && rises_after key keys

abbrev pub rises : List ℕ → Bool
rises [] = true
rises (key ∷ keys) = rises_after key keys

abbrev pub is_in : ℕ → List ℕ → Bool
is_in key keys = list_any (λ other. key == other) keys

-- Where a number is, or else where it belongs.
abbrev pub IsPlace : ℕ → List ℕ → Result ℕ ℕ → Type 0
IsPlace key keys place = MatchResult place (λ i. (i < length keys) × (slice_index keys i ≡ key))
    (λ i. (i ≤ length keys) × ((k : ℕ) → k < i → slice_index keys k < key) × ((k : ℕ) → i ≤ k → k < length keys → key < slice_index keys k))

-- One of the labels is the name; and all are different.
abbrev pub is_among : LabelValue → List LabelValue → Bool
is_among name names = list_any (same_label name) names

abbrev pub differ : List LabelValue → Bool
differ [] = true
differ (name ∷ names) = not (is_among name names) && differ names

-- The place of a label: no label before it is the name, and the one at it is.
abbrev pub IsFirst : LabelValue → List LabelValue → Option ℕ → Type 0
IsFirst name names place = MatchOption place (is_among name names ≡ false)
    (λ i. (before : List LabelValue) × (found : LabelValue) × (after : List LabelValue) × (names ≡ before ++ found ∷ after) × (length before ≡ i) × (same_label name found ≡ true))

-- A label is in the set.
abbrev pub is_held : Option ℕ → LabelValue → List ℕ → List LabelValue → Bool
is_held (Some key) name keys others = is_in key keys
is_held None name keys others = is_among name others
