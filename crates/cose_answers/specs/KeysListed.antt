-- What `keys` prints of a key set (RFC 9052 section 7): a line for each item that should be a key, in their order, and a last line
-- with how many of them are usable. No byte of a secret, and no coordinate of a point. Where a message asks for a key, a line also
-- says why the key doesn't fit it.
use Rattle.std.specs.Prelude.{ℕ, ℤ, Bool, true, false, pos, List, [], ◌∷◌, ◌++◌, Option, Some, None, filter, length, map, Ok, Err, codes, nat_lt, if◌then◌else◌}
use Rattle.std.specs.Fmt.{decimal, signed_decimal}
use Rattle.std.specs.List.{concat, list_any}
use Rattle.std.specs.Ordering.{int_eq}
use Rattle.cose_head.specs.Placed.{Placed}
use Rattle.cose_head.specs.Refusal.{refusal_text}
use Rattle.cose_map.specs.Choice.{Question}
use Rattle.cose_map.specs.Choice.Mismatch.{mismatch}
use Rattle.cose_map.specs.declared.choice.mismatch.Mismatch.{Mismatch}
use Rattle.cose_map.specs.declared.choice.mismatch.Mismatch.TheVariants as conditions
use Rattle.cose_map.specs.Key.{key_of}
use Rattle.cose_map.specs.Key.Value.{KeyValue, MaterialValue, symmetric, elliptic}
use Rattle.cose_map.specs.Label.{LabelValue, number, words}
use Rattle.cose_map.specs.Map.Read.{Read}
use Rattle.cose_text.specs.Quoted.{quoted}
use Rattle.cose_answers.specs.Admitted.{where_present}
use Rattle.cose_answers.specs.declared.reply.Status.{Status}
use Rattle.cose_answers.specs.declared.reply.Status.TheVariants as statuses
use Rattle.hex.specs.Hex.{encode_lower}

-- The type of a key by its number (RFC 9053 section 7): 4 is Symmetric, and 2 is EC2, with the number of its curve.
abbrev pub type_words : MaterialValue → List ℕ
type_words (symmetric secret) = codes " kty 4"
type_words (elliptic curve x y) = codes " kty 2 crv " ++ decimal curve

abbrev pub kid_words : List ℕ → List ℕ
kid_words kid = codes " kid " ++ encode_lower kid

-- An algorithm by its number, or its text in quotes.
abbrev pub alg_words : LabelValue → List ℕ
alg_words (number n) = codes " alg " ++ signed_decimal n
alg_words (words text) = codes " alg " ++ quoted text

-- The operations of RFC 9052 section 7.1: from 1, sign, and 2, verify, to 9, MAC create, and 10, MAC verify.
abbrev pub operations : List ℕ
operations = 1 ∷ 2 ∷ 3 ∷ 4 ∷ 5 ∷ 6 ∷ 7 ∷ 8 ∷ 9 ∷ 10 ∷ []

-- Numbers after a space, with commas between them.
abbrev pub separator_of : Bool → List ℕ
separator_of true = codes " "
separator_of false = codes ","

abbrev pub numbers : Bool → List ℕ → List ℕ
numbers is_first [] = []
numbers is_first (first ∷ others) = separator_of is_first ++ decimal first ++ numbers false others

-- Those of these operations that a key lists. It may list others, which have no number here.
abbrev pub lists : List ℤ → ℕ → Bool
lists listed operation = list_any (int_eq (pos operation)) listed

abbrev pub ops_words : List ℤ → List ℕ
ops_words listed = codes " ops" ++ numbers true (filter (lists listed) operations)

-- What a key names, in the order of the labels: a word that the key lacks isn't printed.
abbrev pub key_words : KeyValue → List ℕ
key_words key = type_words key.material ++ where_present kid_words key.kid ++ where_present alg_words key.alg ++ where_present ops_words key.operations

-- The condition of the choice that a key fails (RFC 9052 section 7.1), or that it fails none.
abbrev pub condition_word : Mismatch → List ℕ
condition_word conditions.Algorithm = codes "algorithm"
condition_word conditions.KeyType = codes "type"
condition_word conditions.Curve = codes "curve"
condition_word conditions.Operation = codes "key_ops"
condition_word conditions.Identifier = codes "kid"

abbrev pub fit_words : Option Mismatch → List ℕ
fit_words None = codes " usable fits"
fit_words (Some condition) = codes " usable fails " ++ condition_word condition

-- What a message asks for, if there is one.
abbrev pub usable_words : Option Question → KeyValue → List ℕ
usable_words None key = codes " usable"
usable_words (Some q) key = fit_words (mismatch q key)

-- An item is a usable key, or it is refused, with the place of the fault.
abbrev pub outcome_words : Option Question → Read KeyValue → List ℕ
outcome_words asked (Ok key) = key_words key ++ usable_words asked key
outcome_words asked (Err refusal) = codes " refused " ++ refusal_text refusal

-- The place of an item is relative to the first byte of the set.
abbrev pub item_line : Option Question → Placed → List ℕ
item_line asked item = codes "key at " ++ decimal item.place ++ outcome_words asked (key_of item) ++ codes "\n"

-- The other commands have room for 16 usable keys, and refuse a set with more.
abbrev pub room_words : ℕ → List ℕ
room_words usable = if nat_lt 16 usable then codes " refused BadKeySet at 0" else []

abbrev pub count_line : ℕ → ℕ → List ℕ
count_line usable items = codes "usable " ++ decimal usable ++ codes " of " ++ decimal items ++ room_words usable ++ codes "\n"

abbrev pub set_text : Option Question → List Placed → ℕ → List ℕ
set_text asked items usable = concat (map (item_line asked) items) ++ count_line usable (length items)

abbrev pub set_status : ℕ → Status
set_status usable = if nat_lt 16 usable then statuses.Refused else statuses.Done
