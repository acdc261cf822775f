-- Keys and key sets on examples, by computing.
use Rattle.std.proofs.Common.{◌≡◌, ℕ, pos, true, false, List, [], ◌∷◌, ◌++◌, map, replicate, Option, Some, None, Ok, Err, refl}
use Rattle.std.specs.Str.{is_utf8, chars}
use Rattle.cose_head.specs.declared.reason.Reason.{Reason}
use Rattle.cose_head.specs.declared.reason.Reason.TheVariants.{TooDeep, PastRoom, NotMap, BadLabel, DuplicateLabel, BadValue, BadKeySet, UnknownKey, Trailing}
use Rattle.cose_head.specs.declared.refusal.Refusal.{Refusal}
use Rattle.cose_head.specs.Head.{bare_head}
use Rattle.cose_head.specs.Item.{depth_of}
use Rattle.cose_head.specs.Reading.{read, head}
use Rattle.cose_head.specs.Placed.{look, children_of, items_from, head_of_item}
use Rattle.cose_map.specs.Label.{LabelValue, number, words}
use Rattle.cose_map.specs.Map.Read.{Read, check_pairs}
use Rattle.cose_map.specs.Map.View.{refusal_in}
use Rattle.cose_map.specs.Key.{key_of}
use Rattle.cose_map.specs.Key.Form.{key_table}
use Rattle.cose_map.specs.Key.Material.{material_of}
use Rattle.cose_map.specs.KeySet.{keys_of}
use Rattle.cose_map.specs.Key.Value.{KeyValue, symmetric, elliptic, coordinate, sign}
use Rattle.cose_map.proofs.WorkedBuckets.{values}

unfoldable keys : List ℕ → Read (List KeyValue)
unfolding keys_of key_of key_table material_of check_pairs children_of items_from look head_of_item bare_head read head depth_of is_utf8 chars lib.Utf8.encode
keys bytes = keys_of bytes

unfoldable key : List ℕ → Read KeyValue
unfolding key_of key_table material_of check_pairs children_of items_from look head_of_item bare_head read head depth_of is_utf8 chars lib.Utf8.encode
key bytes = key_of (record { bytes = bytes; place = 0 })

abbrev refused : {A : Type 0} → Reason → ℕ → Read A
refused reason place = Err (record { reason = reason; place = place })

-- The bytes of 'Jefe', alone and for HMAC 256/256 only.
abbrev jefe : List ℕ
jefe = 0x4a ∷ 0x65 ∷ 0x66 ∷ 0x65 ∷ []

abbrev secret : Option LabelValue → KeyValue
secret alg = record { kid = None; alg = alg; operations = None; material = symmetric jefe }

plain_key : keys (0xa2 ∷ 1 ∷ 4 ∷ 0x20 ∷ 0x44 ∷ jefe) ≡ Ok (secret None ∷ [])
unfolding keys
plain_key = refl

key_for_one_algorithm : keys (0xa3 ∷ 1 ∷ 4 ∷ 3 ∷ 5 ∷ 0x20 ∷ 0x44 ∷ jefe) ≡ Ok (secret (Some (number (pos 5))) ∷ [])
unfolding keys
key_for_one_algorithm = refl

no_bytes : keys [] ≡ refused PastRoom 0
unfolding keys
no_bytes = refl

empty_array : keys (0x80 ∷ []) ≡ refused BadKeySet 0
unfolding keys
empty_array = refl

a_number : keys (0 ∷ []) ≡ refused BadKeySet 0
unfolding keys
a_number = refl

-- Only an array and a map are key sets, and bytes after an item have precedence over what it is.
no_sets : map keys ((0 ∷ []) ∷ (0x20 ∷ []) ∷ (0x40 ∷ []) ∷ (0x60 ∷ []) ∷ (0xc1 ∷ 0xa0 ∷ []) ∷ (0xf6 ∷ []) ∷ (0xf9 ∷ 0 ∷ 0 ∷ []) ∷ []) ≡ replicate 7 (refused BadKeySet 0)
unfolding keys
no_sets = refl

byte_after_no_set : map keys ((0 ∷ 0 ∷ []) ∷ (0x80 ∷ 0 ∷ []) ∷ []) ≡ replicate 2 (refused Trailing 1)
unfolding keys
byte_after_no_set = refl

empty_map : keys (0xa0 ∷ []) ≡ Ok []
unfolding keys
empty_map = refl

no_key : keys (0x81 ∷ 0 ∷ []) ≡ Ok []
unfolding keys
no_key = refl

byte_after : keys (0xa2 ∷ 1 ∷ 4 ∷ 0x20 ∷ 0x44 ∷ jefe ++ 0 ∷ []) ≡ refused Trailing 9
unfolding keys
byte_after = refl

byte_missing : keys (0xa2 ∷ 1 ∷ 4 ∷ 0x20 ∷ 0x44 ∷ 0x4a ∷ 0x65 ∷ 0x66 ∷ []) ≡ refused PastRoom 4
unfolding keys
byte_missing = refl

-- A key of an unknown type is skipped.
unknown_type : keys (0x82 ∷ 0xa2 ∷ 1 ∷ 1 ∷ 0x20 ∷ 6 ∷ 0xa2 ∷ 1 ∷ 4 ∷ 0x20 ∷ 0x44 ∷ jefe) ≡ Ok (secret None ∷ [])
unfolding keys
unknown_type = refl

-- The types and curves 260, 257 and 258 equal known ones in the low byte.
alike_in_the_low_byte : map key (
    (0xa2 ∷ 1 ∷ 0x19 ∷ 1 ∷ 4 ∷ 0x20 ∷ 0x44 ∷ jefe) ∷
    (0xa4 ∷ 1 ∷ 0x19 ∷ 1 ∷ 2 ∷ 0x20 ∷ 1 ∷ 0x21 ∷ 0x40 ∷ 0x22 ∷ 0x40 ∷ []) ∷
    (0xa4 ∷ 1 ∷ 2 ∷ 0x20 ∷ 0x19 ∷ 1 ∷ 1 ∷ 0x21 ∷ 0x40 ∷ 0x22 ∷ 0x40 ∷ []) ∷
    (0xa4 ∷ 1 ∷ 2 ∷ 0x20 ∷ 0x19 ∷ 1 ∷ 2 ∷ 0x21 ∷ 0x40 ∷ 0x22 ∷ 0x40 ∷ []) ∷ []) ≡ replicate 4 (refused UnknownKey 0)
unfolding key
alike_in_the_low_byte = refl

-- The same holds for what isn't a key for another reason: not a map, a bad label, a label twice, a bad value, a missing
-- member.
other_refused_keys : keys (0x86 ∷ 0x80 ∷ 0xa1 ∷ 0x40 ∷ 0 ∷ 0xa2 ∷ 1 ∷ 4 ∷ 1 ∷ 4 ∷ 0xa1 ∷ 1 ∷ 0x40 ∷ 0xa1 ∷ 1 ∷ 4 ∷ 0xa2 ∷ 1 ∷ 4 ∷ 0x20 ∷ 0x44 ∷ jefe) ≡ Ok (secret None ∷ [])
unfolding keys
other_refused_keys = refl

single_refused_key : keys (0xa1 ∷ 1 ∷ 4 ∷ []) ≡ Ok []
unfolding keys
single_refused_key = refl

-- A set has a nesting of at most 8, with the array that holds its keys, and so does a single key.
abbrev deep : ℕ → List ℕ
deep n = 0xa3 ∷ 1 ∷ 4 ∷ 0x20 ∷ 0x44 ∷ jefe ++ 0x0a ∷ replicate n 0x81 ++ 0 ∷ []

as_deep_as_allowed : keys (0x81 ∷ deep 6) ≡ Ok (secret None ∷ [])
unfolding keys
as_deep_as_allowed = refl

too_deep : keys (0x81 ∷ deep 7) ≡ refused TooDeep 17
unfolding keys
too_deep = refl

key_as_deep_as_allowed : key (deep 7) ≡ Ok (secret None)
unfolding key
key_as_deep_as_allowed = refl

key_too_deep : key (deep 8) ≡ refused TooDeep 17
unfolding key
key_too_deep = refl

keys_in_order : keys (0x82 ∷ 0xa2 ∷ 1 ∷ 4 ∷ 0x20 ∷ 0x41 ∷ 0x61 ∷ 0xa2 ∷ 1 ∷ 4 ∷ 0x20 ∷ 0x44 ∷ jefe)
    ≡ Ok (record { kid = None; alg = None; operations = None; material = symmetric (0x61 ∷ []) } ∷ secret None ∷ [])
unfolding keys
keys_in_order = refl

-- A key is read as a bucket is, except that zero bytes are not a key.
not_read : map key ([] ∷ (0x80 ∷ []) ∷ (0xa0 ∷ 0 ∷ []) ∷ (0xa1 ∷ 0x40 ∷ 0 ∷ []) ∷ (0xa2 ∷ 1 ∷ 4 ∷ 0x18 ∷ 1 ∷ 4 ∷ []) ∷ []) ≡
    refused PastRoom 0 ∷ refused NotMap 0 ∷ refused Trailing 1 ∷ refused BadLabel 1 ∷ refused DuplicateLabel 3 ∷ []
unfolding key
not_read = refl

-- The values that a member of keys of every type may have, of the values in the examples of buckets: a bad one is
-- refused at its place, and with a good one the type is missing, or is unknown.
abbrev bad : Option Refusal
bad = Some (record { reason = BadValue; place = 2 })

abbrev missing : Option Refusal
missing = Some (record { reason = BadValue; place = 0 })

abbrev unknown : Option Refusal
unknown = Some (record { reason = UnknownKey; place = 0 })

unfoldable refused_for : ℕ → List (Option Refusal)
unfolding key
refused_for label = map (λ value. refusal_in (key (0xa1 ∷ label ∷ value))) values

kty_values : refused_for 1 ≡
    unknown ∷ unknown ∷ bad ∷ unknown ∷ unknown ∷ bad ∷ bad ∷ bad ∷ bad ∷ bad ∷ bad ∷ bad ∷ bad ∷ bad ∷ bad ∷ bad ∷ []
unfolding refused_for
kty_values = refl

-- The identifier and the Base IV.
bytes_values : map refused_for (2 ∷ 5 ∷ []) ≡ replicate 2 (bad ∷ bad ∷ missing ∷ replicate 13 bad)
unfolding refused_for
bytes_values = refl

alg_values : refused_for 3 ≡
    missing ∷ missing ∷ bad ∷ missing ∷ bad ∷ bad ∷ bad ∷ bad ∷ bad ∷ bad ∷ bad ∷ bad ∷ bad ∷ bad ∷ bad ∷ bad ∷ []
unfolding refused_for
alg_values = refl

-- An operation may be any text string.
operations_values : refused_for 4 ≡
    bad ∷ bad ∷ bad ∷ bad ∷ bad ∷ bad ∷ missing ∷ missing ∷ bad ∷ missing ∷ bad ∷ bad ∷ bad ∷ bad ∷ bad ∷ bad ∷ []
unfolding refused_for
operations_values = refl

other_values : map refused_for (0 ∷ 6 ∷ 0x20 ∷ []) ≡ replicate 3 (replicate 16 missing)
unfolding refused_for
other_values = refl

no_type : key (0xa0 ∷ []) ≡ refused BadValue 0
unfolding key
no_type = refl

other_type : key (0xa2 ∷ 1 ∷ 1 ∷ 0x20 ∷ 6 ∷ []) ≡ refused UnknownKey 0
unfolding key
other_type = refl

-- The types next to 2 and 4, and these numbers with the other sign.
other_types : map (λ n. key (0xa1 ∷ 1 ∷ n ∷ [])) (0 ∷ 1 ∷ 3 ∷ 5 ∷ 0x21 ∷ 0x23 ∷ []) ≡ replicate 6 (refused UnknownKey 0)
unfolding key
other_types = refl

no_secrets : map (λ value. key (0xa2 ∷ 1 ∷ 4 ∷ 0x20 ∷ value)) values ≡ replicate 16 (refused BadValue 4)
unfolding key
no_secrets = refl

empty_secret : key (0xa2 ∷ 1 ∷ 4 ∷ 0x20 ∷ 0x40 ∷ []) ≡ refused BadValue 4
unfolding key
empty_secret = refl

missing_secret : key (0xa1 ∷ 1 ∷ 4 ∷ []) ≡ refused BadValue 0
unfolding key
missing_secret = refl

no_operation : key (0xa3 ∷ 1 ∷ 4 ∷ 4 ∷ 0x80 ∷ 0x20 ∷ 0x41 ∷ 0x61 ∷ []) ≡ refused BadValue 4
unfolding key
no_operation = refl

-- An operation that is a text string has no effect, also where it isn't UTF-8.
operations : key (0xa3 ∷ 1 ∷ 4 ∷ 4 ∷ 0x82 ∷ 0x0a ∷ 0x61 ∷ 0xff ∷ 0x20 ∷ 0x41 ∷ 0x61 ∷ [])
    ≡ Ok (record { kid = None; alg = None; operations = Some (pos 10 ∷ []); material = symmetric (0x61 ∷ []) })
unfolding key
operations = refl

all_operations : key (0xa3 ∷ 1 ∷ 4 ∷ 4 ∷ 0x83 ∷ 9 ∷ 0x61 ∷ 0x61 ∷ 0x0a ∷ 0x20 ∷ 0x41 ∷ 0x61 ∷ [])
    ≡ Ok (record { kid = None; alg = None; operations = Some (pos 9 ∷ pos 10 ∷ []); material = symmetric (0x61 ∷ []) })
unfolding key
all_operations = refl

-- An algorithm may be named by a text string, and an empty identifier is an identifier.
kid_and_named_algorithm : key (0xa4 ∷ 1 ∷ 4 ∷ 2 ∷ 0x41 ∷ 0x31 ∷ 3 ∷ 0x61 ∷ 0x35 ∷ 0x20 ∷ 0x41 ∷ 0x61 ∷ [])
    ≡ Ok (record { kid = Some (0x31 ∷ []); alg = Some (words (0x35 ∷ [])); operations = None; material = symmetric (0x61 ∷ []) })
unfolding key
kid_and_named_algorithm = refl

empty_kid : key (0xa3 ∷ 1 ∷ 4 ∷ 2 ∷ 0x40 ∷ 0x20 ∷ 0x41 ∷ 0x61 ∷ [])
    ≡ Ok (record { kid = Some []; alg = None; operations = None; material = symmetric (0x61 ∷ []) })
unfolding key
empty_kid = refl

abbrev point : List ℕ
point = replicate 32 7

sign_of_y : key (0xa4 ∷ 1 ∷ 2 ∷ 0x20 ∷ 1 ∷ 0x21 ∷ 0x58 ∷ 32 ∷ point ++ 0x22 ∷ 0xf5 ∷ [])
    ≡ Ok (record { kid = None; alg = None; operations = None; material = elliptic 1 point (sign true) })
unfolding key
sign_of_y = refl

sign_of_even_y : key (0xa4 ∷ 1 ∷ 2 ∷ 0x20 ∷ 1 ∷ 0x21 ∷ 0x58 ∷ 32 ∷ point ++ 0x22 ∷ 0xf4 ∷ [])
    ≡ Ok (record { kid = None; alg = None; operations = None; material = elliptic 1 point (sign false) })
unfolding key
sign_of_even_y = refl

-- Both coordinates, with their leading zeros (RFC 9053 section 7.1.1).
abbrev small : List ℕ
small = 0 ∷ 0 ∷ replicate 30 8

both_coordinates : key (0xa4 ∷ 1 ∷ 2 ∷ 0x20 ∷ 1 ∷ 0x21 ∷ 0x58 ∷ 32 ∷ point ++ 0x22 ∷ 0x58 ∷ 32 ∷ small)
    ≡ Ok (record { kid = None; alg = None; operations = None; material = elliptic 1 point (coordinate small) })
unfolding key
both_coordinates = refl

leading_zeros : key (0xa4 ∷ 1 ∷ 2 ∷ 0x20 ∷ 1 ∷ 0x21 ∷ 0x58 ∷ 32 ∷ small ++ 0x22 ∷ 0x58 ∷ 32 ∷ point)
    ≡ Ok (record { kid = None; alg = None; operations = None; material = elliptic 1 small (coordinate point) })
unfolding key
leading_zeros = refl

-- A coordinate without its leading zero, and one with an additional zero.
short_y : key (0xa4 ∷ 1 ∷ 2 ∷ 0x20 ∷ 1 ∷ 0x21 ∷ 0x58 ∷ 32 ∷ point ++ 0x22 ∷ 0x58 ∷ 31 ∷ replicate 31 7) ≡ refused BadValue 41
unfolding key
short_y = refl

long_y : key (0xa4 ∷ 1 ∷ 2 ∷ 0x20 ∷ 1 ∷ 0x21 ∷ 0x58 ∷ 32 ∷ point ++ 0x22 ∷ 0x58 ∷ 33 ∷ 0 ∷ point) ≡ refused BadValue 41
unfolding key
long_y = refl

-- A curve that a text string names isn't known, also where the text string isn't UTF-8.
named_curve : key (0xa2 ∷ 1 ∷ 2 ∷ 0x20 ∷ 0x61 ∷ 0xff ∷ []) ≡ refused UnknownKey 0
unfolding key
named_curve = refl

-- The numbers next to those of the curves, X25519 (4), and Ed25519 (6) (RFC 9053 section 7.1, table 18).
other_curves : map (λ n. key (0xa2 ∷ 1 ∷ 2 ∷ 0x20 ∷ n ∷ [])) (0 ∷ 4 ∷ 5 ∷ 6 ∷ 0x20 ∷ 0x21 ∷ 0x22 ∷ []) ≡ replicate 7 (refused UnknownKey 0)
unfolding key
other_curves = refl

missing_curve : key (0xa1 ∷ 1 ∷ 2 ∷ []) ≡ refused BadValue 0
unfolding key
missing_curve = refl

-- On each usable curve x must be present.
missing_x : map (λ n. key (0xa2 ∷ 1 ∷ 2 ∷ 0x20 ∷ n ∷ [])) (1 ∷ 2 ∷ 3 ∷ []) ≡ replicate 3 (refused BadValue 0)
unfolding key
missing_x = refl

-- Points on P-384 (2) and on P-521 (3), whose coordinates have 48 and 66 bytes.
abbrev x_and : ℕ → ℕ → List ℕ → List ℕ
x_and curve length_of_x y = 0xa4 ∷ 1 ∷ 2 ∷ 0x20 ∷ curve ∷ 0x21 ∷ 0x58 ∷ length_of_x ∷ replicate length_of_x 7 ++ 0x22 ∷ y

abbrev y_of : ℕ → List ℕ
y_of n = 0x58 ∷ n ∷ replicate n 8

point_on_p_384 : key (x_and 2 48 (y_of 48))
    ≡ Ok (record { kid = None; alg = None; operations = None; material = elliptic 2 (replicate 48 7) (coordinate (replicate 48 8)) })
unfolding key
point_on_p_384 = refl

point_on_p_521 : key (x_and 3 66 (y_of 66))
    ≡ Ok (record { kid = None; alg = None; operations = None; material = elliptic 3 (replicate 66 7) (coordinate (replicate 66 8)) })
unfolding key
point_on_p_521 = refl

sign_on_p_384 : key (x_and 2 48 (0xf5 ∷ []))
    ≡ Ok (record { kid = None; alg = None; operations = None; material = elliptic 2 (replicate 48 7) (sign true) })
unfolding key
sign_on_p_384 = refl

sign_on_p_521 : key (x_and 3 66 (0xf4 ∷ []))
    ≡ Ok (record { kid = None; alg = None; operations = None; material = elliptic 3 (replicate 66 7) (sign false) })
unfolding key
sign_on_p_521 = refl

-- Coordinates that are a byte too short or too long, or as long as those of another curve.
other_x_on_p_256 : map (λ n. key (x_and 1 n (y_of 32))) (48 ∷ 66 ∷ []) ≡ replicate 2 (refused BadValue 6)
unfolding key
other_x_on_p_256 = refl

other_x_on_p_384 : map (λ n. key (x_and 2 n (y_of 48))) (32 ∷ 47 ∷ 49 ∷ 66 ∷ []) ≡ replicate 4 (refused BadValue 6)
unfolding key
other_x_on_p_384 = refl

other_x_on_p_521 : map (λ n. key (x_and 3 n (y_of 66))) (32 ∷ 48 ∷ 64 ∷ 65 ∷ 67 ∷ []) ≡ replicate 5 (refused BadValue 6)
unfolding key
other_x_on_p_521 = refl

other_y_on_p_384 : map (λ n. key (x_and 2 48 (y_of n))) (32 ∷ 47 ∷ 49 ∷ 66 ∷ []) ≡ replicate 4 (refused BadValue 57)
unfolding key
other_y_on_p_384 = refl

other_y_on_p_521 : map (λ n. key (x_and 3 66 (y_of n))) (48 ∷ 64 ∷ 65 ∷ 67 ∷ []) ≡ replicate 4 (refused BadValue 75)
unfolding key
other_y_on_p_521 = refl

-- A member of another form is refused at its value: bytes for a curve, a number for x, nil for y, and a number for d.
no_curves : map (λ value. key (0xa2 ∷ 1 ∷ 2 ∷ 0x20 ∷ value)) values ≡
    refused UnknownKey 0 ∷ refused UnknownKey 0 ∷ refused BadValue 4 ∷ refused UnknownKey 0 ∷ refused UnknownKey 0 ∷ replicate 11 (refused BadValue 4)
unfolding key
no_curves = refl

no_x : map (λ value. key (0xa3 ∷ 1 ∷ 2 ∷ 0x20 ∷ 1 ∷ 0x21 ∷ value)) values ≡ replicate 16 (refused BadValue 6)
unfolding key
no_x = refl

-- y may be false, and d bytes.
abbrev refused_at : ℕ → Option Refusal
refused_at place = Some (record { reason = BadValue; place = place })

no_y : map (λ value. refusal_in (key (0xa4 ∷ 1 ∷ 2 ∷ 0x20 ∷ 1 ∷ 0x21 ∷ 0x58 ∷ 32 ∷ point ++ 0x22 ∷ value))) values ≡
    replicate 13 (refused_at 41) ++ None ∷ refused_at 41 ∷ refused_at 41 ∷ []
unfolding key
no_y = refl

no_d : map (λ value. refusal_in (key (0xa5 ∷ 1 ∷ 2 ∷ 0x20 ∷ 1 ∷ 0x21 ∷ 0x58 ∷ 32 ∷ point ++ 0x22 ∷ 0xf5 ∷ 0x23 ∷ value))) values ≡
    refused_at 43 ∷ refused_at 43 ∷ None ∷ replicate 13 (refused_at 43)
unfolding key
no_d = refl

bytes_for_a_curve : key (0xa2 ∷ 1 ∷ 2 ∷ 0x20 ∷ 0x40 ∷ []) ≡ refused BadValue 4
unfolding key
bytes_for_a_curve = refl

number_for_x : key (0xa3 ∷ 1 ∷ 2 ∷ 0x20 ∷ 1 ∷ 0x21 ∷ 0 ∷ []) ≡ refused BadValue 6
unfolding key
number_for_x = refl

nil_for_y : key (0xa4 ∷ 1 ∷ 2 ∷ 0x20 ∷ 1 ∷ 0x21 ∷ 0x58 ∷ 32 ∷ point ++ 0x22 ∷ 0xf6 ∷ []) ≡ refused BadValue 41
unfolding key
nil_for_y = refl

number_for_d : key (0xa5 ∷ 1 ∷ 2 ∷ 0x20 ∷ 1 ∷ 0x21 ∷ 0x58 ∷ 32 ∷ point ++ 0x22 ∷ 0xf5 ∷ 0x23 ∷ 0 ∷ []) ≡ refused BadValue 43
unfolding key
number_for_d = refl

-- The members in their order, wherever they are in the map: x before y, and y before d, also where they are missing.
x_before_y : key (0xa4 ∷ 1 ∷ 2 ∷ 0x20 ∷ 1 ∷ 0x22 ∷ 0 ∷ 0x21 ∷ 0x41 ∷ 7 ∷ []) ≡ refused BadValue 8
unfolding key
x_before_y = refl

missing_x_before_y : key (0xa3 ∷ 1 ∷ 2 ∷ 0x20 ∷ 1 ∷ 0x22 ∷ 0 ∷ []) ≡ refused BadValue 0
unfolding key
missing_x_before_y = refl

y_before_d : key (0xa5 ∷ 1 ∷ 2 ∷ 0x20 ∷ 1 ∷ 0x23 ∷ 0 ∷ 0x21 ∷ 0x58 ∷ 32 ∷ point ++ 0x22 ∷ 0 ∷ []) ≡ refused BadValue 43
unfolding key
y_before_d = refl

missing_y_before_d : key (0xa4 ∷ 1 ∷ 2 ∷ 0x20 ∷ 1 ∷ 0x23 ∷ 0 ∷ 0x21 ∷ 0x58 ∷ 32 ∷ point) ≡ refused BadValue 0
unfolding key
missing_y_before_d = refl

-- The members of every type have precedence over those of one.
kid_before_type : key (0xa2 ∷ 1 ∷ 1 ∷ 2 ∷ 0 ∷ []) ≡ refused BadValue 4
unfolding key
kid_before_type = refl

short_and_long_x : map (λ n. key (0xa3 ∷ 1 ∷ 2 ∷ 0x20 ∷ 1 ∷ 0x21 ∷ 0x58 ∷ n ∷ replicate n 7)) (31 ∷ 33 ∷ []) ≡ replicate 2 (refused BadValue 6)
unfolding key
short_and_long_x = refl

short_x : key (0xa3 ∷ 1 ∷ 2 ∷ 0x20 ∷ 1 ∷ 0x21 ∷ 0x41 ∷ 7 ∷ []) ≡ refused BadValue 6
unfolding key
short_x = refl

missing_y : key (0xa3 ∷ 1 ∷ 2 ∷ 0x20 ∷ 1 ∷ 0x21 ∷ 0x58 ∷ 32 ∷ point) ≡ refused BadValue 0
unfolding key
missing_y = refl
