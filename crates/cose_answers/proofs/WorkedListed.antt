-- What the program prints of key sets that it lists, on examples, by computing.
use Rattle.std.specs.Prelude.{◌≡◌, ℕ, ℤ, List, [], ◌∷◌, ◌++◌, replicate, codes, Option, None, Ok, pos, refl}
use Rattle.std.specs.Fmt.{digits}
use Rattle.std.specs.Str.{is_utf8, chars}
use Rattle.cose_head.specs.Head.{bare_head}
use Rattle.cose_head.specs.Item.{depth_of}
use Rattle.cose_head.specs.Placed.{look, children_of, items_from, head_of_item}
use Rattle.cose_head.specs.Reading.{read, head}
use Rattle.cose_map.specs.Key.{key_of}
use Rattle.cose_map.specs.Key.Form.{key_table}
use Rattle.cose_map.specs.Key.Material.{material_of}
use Rattle.cose_map.specs.Key.Value.{YValue, symmetric, elliptic}
use Rattle.cose_map.specs.KeySet.{keys_of}
use Rattle.cose_map.specs.Label.{LabelValue}
use Rattle.cose_map.specs.Map.Read.{check_pairs}
use Rattle.cose_answers.specs.declared.reply.Status.TheVariants as statuses
use Rattle.cose_answers.specs.KeysListed.{count_line, ops_words, outcome_words, set_status}
use Rattle.cose_answers.specs.Printed.{Output, keys_listed}
use Rattle.cose_answers.proofs.WorkedPrinted.{hex, line}
use Rattle.cose_answers.proofs.WorkedShown.{lines}
use Rattle.hex.specs.Hex.{encode_with}

unfoldable listed : List ℕ → Output
unfolding keys_of key_of key_table material_of check_pairs children_of items_from look head_of_item bare_head read head depth_of is_utf8 chars lib.Utf8.encode digits encode_with
listed bytes = keys_listed bytes

one_key : listed (hex "a2010420444a656665") ≡ lines ("key at 0 kty 4 usable" ∷ "usable 1 of 1" ∷ [])
unfolding listed
one_key = refl

-- Two secrets, a point without its curve, and a number.
an_array : listed (hex "84 a2010420444a656665 a10102 a50104024231310305048209 0a2041ff 00") ≡ lines (
    "key at 1 kty 4 usable" ∷ "key at 10 refused BadValue at 10" ∷ "key at 13 kty 4 kid 3131 alg 5 ops 9,10 usable" ∷ "key at 29 refused NotMap at 29" ∷
    "usable 2 of 4" ∷ [])
unfolding listed
an_array = refl

a_point : listed (hex "a5010203262001215820" ++ replicate 32 7 ++ hex "22f5") ≡ lines ("key at 0 kty 2 crv 1 alg -7 usable" ∷ "usable 1 of 1" ∷ [])
unfolding listed
a_point = refl

-- A text ends no line, and no quotes. An operation that is a text has no number.
a_text : listed (hex "a401040364 61220a62 0481 647369676e 204100") ≡ lines ("key at 0 kty 4 alg \"a\\\"\\u000ab\" ops usable" ∷ "usable 1 of 1" ∷ [])
unfolding listed
a_text = refl

-- The place of a fault is relative to the first byte of the set too.
empty_secret : listed (hex "82 a0 a201042040") ≡ lines ("key at 1 refused BadValue at 1" ∷ "key at 2 refused BadValue at 6" ∷ "usable 0 of 2" ∷ [])
unfolding listed
empty_secret = refl

no_set : listed (hex "80") ≡ line "fault keys BadKeySet at 0" statuses.Fault
unfolding listed
no_set = refl

a_set_and_a_byte : listed (hex "81a000") ≡ line "fault keys Trailing at 2" statuses.Fault
unfolding listed
a_set_and_a_byte = refl

-- In the order of their numbers, however they are listed; only those of the standard.
in_order : ops_words (pos 10 ∷ pos 11 ∷ pos 2 ∷ pos 0 ∷ pos 1 ∷ []) ≡ codes " ops 1,2,10"
unfolding digits
in_order = refl

as_many_as_there_is_room_for : count_line 16 17 ≡ codes "usable 16 of 17\n"
unfolding digits
as_many_as_there_is_room_for = refl

one_too_many : count_line 17 17 ≡ codes "usable 17 of 17 refused BadKeySet at 0\n"
unfolding digits
one_too_many = refl

status_of_many : set_status 16 ≡ statuses.Done
status_of_many = refl

status_of_too_many : set_status 17 ≡ statuses.Refused
status_of_too_many = refl

-- Whatever the bytes of a secret are, and however many there are, its line is the same; and so is that of a point on a curve.
no_byte_of_a_secret : (kid : Option (List ℕ)) (alg : Option LabelValue) (operations : Option (List ℤ)) (secret other : List ℕ) →
    outcome_words None (Ok (record { kid = kid; alg = alg; operations = operations; material = symmetric secret }))
    ≡ outcome_words None (Ok (record { kid = kid; alg = alg; operations = operations; material = symmetric other }))
no_byte_of_a_secret kid alg operations secret other = refl

no_byte_of_a_point : (kid : Option (List ℕ)) (alg : Option LabelValue) (operations : Option (List ℤ)) (curve : ℕ) (x other_x : List ℕ) (y other_y : YValue) →
    outcome_words None (Ok (record { kid = kid; alg = alg; operations = operations; material = elliptic curve x y }))
    ≡ outcome_words None (Ok (record { kid = kid; alg = alg; operations = operations; material = elliptic curve other_x other_y }))
no_byte_of_a_point kid alg operations curve x other_x y other_y = refl
