-- Tables of keys on examples, by computing.
use Rattle.std.proofs.Common.{◌≡◌, ℕ, ℤ, pos, List, [], ◌∷◌, ◌++◌, Some, None, Result, Ok, Err, refl}
use Rattle.std.specs.Str.{is_utf8, chars}
use Rattle.cose_head.specs.declared.kind.Kind.TheVariants.{Mac0}
use Rattle.cose_head.specs.declared.reason.Reason.{Reason}
use Rattle.cose_head.specs.declared.reason.Reason.TheVariants.{PastRoom, BadKeySet, Trailing, NoKey, AmbiguousKey}
use Rattle.cose_head.specs.Head.{bare_head}
use Rattle.cose_head.specs.Item.{depth_of}
use Rattle.cose_head.specs.Reading.{read, head}
use Rattle.cose_head.specs.Placed.{look, children_of, items_from, head_of_item}
use Rattle.cose_map.specs.Choice.{Question, chosen}
use Rattle.cose_map.specs.Label.{number}
use Rattle.cose_map.specs.Map.Read.{Read, check_pairs, ◌>>=◌}
use Rattle.cose_map.specs.Key.{key_of}
use Rattle.cose_map.specs.Key.Form.{key_table}
use Rattle.cose_map.specs.Key.Material.{material_of}
use Rattle.cose_map.specs.KeySet.{keys_of}
use Rattle.cose_map.specs.KeyTable.{table_of}
use Rattle.cose_map.specs.Key.Value.{KeyValue, symmetric}

unfoldable table : ℕ → List ℕ → Read (List KeyValue)
unfolding keys_of key_of key_table material_of check_pairs children_of items_from look head_of_item bare_head read head depth_of is_utf8 chars lib.Utf8.encode
table room bytes = table_of room (keys_of bytes)

abbrev refused : {A : Type 0} → Reason → ℕ → Read A
refused reason place = Err (record { reason = reason; place = place })

-- A symmetric key of one byte, and its value.
abbrev secret : ℕ → List ℕ
secret byte = 0xa2 ∷ 1 ∷ 4 ∷ 0x20 ∷ 0x41 ∷ byte ∷ []

abbrev key : ℕ → KeyValue
key byte = record { kid = None; alg = None; operations = None; material = symmetric (byte ∷ []) }

-- A key of an unknown type.
abbrev unusable : List ℕ
unusable = 0xa2 ∷ 1 ∷ 1 ∷ 0x20 ∷ 6 ∷ []

one_key : table 1 (secret 0x61) ≡ Ok (key 0x61 ∷ [])
unfolding table
one_key = refl

full_table : table 2 (0x82 ∷ secret 0x61 ++ secret 0x62) ≡ Ok (key 0x61 ∷ key 0x62 ∷ [])
unfolding table
full_table = refl

one_key_more : table 1 (0x82 ∷ secret 0x61 ++ secret 0x62) ≡ refused BadKeySet 0
unfolding table
one_key_more = refl

third_key : table 2 (0x83 ∷ secret 0x61 ++ secret 0x62 ++ secret 0x63) ≡ refused BadKeySet 0
unfolding table
third_key = refl

-- A key that is not usable takes no room, wherever it is in the set.
unusable_last : table 2 (0x83 ∷ secret 0x61 ++ secret 0x62 ++ unusable) ≡ Ok (key 0x61 ∷ key 0x62 ∷ [])
unfolding table
unusable_last = refl

unusable_first : table 1 (0x83 ∷ unusable ++ unusable ++ secret 0x61) ≡ Ok (key 0x61 ∷ [])
unfolding table
unusable_first = refl

no_key : table 1 (0x81 ∷ unusable) ≡ Ok []
unfolding table
no_key = refl

-- The set's own fault has precedence.
byte_after : table 2 (0x83 ∷ secret 0x61 ++ secret 0x62 ++ secret 0x63 ++ 0 ∷ []) ≡ refused Trailing 19
unfolding table
byte_after = refl

key_missing : table 2 (0x84 ∷ secret 0x61 ++ secret 0x62 ++ secret 0x63) ≡ refused PastRoom 19
unfolding table
key_missing = refl

-- The query of a MAC by HMAC 256/256.
abbrev asked : Question
asked = record { kind = Mac0; operation = pos 10; protected_alg = Some (number (pos 5)); unprotected_alg = None; kid = None }

unfoldable found : ℕ → List ℕ → Read (Result (KeyValue × ℤ) Reason)
unfolding table chosen
found room bytes = table room bytes >>= (λ keys. Ok (chosen asked keys))

empty_set : found 1 (0xa0 ∷ []) ≡ Ok (Err NoKey)
unfolding found
empty_set = refl

only_key : found 1 (secret 0x61) ≡ Ok (Ok (key 0x61, pos 5))
unfolding found
only_key = refl

two_keys : found 2 (0x82 ∷ secret 0x61 ++ secret 0x62) ≡ Ok (Err AmbiguousKey)
unfolding found
two_keys = refl

-- The first key is for HMAC 256/64 alone.
abbrev for_four : List ℕ
for_four = 0xa3 ∷ 1 ∷ 4 ∷ 3 ∷ 4 ∷ 0x20 ∷ 0x41 ∷ 0x61 ∷ []

second_key : found 2 (0x82 ∷ for_four ++ secret 0x62) ≡ Ok (Ok (key 0x62, pos 5))
unfolding found
second_key = refl

other_algorithm : found 2 for_four ≡ Ok (Err NoKey)
unfolding found
other_algorithm = refl

no_room : found 1 (0x82 ∷ for_four ++ secret 0x62) ≡ refused BadKeySet 0
unfolding found
no_room = refl
