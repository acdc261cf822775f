-- What the program prints that signatures are verified with, on examples, by computing. The digest is left as it is
-- defined.
use Rattle.std.specs.Prelude.{◌≡◌, ℕ, true, false, List, [], ◌∷◌, ◌++◌, map, replicate, Some, None, refl}
use Rattle.std.specs.Fmt.{digits}
use Rattle.std.specs.Str.{is_utf8, chars}
use Rattle.cose_head.specs.Head.{bare_head, shortest_head}
use Rattle.cose_head.specs.Item.{depth_of}
use Rattle.cose_head.specs.Placed.{look, children_of, items_from, head_of_item}
use Rattle.cose_head.specs.Reading.{read, head}
use Rattle.cose_head.specs.Shortest.{shortest, shortest_all}
use Rattle.cose_head.specs.declared.algorithm.Alg.TheVariants.{Es256, Es384, Es512}
use Rattle.cose_mac.specs.Hash.{digest_of}
use Rattle.cose_msg.specs.declared.context.Wanted.TheVariants as wants
use Rattle.cose_mac.specs.Structure.{sig_structure}
use Rattle.cose_map.specs.Bucket.{bucket_of}
use Rattle.cose_map.specs.Bucket.Both.{pair_faults}
use Rattle.cose_map.specs.Bucket.Form.{bucket_table}
use Rattle.cose_map.specs.Choice.{chosen}
use Rattle.cose_map.specs.Key.{key_of}
use Rattle.cose_map.specs.Key.Form.{key_table}
use Rattle.cose_map.specs.Key.Material.{material_of}
use Rattle.cose_map.specs.Key.Value.{coordinate, sign}
use Rattle.cose_map.specs.KeySet.{keys_of}
use Rattle.cose_map.specs.Map.Read.{check_pairs}
use Rattle.cose_msg.specs.Message.{message, structure}
use Rattle.cose_msg.specs.Reading.{with_head, with_string, with_item}
use Rattle.cose_answers.specs.declared.reply.Status.TheVariants as statuses
use Rattle.cose_answers.specs.Printed.{Output, digested_under, vouched}
use Rattle.cose_answers.specs.Vouch.{word_for}
use Rattle.cose_answers.proofs.WorkedPrinted.{Prints, any, checks_for, hex, line, plain, point}

unfoldable digests : List ℕ → List ℕ → List ℕ → Output
unfolding keys_of key_of key_table material_of message with_head with_string with_item bucket_of bucket_table check_pairs pair_faults chosen children_of items_from look head_of_item bare_head read head depth_of is_utf8 chars lib.Utf8.encode digits
digests keys aad input = digested_under (checks_for keys aad wants.Sign1 None) None input

-- With this payload next to the message.
unfoldable digests_beside : List ℕ → List ℕ → List ℕ → Output
unfolding keys_of key_of key_table material_of message with_head with_string with_item bucket_of bucket_table check_pairs pair_faults chosen children_of items_from look head_of_item bare_head read head depth_of is_utf8 chars lib.Utf8.encode digits
digests_beside keys payload input = digested_under (checks_for keys [] wants.Sign1 None) (Some payload) input

-- The digest of the structure, the signature, and the point; the message may come after its tag or without it.
abbrev told : (ℕ → ℕ) → Output
told byte = vouched (word_for 1 (replicate 32 7) (coordinate (replicate 32 8)) (digest_of Es256 (hex "846a5369676e61747572653143a101264040")) (any byte 64))

tagged : (byte : ℕ → ℕ) → digests point [] (hex "d28443a10126a0 40 5840" ++ any byte 64) ≡ told byte
unfolding digests structure sig_structure shortest shortest_all shortest_head
tagged byte = refl

untagged : (byte : ℕ → ℕ) → digests point [] (hex "8443a10126a0 40 5840" ++ any byte 64) ≡ told byte
unfolding digests structure sig_structure shortest shortest_all shortest_head
untagged byte = refl

in_cwt : (byte : ℕ → ℕ) → digests point [] (hex "d83dd28443a10126a0 40 5840" ++ any byte 64) ≡ told byte
unfolding digests structure sig_structure shortest shortest_all shortest_head
in_cwt byte = refl

-- A payload next to the message is signed as one in it is; without it nil is refused.
detached : (byte : ℕ → ℕ) → digests_beside point (hex "6869") (hex "d28443a10126a0 f6 5840" ++ any byte 64) ≡
    vouched (word_for 1 (replicate 32 7) (coordinate (replicate 32 8)) (digest_of Es256 (hex "846a5369676e61747572653143a1012640426869")) (any byte 64))
unfolding digests_beside structure sig_structure shortest shortest_all shortest_head
detached byte = refl

refused_beside : Prints (digests_beside point (hex "6869")) (
    ("d28443a10126a0", line "refused Truncated at 7" statuses.Refused) ∷
    ("d28443a10126a0426869", line "refused Attached at 7" statuses.Refused) ∷
    ("d28443a10126a0f6", line "refused Truncated at 8" statuses.Refused) ∷ [])
unfolding digests_beside digits
refused_beside = refl

without_payload : digests point [] (hex "d28443a10126a0f6") ≡ line "refused Detached at 7" statuses.Refused
unfolding digests
without_payload = refl

-- A point on P-384 for ES384, and one on P-521 for ES512.
abbrev point_on_p_384 : List ℕ
point_on_p_384 = hex "a401022002215830" ++ (replicate 48 7 ++ (hex "225830" ++ replicate 48 8))

abbrev point_on_p_521 : List ℕ
point_on_p_521 = hex "a401022003215842" ++ (replicate 66 7 ++ (hex "225842" ++ replicate 66 8))

by_es384 : (byte : ℕ → ℕ) → digests point_on_p_384 [] (hex "d28444a1013822a0 40 5860" ++ any byte 96) ≡
    vouched (word_for 2 (replicate 48 7) (coordinate (replicate 48 8)) (digest_of Es384 (hex "846a5369676e61747572653144a10138224040")) (any byte 96))
unfolding digests structure sig_structure shortest shortest_all shortest_head
by_es384 byte = refl

by_es512 : (byte : ℕ → ℕ) → digests point_on_p_521 [] (hex "d28444a1013823a0 40 5884" ++ any byte 132) ≡
    vouched (word_for 3 (replicate 66 7) (coordinate (replicate 66 8)) (digest_of Es512 (hex "846a5369676e61747572653144a10138234040")) (any byte 132))
unfolding digests structure sig_structure shortest shortest_all shortest_head
by_es512 byte = refl

-- An argument of `--vouch`: the curve in one byte, the digest, the signature, x and y, or one byte for the sign of y.
words_for : map (λ y. word_for 1 (hex "aa") y (hex "dd") (hex "5555")) (coordinate (hex "bb") ∷ sign true ∷ sign false ∷ []) ≡
    hex "01 dd 5555 aa bb" ∷ hex "01 dd 5555 aa 01" ∷ hex "01 dd 5555 aa 00" ∷ []
words_for = refl

-- External data are in the structure; a coordinate y that is a sign alone is printed as one byte.
abbrev signed_point : List ℕ
signed_point = hex "a401022001215820" ++ (replicate 32 7 ++ hex "22f5")

with_data : (byte : ℕ → ℕ) → digests signed_point (hex "01") (hex "d28443a10126a0 40 5840" ++ any byte 64) ≡
    vouched (word_for 1 (replicate 32 7) (sign true) (digest_of Es256 (hex "846a5369676e61747572653143a10126410140")) (any byte 64))
unfolding digests structure sig_structure shortest shortest_all shortest_head
with_data byte = refl

-- A byte after the message, and one too few.
longer : (byte : ℕ → ℕ) → digests point [] (hex "d28443a10126a0 40 5840" ++ (any byte 64 ++ hex "00")) ≡ line "refused Trailing at 74" statuses.Refused
unfolding digests structure sig_structure shortest shortest_all shortest_head
longer byte = refl

shorter : (byte : ℕ → ℕ) → digests point [] (hex "d28443a10126a0 40 5840" ++ any byte 63) ≡ line "refused Truncated at 73" statuses.Refused
unfolding digests structure sig_structure shortest shortest_all shortest_head
shorter byte = refl

-- A COSE_Mac0 has no signature, whatever its key.
refused_messages : Prints (digests point []) (
    ("", line "refused Truncated at 0" statuses.Refused) ∷
    ("d1", line "refused WrongTag at 0" statuses.Refused) ∷
    ("d28443a10105a040", line "refused UnknownAlg at 7" statuses.Refused) ∷
    ("d28443a10126a0f6", line "refused Detached at 7" statuses.Refused) ∷ [])
unfolding digests
refused_messages = refl

-- The limits are those of `verify`, and no label is understood in addition to the standard's.
at_the_limits : Prints (digests point []) (
    ("d284590400", line "refused Truncated at 5" statuses.Refused) ∷
    ("d284590401", line "refused PastRoom at 2" statuses.Refused) ∷
    ("d2844aa10a8181818181818100", line "refused Truncated at 13" statuses.Refused) ∷
    ("d2844ba10a818181818181818100", line "refused TooDeep at 12" statuses.Refused) ∷
    ("d28443a10126a10a5903fb", line "refused Truncated at 11" statuses.Refused) ∷
    ("d28443a10126a10a5903fc", line "refused PastRoom at 8" statuses.Refused) ∷
    ("d28443a10126a10a8181818181818100", line "refused Truncated at 16" statuses.Refused) ∷
    ("d28443a10126a10a818181818181818100", line "refused TooDeep at 15" statuses.Refused) ∷
    ("d28443a10126a05b00ffffffffffffff", line "refused Truncated at 16" statuses.Refused) ∷
    ("d28443a10126a05b0100000000000000", line "refused PayloadTooLong at 7" statuses.Refused) ∷
    ("d2844aa301260281182a182a00a0", line "refused CritUnknown at 8" statuses.Refused) ∷ [])
unfolding digests
at_the_limits = refl

no_key : digests plain [] (hex "d28443a10126a040") ≡ line "refused NoKey at 7" statuses.Refused
unfolding digests
no_key = refl

-- A key set that is refused, whatever the input.
refused_set : (input : List ℕ) → digests (hex "80") [] input ≡ line "fault keys BadKeySet at 0" statuses.Fault
unfolding digests
refused_set input = refl
