-- What the program prints of key sets that it lists for a message, on examples, by computing: each condition that a key fails, and a
-- message that is refused for its headers.
use Rattle.std.specs.Prelude.{◌≡◌, ℕ, List, [], ◌∷◌, ◌++◌, replicate, refl}
use Rattle.std.specs.Fmt.{digits}
use Rattle.std.specs.Str.{is_utf8, chars}
use Rattle.cose_head.specs.Head.{bare_head}
use Rattle.cose_head.specs.Item.{depth_of}
use Rattle.cose_head.specs.Placed.{look, children_of, items_from, head_of_item}
use Rattle.cose_head.specs.Reading.{read, head}
use Rattle.cose_head.specs.declared.kind.Kind.{Kind}
use Rattle.cose_head.specs.declared.kind.Kind.TheVariants.{Mac0, Sign1}
use Rattle.cose_map.specs.Bucket.{bucket_of}
use Rattle.cose_map.specs.Bucket.Both.{pair_faults}
use Rattle.cose_map.specs.Bucket.Form.{bucket_table}
use Rattle.cose_map.specs.Choice.{chosen}
use Rattle.cose_map.specs.Choice.Mismatch.{mismatch}
use Rattle.cose_map.specs.Key.{key_of}
use Rattle.cose_map.specs.Key.Form.{key_table}
use Rattle.cose_map.specs.Key.Material.{material_of}
use Rattle.cose_map.specs.KeySet.{keys_of}
use Rattle.cose_map.specs.Map.Read.{check_pairs}
use Rattle.cose_msg.specs.declared.context.Wanted.{Wanted}
use Rattle.cose_msg.specs.declared.context.Wanted.TheVariants as wants
use Rattle.cose_msg.specs.Message.{message}
use Rattle.cose_msg.specs.Reading.{with_head, with_string, with_item}
use Rattle.cose_answers.specs.declared.reply.Status.TheVariants as statuses
use Rattle.cose_answers.specs.AskedKeys.{kind_asked}
use Rattle.cose_answers.specs.Printed.{Output, keys_listed_for}
use Rattle.cose_answers.proofs.WorkedPrinted.{hex, line}
use Rattle.cose_answers.proofs.WorkedShown.{lines}
use Rattle.hex.specs.Hex.{encode_with}

unfoldable listed : Wanted → List ℕ → List ℕ → Output
unfolding keys_of key_of key_table material_of message with_head with_string with_item bucket_of bucket_table check_pairs pair_faults chosen mismatch children_of items_from look head_of_item bare_head read head depth_of is_utf8 chars lib.Utf8.encode digits encode_with
listed wanted keys bytes = keys_listed_for wanted keys bytes

unfoldable kind : Wanted → List ℕ → Kind
unfolding message with_head with_string with_item bucket_of bucket_table check_pairs pair_faults chosen children_of items_from look head_of_item bare_head read head depth_of is_utf8 chars lib.Utf8.encode
kind wanted bytes = kind_asked wanted bytes

-- Under a COSE_Mac0 with HMAC 256/256 (5) and the identifier 31: the key for it, and keys that fail one condition.
each_condition : listed wants.Tagged (hex "86 a301040241312041ff a401040241310306 2041ff a401040241310481 09 2041ff a301040241322041ff a201042041ff 00") (hex "d18443a10105a1044131 40 40") ≡ lines (
    "key at 1 kty 4 kid 31 usable fits" ∷ "key at 10 kty 4 kid 31 alg 6 usable fails algorithm" ∷ "key at 21 kty 4 kid 31 ops 9 usable fails key_ops" ∷
    "key at 33 kty 4 kid 32 usable fails kid" ∷ "key at 42 kty 4 usable fits" ∷ "key at 48 refused NotMap at 48" ∷ "usable 5 of 6" ∷ [])
unfolding listed
each_condition = refl

-- Under a COSE_Sign1 with ES256: a secret, and points on P-256 and P-384. Its payload and its signature aren't read.
another_type_and_curve : listed wants.Tagged (hex "83 a201042041ff a4010220012158 20" ++ replicate 32 7 ++ hex "22f5 a4010220022158 30" ++ replicate 48 7 ++ hex "22f5") (hex "d28443a10126a0") ≡ lines (
    "key at 1 kty 4 usable fails type" ∷ "key at 7 kty 2 crv 1 usable fits" ∷ "key at 49 kty 2 crv 2 usable fails curve" ∷ "usable 3 of 3" ∷ [])
unfolding listed
another_type_and_curve = refl

-- An algorithm that isn't known for the kind fits no key, and none is taken of the unprotected bucket alone.
unknown : listed wants.Tagged (hex "a301040303 2041ff") (hex "d18443a10103a0") ≡ lines ("key at 0 kty 4 alg 3 usable fails algorithm" ∷ "usable 1 of 1" ∷ [])
unfolding listed
unknown = refl

unprotected : listed wants.Tagged (hex "82 a201042041ff a3010403052041ff") (hex "d18440a10105") ≡ lines ("key at 1 kty 4 usable fails algorithm" ∷ "key at 7 kty 4 alg 5 usable fits" ∷ "usable 2 of 2" ∷ [])
unfolding listed
unprotected = refl

-- A message without a tag is of the kind that is wanted, also where it names no algorithm.
of_kind : listed wants.Mac0 (hex "82 a3010403052041ff a201042041ff") (hex "8440a0") ≡ lines ("key at 1 kty 4 alg 5 usable fits" ∷ "key at 9 kty 4 usable fails algorithm" ∷ "usable 2 of 2" ∷ [])
unfolding listed
of_kind = refl

of_other_kind : listed wants.Sign1 (hex "a3010403052041ff") (hex "8440a0") ≡ lines ("key at 0 kty 4 alg 5 usable fails algorithm" ∷ "usable 1 of 1" ∷ [])
unfolding listed
of_other_kind = refl

-- The tag says the kind, in any width, and after that of a CWT.
of_tag : kind wants.Tagged (hex "d18440a0") ≡ Mac0
unfolding kind
of_tag = refl

of_wide_tag : kind wants.Tagged (hex "d900128440a0") ≡ Sign1
unfolding kind
of_wide_tag = refl

of_token : kind wants.Tagged (hex "d83dd28440a0") ≡ Sign1
unfolding kind
of_token = refl

-- Headers that are refused, and cut ones. The key set is read first.
without_tag : listed wants.Tagged (hex "a201042041ff") (hex "8443a10105a0") ≡ line "refused WrongTag at 0" statuses.Refused
unfolding listed
without_tag = refl

label_in_both : listed wants.Tagged (hex "a201042041ff") (hex "d18443a10105a10105") ≡ line "refused BothBuckets at 7" statuses.Refused
unfolding listed
label_in_both = refl

cut_headers : listed wants.Tagged (hex "a201042041ff") (hex "d18443a10105") ≡ line "refused Truncated at 6" statuses.Refused
unfolding listed
cut_headers = refl

no_set : listed wants.Tagged (hex "80") (hex "00") ≡ line "fault keys BadKeySet at 0" statuses.Fault
unfolding listed
no_set = refl
