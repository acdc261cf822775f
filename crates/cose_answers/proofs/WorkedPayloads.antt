-- What the program prints for a message whose payload is passed next to it, on examples, by computing (RFC 9052 sections 4.2
-- and 6.2). The MAC is left as it is defined.
use Rattle.std.specs.Prelude.{◌≡◌, ℕ, Bool, true, false, if◌then◌else◌, List, [], ◌∷◌, ◌++◌, Some, None, refl}
use Rattle.std.specs.Fmt.{digits}
use Rattle.std.specs.Str.{is_utf8, chars}
use Rattle.cose_head.specs.Head.{bare_head, shortest_head}
use Rattle.cose_head.specs.Item.{depth_of}
use Rattle.cose_head.specs.Placed.{look, children_of, items_from, head_of_item}
use Rattle.cose_head.specs.Reading.{read, head}
use Rattle.cose_head.specs.Shortest.{shortest, shortest_all}
use Rattle.cose_head.specs.declared.algorithm.Alg.TheVariants.{Hmac256}
use Rattle.cose_head.specs.declared.kind.Kind.TheVariants.{Mac0}
use Rattle.cose_head.specs.declared.reason.Reason.TheVariants.{BadAuth}
use Rattle.cose_mac.specs.Structure.{mac_structure, sig_structure}
use Rattle.cose_map.specs.Bucket.{bucket_of}
use Rattle.cose_map.specs.Bucket.Both.{pair_faults}
use Rattle.cose_map.specs.Bucket.Form.{bucket_table}
use Rattle.cose_map.specs.Choice.{chosen}
use Rattle.cose_map.specs.Key.{key_of}
use Rattle.cose_map.specs.Key.Form.{key_table}
use Rattle.cose_map.specs.Key.Material.{material_of}
use Rattle.cose_map.specs.KeySet.{keys_of}
use Rattle.cose_map.specs.Map.Read.{check_pairs}
use Rattle.cose_msg.specs.declared.context.Wanted.TheVariants as wants
use Rattle.cose_msg.specs.declared.verdict.Verdict.TheVariants.{Authentic}
use Rattle.cose_msg.specs.Answer.{decided, refused}
use Rattle.cose_msg.specs.Message.{message, structure, verified}
use Rattle.cose_msg.specs.Reading.{with_head, with_string, with_item}
use Rattle.cose_answers.specs.declared.reply.Status.TheVariants as statuses
use Rattle.cose_answers.specs.Printed.{Output, output_of, trailed, verified_under}
use Rattle.cose_answers.specs.Vouch.{vouching}
use Rattle.cose_answers.proofs.WorkedPrinted.{Prints, any, checks_for, either, found, hex, is_mac_of, line, plain, point}

-- To verify a message of either kind under a key set, with this payload next to it.
unfoldable prints : List ℕ → List ℕ → List ℕ → Output
unfolding keys_of key_of key_table material_of message with_head with_string with_item bucket_of bucket_table check_pairs pair_faults chosen children_of items_from look head_of_item bare_head read head depth_of is_utf8 chars lib.Utf8.encode digits
prints keys payload input = verified_under (checks_for keys [] wants.Tagged None) (Some payload) input

-- A message that has its payload is refused, and one with nil wants its tag next.
refused_messages : Prints (prints plain (hex "6869")) (
    ("", line "refused Truncated at 0" statuses.Refused) ∷
    ("d18443a10105a0", line "refused Truncated at 7" statuses.Refused) ∷
    ("d18443a10105a040", line "refused Attached at 7" statuses.Refused) ∷
    ("d18443a10105a0426869582000", line "refused Attached at 7" statuses.Refused) ∷
    ("d18443a10105a0f7", line "refused WrongType at 7" statuses.Refused) ∷
    ("d18443a10105a0f6", line "refused Truncated at 8" statuses.Refused) ∷
    ("d18443a10105a0f640", line "refused BadAuthLength at 8" statuses.Refused) ∷
    ("d18443a10105a0f65820ff", line "refused Truncated at 11" statuses.Refused) ∷ [])
unfolding prints digits
refused_messages = refl

-- A payload of no byte is one too: its length is 0.
empty_payload : Prints (prints plain []) (
    ("d18443a10105a040", line "refused Attached at 7" statuses.Refused) ∷
    ("d18443a10105a0f6", line "refused Truncated at 8" statuses.Refused) ∷
    ("d18443a10105a0f640", line "refused BadAuthLength at 8" statuses.Refused) ∷ [])
unfolding prints digits
empty_payload = refl

-- What is printed for a message of 42 bytes and a payload of so many, where so many bytes are in the input.
abbrev said_in_input : ℕ → ℕ → Bool → Output
said_in_input payload n holds = output_of (trailed n (verified [] (vouching None) (Some found) (if holds then decided (Authentic Mac0 Hmac256 payload 42) else refused BadAuth 8)))

alone : (holds : Bool) → said_in_input 2 42 holds ≡ either holds "authentic mac0 alg 5 payload 2 taken 42" "refused BadAuth at 8"
unfolding digits
alone true = refl
alone false = refl

of_no_byte : (holds : Bool) → said_in_input 0 42 holds ≡ either holds "authentic mac0 alg 5 payload 0 taken 42" "refused BadAuth at 8"
unfolding digits
of_no_byte true = refl
of_no_byte false = refl

followed : (holds : Bool) → said_in_input 2 43 holds ≡
    (if holds then line "refused Trailing at 42" statuses.Refused else line "refused BadAuth at 8" statuses.Refused)
unfolding digits
followed true = refl
followed false = refl

-- The MAC is that of the same structure as where the payload is in the message.
mac0 : (byte : ℕ → ℕ) → prints plain (hex "6869") (hex "d18443a10105a0 f6 5820" ++ any byte 32) ≡
    either (is_mac_of byte "84644d41433043a1010540426869") "authentic mac0 alg 5 payload 2 taken 42" "refused BadAuth at 8"
unfolding prints structure mac_structure shortest shortest_all shortest_head
mac0 byte = alone (is_mac_of byte "84644d41433043a1010540426869")

mac0_of_no_byte : (byte : ℕ → ℕ) → prints plain [] (hex "d18443a10105a0 f6 5820" ++ any byte 32) ≡
    either (is_mac_of byte "84644d41433043a101054040") "authentic mac0 alg 5 payload 0 taken 42" "refused BadAuth at 8"
unfolding prints structure mac_structure shortest shortest_all shortest_head
mac0_of_no_byte byte = of_no_byte (is_mac_of byte "84644d41433043a101054040")

trailing : (byte : ℕ → ℕ) → prints plain (hex "6869") (hex "d18443a10105a0 f6 5820" ++ (any byte 32 ++ hex "ff")) ≡
    (if is_mac_of byte "84644d41433043a1010540426869" then line "refused Trailing at 42" statuses.Refused else line "refused BadAuth at 8" statuses.Refused)
unfolding prints structure mac_structure shortest shortest_all shortest_head
trailing byte = followed (is_mac_of byte "84644d41433043a1010540426869")

-- A signature that nothing vouches for.
unvouched : (byte : ℕ → ℕ) → prints point (hex "6869") (hex "d28443a10126a0 f6 5840" ++ any byte 64) ≡ line "refused BadAuth at 8" statuses.Refused
unfolding prints structure sig_structure shortest shortest_all shortest_head digits
unvouched byte = refl
