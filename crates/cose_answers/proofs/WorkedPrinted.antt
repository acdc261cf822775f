-- What the program prints, on examples, by computing. The MAC, and the digest of what is signed, are left as they are
-- defined.
use Rattle.std.specs.Prelude.{◌≡◌, ℕ, zero, suc, ◌+◌, ◌-◌, ◌*◌, Bool, true, false, not, ◌==◌, nat_lt, if◌then◌else◌, List, [], ◌∷◌, ◌++◌, map, filter, replicate, codes, Option, Some, None, refl}
use Prim.Native.String.{String}
use Rattle.std.specs.Fmt.{digits}
use Rattle.std.specs.Str.{bytes_eq, is_utf8, chars}
use Rattle.cose_head.specs.Head.{bare_head, shortest_head}
use Rattle.cose_head.specs.Item.{depth_of}
use Rattle.cose_head.specs.Placed.{look, children_of, items_from, head_of_item}
use Rattle.cose_head.specs.Reading.{read, head}
use Rattle.cose_head.specs.Shortest.{shortest, shortest_all}
use Rattle.cose_head.specs.declared.algorithm.Alg.TheVariants.{Hmac256, Es256}
use Rattle.cose_head.specs.declared.kind.Kind.TheVariants.{Mac0, Sign1}
use Rattle.cose_head.specs.declared.reason.Reason.TheVariants.{BadAuth}
use Rattle.cose_mac.specs.Hash.{digest_of}
use Rattle.cose_mac.specs.Hmac.{mac}
use Rattle.cose_mac.specs.Structure.{mac_structure, sig_structure}
use Rattle.cose_map.specs.Bucket.{bucket_of}
use Rattle.cose_map.specs.Bucket.Both.{pair_faults}
use Rattle.cose_map.specs.Bucket.Form.{bucket_table}
use Rattle.cose_map.specs.Choice.{chosen}
use Rattle.cose_map.specs.Key.{key_of}
use Rattle.cose_map.specs.Key.Form.{key_table}
use Rattle.cose_map.specs.Key.Material.{material_of}
use Rattle.cose_map.specs.Key.Value.{coordinate, symmetric}
use Rattle.cose_map.specs.KeySet.{keys_of}
use Rattle.cose_map.specs.Map.Read.{check_pairs}
use Rattle.cose_msg.specs.declared.context.Wanted.{Wanted}
use Rattle.cose_msg.specs.declared.context.Wanted.TheVariants as wants
use Rattle.cose_msg.specs.declared.verdict.Verdict.TheVariants.{Authentic}
use Rattle.cose_msg.specs.Answer.{Chosen, decided, refused}
use Rattle.cose_msg.specs.Message.{message, structure, verified}
use Rattle.cose_msg.specs.Reading.{with_head, with_string, with_item}
use Rattle.cose_answers.specs.declared.request.Details.{Details}
use Rattle.cose_answers.specs.declared.request.Printing.{Printing}
use Rattle.cose_answers.specs.Allowed.{unrestricted}
use Rattle.cose_answers.specs.Limits.{room_of}
use Rattle.cose_answers.specs.Under.{Under, program_keys}
use Rattle.cose_answers.specs.declared.limits.Limits.{Limits}
use Rattle.cose_answers.specs.declared.limits.Limits.TheVariants.{Small}
use Rattle.cose_answers.specs.declared.reply.Status.{Status}
use Rattle.cose_answers.specs.declared.reply.Status.TheVariants as statuses
use Rattle.cose_answers.specs.Printed.{Output, code_of, output_of, trailed, verified_under}
use Rattle.cose_answers.specs.Vouch.{vouching, word_for}

-- Bytes in hexadecimal. Spaces are skipped.
abbrev digit : ℕ → ℕ
digit code = if nat_lt code 0x61 then code - 0x30 else code - 0x57

abbrev bytes_of : List ℕ → List ℕ
bytes_of [] = []
bytes_of (high ∷ []) = []
bytes_of (high ∷ low ∷ others) = (16 * digit high + digit low) ∷ bytes_of others

abbrev pub hex : String → List ℕ
hex text = bytes_of (filter (λ code. not (code == 0x20)) (codes text))

-- This many bytes, whatever they are.
abbrev pub any : (ℕ → ℕ) → ℕ → List ℕ
any byte zero = []
any byte (suc n) = byte n ∷ any byte n

-- What is printed of a message that is shown, in addition: nothing.
abbrev pub plainly : Details
plainly = record { diagnostic = false; detached = false; payload = false }

-- Of claims their values alone, and of the registered ones alone.
abbrev pub briefly : Printing
briefly = record { readable = false; others = false }

-- One line, and how the run ends.
abbrev pub line : String → Status → Output
line text status = record { text = codes text ++ codes "\n"; status = status }

-- A table: bytes, and what is printed.
abbrev pub Prints : (List ℕ → Output) → List (String × Output) → Type 0
Prints f rows = map (λ row. f (hex row.0)) rows ≡ map (λ row. row.1) rows

-- To verify a message of either kind under a key set, with the argument of `--vouch`, where there is one.
abbrev pub checks_within : Limits → List ℕ → List ℕ → Wanted → Option (List ℕ) → Under
checks_within limits keys aad wanted vouch = record { room = room_of limits; keys = program_keys (room_of limits) unrestricted keys; aad = aad; wanted = wanted; vouch = vouch }

abbrev pub checks_for : List ℕ → List ℕ → Wanted → Option (List ℕ) → Under
checks_for = checks_within Small

unfoldable prints : List ℕ → Option (List ℕ) → List ℕ → Output
unfolding keys_of key_of key_table material_of message with_head with_string with_item bucket_of bucket_table check_pairs pair_faults chosen children_of items_from look head_of_item bare_head read head depth_of is_utf8 chars lib.Utf8.encode digits
prints keys vouch input = verified_under (checks_for keys [] wants.Tagged vouch) None input

-- The bytes of 'Jefe', and the key set of that key alone.
abbrev pub jefe : List ℕ
jefe = hex "4a656665"

abbrev pub plain : List ℕ
plain = hex "a20104 2044" ++ jefe

-- A key set that is refused, whatever the input.
refused_keys : (input : List ℕ) → Prints (λ keys. prints keys None input) (
    ("", line "fault keys PastRoom at 0" statuses.Fault) ∷
    ("80", line "fault keys BadKeySet at 0" statuses.Fault) ∷
    ("a2010420444a65666500", line "fault keys Trailing at 9" statuses.Fault) ∷
    ("a2010420444a6566", line "fault keys PastRoom at 4" statuses.Fault) ∷
    ("818181818181818181a0", line "fault keys TooDeep at 8" statuses.Fault) ∷ [])
unfolding prints digits
refused_keys input = refl

-- A message that is refused; no byte after it is looked at.
refused_messages : Prints (prints plain None) (
    ("", line "refused Truncated at 0" statuses.Refused) ∷
    ("d18443a10105a04268", line "refused Truncated at 9" statuses.Refused) ∷
    ("d0", line "refused Encrypted at 0" statuses.Refused) ∷
    ("d862ffff", line "refused SeveralParties at 0" statuses.Refused) ∷
    ("d83d84", line "refused CwtTagAlone at 2" statuses.Refused) ∷
    ("84", line "refused WrongTag at 0" statuses.Refused) ∷
    ("d18446a2010518010500", line "refused DuplicateLabel at 6" statuses.Refused) ∷
    ("d1844aa301050281182a182a00a000", line "refused CritUnknown at 8" statuses.Refused) ∷
    ("d18443a10105a05b010000000000000000", line "refused PayloadTooLong at 7" statuses.Refused) ∷
    ("d18443a10105a0f6ff", line "refused Detached at 7" statuses.Refused) ∷
    ("d18443a10126a040", line "refused UnknownAlg at 7" statuses.Refused) ∷ [])
unfolding prints digits
refused_messages = refl

-- A header bucket has at most 1,024 bytes and nests at most 8 deep; a payload has fewer than 2^56 bytes.
at_the_limits : Prints (prints plain None) (
    ("d184590400", line "refused Truncated at 5" statuses.Refused) ∷
    ("d184590401", line "refused PastRoom at 2" statuses.Refused) ∷
    ("d1844aa10a8181818181818100", line "refused Truncated at 13" statuses.Refused) ∷
    ("d1844ba10a818181818181818100", line "refused TooDeep at 12" statuses.Refused) ∷
    ("d18443a10105a10a5903fb", line "refused Truncated at 11" statuses.Refused) ∷
    ("d18443a10105a10a5903fc", line "refused PastRoom at 8" statuses.Refused) ∷
    ("d18443a10105a10a8181818181818100", line "refused Truncated at 16" statuses.Refused) ∷
    ("d18443a10105a10a818181818181818100", line "refused TooDeep at 15" statuses.Refused) ∷
    ("d18443a10105a05b00ffffffffffffff", line "refused Truncated at 16" statuses.Refused) ∷
    ("d18443a10105a05b0100000000000000", line "refused PayloadTooLong at 7" statuses.Refused) ∷ [])
unfolding prints digits
at_the_limits = refl

-- The exit statuses.
exit_statuses : map code_of (statuses.Done ∷ statuses.Refused ∷ statuses.Fault ∷ []) ≡ 0 ∷ 1 ∷ 2 ∷ []
exit_statuses = refl

-- A tag of 32 bytes, whatever they are, is compared with the MAC of these.
abbrev pub is_mac_of : (ℕ → ℕ) → String → Bool
is_mac_of byte to_mac = bytes_eq (any byte 32) (mac Hmac256 jefe (hex to_mac))

-- A line where a test holds, and another where it doesn't.
abbrev pub either : Bool → String → String → Output
either holds authentic other = if holds then line authentic statuses.Done else line other statuses.Refused

-- What is printed for a message after which no byte follows, and one. The `EcVerifier` is not asked about a signature.
abbrev pub found : Chosen
found = record { key = record { kid = None; alg = None; operations = None; material = symmetric jefe }; alg = Hmac256 }

abbrev said_in_input : ℕ → Bool → Output
said_in_input n holds = output_of (trailed n (verified [] (vouching None) (Some found) (if holds then decided (Authentic Mac0 Hmac256 2 44) else refused BadAuth 10)))

alone : (holds : Bool) → said_in_input 44 holds ≡ either holds "authentic mac0 alg 5 payload 2 taken 44" "refused BadAuth at 10"
unfolding digits
alone true = refl
alone false = refl

followed : (holds : Bool) → said_in_input 45 holds ≡
    (if holds then line "refused Trailing at 44" statuses.Refused else line "refused BadAuth at 10" statuses.Refused)
unfolding digits
followed true = refl
followed false = refl

mac0 : (byte : ℕ → ℕ) → prints plain None (hex "d18443a10105a0 426869 5820" ++ any byte 32) ≡
    either (is_mac_of byte "84644d41433043a1010540426869") "authentic mac0 alg 5 payload 2 taken 44" "refused BadAuth at 10"
unfolding prints structure mac_structure shortest shortest_all shortest_head
mac0 byte = alone (is_mac_of byte "84644d41433043a1010540426869")

trailing : (byte : ℕ → ℕ) → prints plain None (hex "d18443a10105a0 426869 5820" ++ (any byte 32 ++ hex "ff")) ≡
    (if is_mac_of byte "84644d41433043a1010540426869" then line "refused Trailing at 44" statuses.Refused else line "refused BadAuth at 10" statuses.Refused)
unfolding prints structure mac_structure shortest shortest_all shortest_head
trailing byte = followed (is_mac_of byte "84644d41433043a1010540426869")

-- A point of P-256, any one; a signature that is not vouched for, and one that is vouched for with an argument of
-- `--vouch`.
abbrev pub point : List ℕ
point = hex "a401022001215820" ++ (replicate 32 7 ++ (hex "225820" ++ replicate 32 8))

unvouched : (byte : ℕ → ℕ) → prints point None (hex "d28443a10126a0 40 5840" ++ any byte 64) ≡ line "refused BadAuth at 8" statuses.Refused
unfolding prints structure sig_structure shortest shortest_all shortest_head digits
unvouched byte = refl

signed : (holds : Bool) → output_of (trailed 74 (if holds then decided (Authentic Sign1 Es256 0 74) else refused BadAuth 8)) ≡
    either holds "authentic sign1 alg -7 payload 0 taken 74" "refused BadAuth at 8"
unfolding digits
signed true = refl
signed false = refl

abbrev word_of : (ℕ → ℕ) → List ℕ
word_of byte = word_for 1 (replicate 32 7) (coordinate (replicate 32 8)) (digest_of Es256 (hex "846a5369676e61747572653143a101264040")) (any byte 64)

vouched : (vouch : List ℕ) (byte : ℕ → ℕ) → prints point (Some vouch) (hex "d28443a10126a0 40 5840" ++ any byte 64) ≡
    either (bytes_eq vouch (word_of byte)) "authentic sign1 alg -7 payload 0 taken 74" "refused BadAuth at 8"
unfolding prints structure sig_structure shortest shortest_all shortest_head
vouched vouch byte = signed (bytes_eq vouch (word_of byte))
