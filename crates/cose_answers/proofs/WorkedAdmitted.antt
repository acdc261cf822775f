-- What the program prints for tokens, on examples, by computing. The MAC is left as it is defined.
use Rattle.std.specs.Prelude.{◌≡◌, ℕ, pos, Bool, true, false, if◌then◌else◌, List, [], ◌∷◌, ◌++◌, replicate, codes, Option, Some, None, option_map, refl}
use Prim.Native.String.{String}
use Rattle.std.specs.Fmt.{digits}
use Rattle.std.specs.Str.{bytes_eq, is_utf8, chars}
use Rattle.cose_head.specs.Head.{bare_head, shortest_head}
use Rattle.cose_head.specs.Item.{depth_of}
use Rattle.cose_head.specs.Placed.{look, children_of, items_from, head_of_item}
use Rattle.cose_head.specs.Reading.{read, head}
use Rattle.cose_head.specs.Shortest.{shortest, shortest_all}
use Rattle.cose_head.specs.declared.algorithm.Alg.TheVariants.{Hmac256}
use Rattle.cose_head.specs.declared.kind.Kind.TheVariants.{Mac0}
use Rattle.cose_head.specs.declared.reason.Reason.TheVariants.{BadAuth}
use Rattle.cose_mac.specs.Hmac.{mac}
use Rattle.cose_mac.specs.Structure.{mac_structure}
use Rattle.cose_map.specs.Bucket.{bucket_of}
use Rattle.cose_map.specs.Bucket.Both.{pair_faults}
use Rattle.cose_map.specs.Bucket.Form.{bucket_table}
use Rattle.cose_map.specs.Choice.{chosen}
use Rattle.cose_map.specs.Key.{key_of}
use Rattle.cose_map.specs.Key.Form.{key_table}
use Rattle.cose_map.specs.Key.Material.{material_of}
use Rattle.cose_map.specs.Key.Value.{symmetric}
use Rattle.cose_map.specs.KeySet.{keys_of}
use Rattle.cose_map.specs.Map.Read.{check_pairs}
use Rattle.cose_msg.specs.declared.context.Wanted.TheVariants as wants
use Rattle.cose_msg.specs.declared.verdict.Verdict.TheVariants.{Authentic}
use Rattle.cose_msg.specs.Answer.{Chosen, decided, refused}
use Rattle.cose_msg.specs.Message.{message, structure, verified}
use Rattle.cose_msg.specs.Reading.{with_head, with_string, with_item}
use Rattle.cose_cwt.specs.Admission.{admitted, admitted_claims}
use Rattle.cose_cwt.specs.Claims.{claims_of, texts_from}
use Rattle.cose_cwt.specs.Claims.Form.{claims_table}
use Rattle.cose_cwt.specs.Confirmation.{confirmation_of, members_table}
use Rattle.cose_cwt.specs.Requirements.{RequirementsValue, unmet}
use Rattle.cose_cwt.specs.Token.{of_claims}
use Rattle.cose_text.specs.Diagnostic.{diagnostic}
use Rattle.cose_answers.specs.declared.reply.Status.TheVariants as statuses
use Rattle.cose_answers.specs.Admitted.{if_admitted, program_policy, token_told}
use Rattle.cose_answers.specs.Printed.{Output, admitted_under, outcome_said}
use Rattle.cose_answers.specs.Requirements.{required_at}
use Rattle.cose_answers.specs.Vouch.{vouching}
use Rattle.cose_answers.proofs.WorkedPrinted.{hex, any, briefly, checks_for, line, Prints, plain, jefe, point}
use Rattle.cose_answers.proofs.WorkedShown.{lines}
use Rattle.hex.specs.Hex.{encode_with}

-- Nothing is required.
abbrev pub nothing : ℕ → ℕ → RequirementsValue
nothing now leeway = required_at (pos now) leeway [] None None None None None

-- What is printed for the claims of an authentic message, at a current time, with a leeway, and for the audience that a
-- text names.
unfoldable said : ℕ → ℕ → Option String → List ℕ → Output
unfolding unmet admitted claims_of claims_table members_table confirmation_of texts_from key_of key_table material_of check_pairs children_of items_from look head_of_item bare_head read head depth_of is_utf8 chars lib.Utf8.encode digits encode_with
said now leeway aud payload = outcome_said briefly (if_admitted (nothing now leeway) (of_claims (admitted_claims 8 (program_policy (pos now) leeway (option_map codes aud)) payload)))

-- The claims of RFC 8392 appendix A.1: exp is 1444064944 at 59, nbf 1443944944 at 65, and the audience is at 32.
abbrev pub example : String
example = "a70175636f61703a2f2f61732e6578616d706c652e636f6d02656572696b77037818636f61703a2f2f6c696768742e6578616d706c652e636f6d041a5612aeb0051a5610d9f0061a5610d9f007420b71"

abbrev pub example_lines : Output
example_lines = lines (
    "admitted"
    ∷ "iss 636f61703a2f2f61732e6578616d706c652e636f6d"
    ∷ "sub 6572696b77"
    ∷ "aud 636f61703a2f2f6c696768742e6578616d706c652e636f6d"
    ∷ "exp 1444064944"
    ∷ "nbf 1443944944"
    ∷ "iat 1443944944"
    ∷ "cti 0b71"
    ∷ [])

all_but_confirmation : said 1444064943 0 None (hex example) ≡ example_lines
unfolding said
all_but_confirmation = refl

expired : said 1444064944 0 None (hex example) ≡ line "refused claims Expired at 59" statuses.Refused
unfolding said
expired = refl

with_leeway : said 1444064944 1 None (hex example) ≡ example_lines
unfolding said
with_leeway = refl

too_early : said 1443944942 1 None (hex example) ≡ line "refused claims NotYet at 65" statuses.Refused
unfolding said
too_early = refl

for_others : said 1444064943 0 (Some "other") (hex example) ≡ line "refused claims WrongAudience at 32" statuses.Refused
unfolding said
for_others = refl

-- At the greatest time, 2^63 - 1: exp and nbf at it, and a second later.
at_the_last_moment : Prints (said 9223372036854775807 0 None) (
    ("a1041b7fffffffffffffff", line "refused claims Expired at 2" statuses.Refused) ∷
    ("a1041b8000000000000000", lines ("admitted" ∷ "exp 9223372036854775808" ∷ [])) ∷
    ("a1051b7fffffffffffffff", lines ("admitted" ∷ "nbf 9223372036854775807" ∷ [])) ∷
    ("a1051b8000000000000000", line "refused claims NotYet at 2" statuses.Refused) ∷ [])
unfolding said
at_the_last_moment = refl

-- With the greatest leeway, 2^32 - 1, at 2^32 and at 0.
at_the_greatest_leeway : Prints (said 4294967296 4294967295 None) (
    ("a10401", line "refused claims Expired at 2" statuses.Refused) ∷
    ("a10402", lines ("admitted" ∷ "exp 2" ∷ [])) ∷ [])
unfolding said
at_the_greatest_leeway = refl

early_with_the_greatest_leeway : Prints (said 0 4294967295 None) (
    ("a1051affffffff", lines ("admitted" ∷ "nbf 4294967295" ∷ [])) ∷
    ("a1051b0000000100000000", line "refused claims NotYet at 2" statuses.Refused) ∷ [])
unfolding said
early_with_the_greatest_leeway = refl

-- No claim that is known; a text of no bytes; two audiences; a date before 1970; bytes; a key's identifier, and neither.
said_of_few : Prints (said 0 0 (Some "b")) (
    ("a0", lines ("admitted" ∷ [])) ∷
    ("a11864f93c00", lines ("admitted" ∷ [])) ∷
    ("a10160", lines ("admitted" ∷ "iss " ∷ [])) ∷
    ("a1038261616162", lines ("admitted" ∷ "aud 61" ∷ "aud 62" ∷ [])) ∷
    ("a10520", lines ("admitted" ∷ "nbf -1" ∷ [])) ∷
    ("a10740", lines ("admitted" ∷ "cti " ∷ [])) ∷
    ("a108a1034131", lines ("admitted" ∷ "cnf kid 31" ∷ [])) ∷
    ("a108a0", lines ("admitted" ∷ [])) ∷
    ("d83d00", line "refused claims NestedCwt at 0" statuses.Refused) ∷ [])
unfolding said
said_of_few = refl

-- In the order of their labels, whatever their order in the payload; the key is before its identifier.
order_of_labels : Prints (said 1 0 None) (
    ("a3 0602 026161 016162", lines ("admitted" ∷ "iss 62" ∷ "sub 61" ∷ "iat 2" ∷ [])) ∷
    ("a2 074101 08a1034131", lines ("admitted" ∷ "cti 01" ∷ "cnf kid 31" ∷ [])) ∷
    ("a2 08a1034131 074101", lines ("admitted" ∷ "cti 01" ∷ "cnf kid 31" ∷ [])) ∷ [])
unfolding said
order_of_labels = refl

confirmed_point : said 0 0 None (hex "a108a2 034131 01" ++ point) ≡ lines (
    "admitted"
    ∷ "cnf key 1 0707070707070707070707070707070707070707070707070707070707070707 0808080808080808080808080808080808080808080808080808080808080808"
    ∷ "cnf kid 31"
    ∷ [])
unfolding said
confirmed_point = refl

confirmed_sign : said 0 0 None (hex "a108a101a401022001215820" ++ (replicate 32 7 ++ hex "22f5")) ≡
    lines ("admitted" ∷ "cnf key 1 0707070707070707070707070707070707070707070707070707070707070707 true" ∷ [])
unfolding said
confirmed_sign = refl

-- The claims that aren't registered, where they are asked for: after the others, in the order of the payload, a confirmation (8)
-- among them. A text ends no line.
unfoldable said_of_all : List ℕ → Output
unfolding said diagnostic
said_of_all payload = outcome_said (record briefly { others = true }) (if_admitted (nothing 0 0) (of_claims (admitted_claims 8 (program_policy (pos 0) 0 None) payload)))

other_claims : said_of_all (hex "a6 0a 4178 02 6173 6173 63610a62 20 821907d0f5 08a103420b71 00f6") ≡
    lines ("admitted" ∷ "sub 73" ∷ "cnf kid 0b71" ∷ "claim 10: h'78'" ∷ "claim \"s\": \"a\\u000ab\"" ∷ "claim -1: [2000, true]" ∷ "claim 8: {3: h'0b71'}" ∷ "claim 0: null" ∷ [])
unfolding said_of_all
other_claims = refl

-- To admit a token of either kind under a key set, at a current time, whatever its audience.
unfoldable prints : List ℕ → ℕ → List ℕ → Output
unfolding unmet admitted claims_of claims_table members_table confirmation_of texts_from keys_of key_of key_table material_of message with_head with_string with_item bucket_of bucket_table check_pairs pair_faults chosen children_of items_from look head_of_item bare_head read head depth_of is_utf8 chars lib.Utf8.encode digits encode_with
prints keys now input = admitted_under (checks_for keys [] wants.Tagged None) (program_policy (pos now) 0 None) (nothing now 0) briefly input

refused_keys : (now : ℕ) (input : List ℕ) → Prints (λ keys. prints keys now input) (
    ("", line "fault keys PastRoom at 0" statuses.Fault) ∷
    ("80", line "fault keys BadKeySet at 0" statuses.Fault) ∷ [])
unfolding prints
refused_keys now input = refl

-- Up to the payload a token is read as any message. The payload has at most 4,096 bytes.
refused_messages : Prints (prints plain 0) (
    ("", line "refused message Truncated at 0" statuses.Refused) ∷
    ("d83d84", line "refused message CwtTagAlone at 2" statuses.Refused) ∷
    ("84", line "refused message WrongTag at 0" statuses.Refused) ∷
    ("d18443a10105a0591000", line "refused message Truncated at 10" statuses.Refused) ∷
    ("d18443a10105a0591001ff", line "refused message PayloadTooLong at 7" statuses.Refused) ∷
    ("d18443a10105a0f6", line "refused message Detached at 7" statuses.Refused) ∷ [])
unfolding prints
refused_messages = refl

-- The limits of its headers are those of `verify`, and no label is understood in addition to the standard's.
at_the_limits : Prints (prints plain 0) (
    ("d184590400", line "refused message Truncated at 5" statuses.Refused) ∷
    ("d184590401", line "refused message PastRoom at 2" statuses.Refused) ∷
    ("d1844aa10a8181818181818100", line "refused message Truncated at 13" statuses.Refused) ∷
    ("d1844ba10a818181818181818100", line "refused message TooDeep at 12" statuses.Refused) ∷
    ("d18443a10105a10a5903fb", line "refused message Truncated at 11" statuses.Refused) ∷
    ("d18443a10105a10a5903fc", line "refused message PastRoom at 8" statuses.Refused) ∷
    ("d18443a10105a10a8181818181818100", line "refused message Truncated at 16" statuses.Refused) ∷
    ("d18443a10105a10a818181818181818100", line "refused message TooDeep at 15" statuses.Refused) ∷
    ("d1844aa301050281182a182a00a0", line "refused message CritUnknown at 8" statuses.Refused) ∷ [])
unfolding prints
at_the_limits = refl

-- What is printed for a token with the claims of the example, after which no byte follows, and one.
abbrev found : Chosen
found = record { key = record { kid = None; alg = None; operations = None; material = symmetric jefe }; alg = Hmac256 }

unfoldable said_in_input : ℕ → ℕ → Bool → Output
unfolding said
said_in_input now n holds = outcome_said briefly (token_told 8 n (program_policy (pos now) 0 None) (nothing now 0) (hex example)
    (verified [] (vouching None) (Some found) (if holds then decided (Authentic Mac0 Hmac256 80 123) else refused BadAuth 89)))

-- For an authentic message with this payload; its claims nest at most 8 deep.
unfoldable said_of_payload : List ℕ → Output
unfolding said
said_of_payload payload = outcome_said briefly (token_told 8 0 (program_policy (pos 0) 0 None) (nothing 0 0) payload (decided (Authentic Mac0 Hmac256 0 0)))

nested_claims : Prints said_of_payload (
    ("a10a8181818181818100", lines ("admitted" ∷ [])) ∷
    ("a10a818181818181818100", line "refused claims TooDeep at 9" statuses.Refused) ∷ [])
unfolding said_of_payload
nested_claims = refl

abbrev either : Bool → Output → Output
either holds output = if holds then output else line "refused message BadAuth at 89" statuses.Refused

alone : (holds : Bool) → said_in_input 1444064943 123 holds ≡ either holds example_lines
unfolding said_in_input
alone true = refl
alone false = refl

followed : (holds : Bool) → said_in_input 1444064943 124 holds ≡ either holds (line "refused message Trailing at 123" statuses.Refused)
unfolding said_in_input
followed true = refl
followed false = refl

-- After claims that are refused no byte is looked for.
followed_late : (holds : Bool) → said_in_input 1444064944 124 holds ≡ either holds (line "refused claims Expired at 59" statuses.Refused)
unfolding said_in_input
followed_late true = refl
followed_late false = refl

-- A tag of 32 bytes, whatever they are, is compared with the MAC.
abbrev token : (ℕ → ℕ) → List ℕ
token byte = hex "d18443a10105a0 5850" ++ (hex example ++ (hex "5820" ++ any byte 32))

abbrev holds_of : (ℕ → ℕ) → Bool
holds_of byte = bytes_eq (any byte 32) (mac Hmac256 jefe (hex "84644d41433043a10105 40 5850" ++ hex example))

token_alone : (byte : ℕ → ℕ) → prints plain 1444064943 (token byte) ≡ either (holds_of byte) example_lines
unfolding prints said_in_input structure mac_structure shortest shortest_all shortest_head
token_alone byte = alone (holds_of byte)

token_followed : (byte : ℕ → ℕ) → prints plain 1444064943 (token byte ++ (0 ∷ [])) ≡ either (holds_of byte) (line "refused message Trailing at 123" statuses.Refused)
unfolding prints said_in_input structure mac_structure shortest shortest_all shortest_head
token_followed byte = followed (holds_of byte)

token_late : (byte : ℕ → ℕ) → prints plain 1444064944 (token byte ++ (0 ∷ [])) ≡ either (holds_of byte) (line "refused claims Expired at 59" statuses.Refused)
unfolding prints said_in_input structure mac_structure shortest shortest_all shortest_head
token_late byte = followed_late (holds_of byte)
