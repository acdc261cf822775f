-- What the program prints of a token (RFC 8392 section 7.2), and how it ends: the claims that are admitted, or why there are none.
use Rattle.std.specs.Prelude.{ℕ, ℤ, Bool, true, false, List, [], ◌∷◌, ◌++◌, length, map, Option, Some, None, Result, Ok, Err, option_map, codes, filter, int_lt, nat_lt, not, pos, ◌&&◌, if◌then◌else◌}
use Rattle.std.specs.List.{concat}
use Rattle.std.specs.Fmt.{decimal, signed_decimal}
use Rattle.cose_head.specs.declared.reason.Reason.TheVariants.{Trailing}
use Rattle.cose_head.specs.declared.refusal.Refusal.{Refusal}
use Rattle.cose_head.specs.Refusal.{refusal_text}
use Rattle.cose_map.specs.Label.{LabelValue, number, words}
use Rattle.cose_map.specs.Map.Pairs.{Pair}
use Rattle.cose_map.specs.Key.Value.{KeyValue, MaterialValue, symmetric, elliptic, YValue, coordinate, sign}
use Rattle.cose_msg.specs.declared.verdict.Stop.{Stop}
use Rattle.cose_msg.specs.declared.verdict.Stop.TheVariants as causes
use Rattle.cose_msg.specs.declared.verdict.Verdict.TheVariants.{Authentic, Refused}
use Rattle.cose_msg.specs.Answer.{Answer, decided, complete, shaped}
use Rattle.cose_msg.specs.Message.{Decides, Setting}
use Rattle.cose_msg.specs.Reading.{Reading}
use Rattle.cose_cwt.specs.declared.claims.Claims.{Claims}
use Rattle.cose_cwt.specs.declared.required.TokenStop.{TokenStop}
use Rattle.cose_cwt.specs.declared.required.TokenStop.TheVariants.{Cwt, Unmet}
use Rattle.cose_cwt.specs.declared.requirements.Unmet.{Unmet as UnmetRequirement}
use Rattle.cose_cwt.specs.declared.token.CwtStop.{CwtStop}
use Rattle.cose_cwt.specs.declared.token.CwtStop.TheVariants as stops
use Rattle.cose_cwt.specs.Admission.{PolicyValue, admitted_claims}
use Rattle.cose_cwt.specs.Claims.{ClaimsValue, auds_of, cti_of, exp_of, iat_of, iss_of, nbf_of, sub_of}
use Rattle.cose_cwt.specs.Claims.View.{claims_value}
use Rattle.cose_cwt.specs.Confirmation.{CnfValue}
use Rattle.cose_cwt.specs.Requirements.{RequirementsValue, met}
use Rattle.cose_cwt.specs.Token.{Outcome, of_claims, read_as, stop_in}
use Rattle.cose_text.specs.Diagnostic.{diagnostic_of}
use Rattle.cose_answers.specs.declared.request.Printing.{Printing}
use Rattle.cose_answers.specs.declared.reply.Status.{Status}
use Rattle.cose_answers.specs.declared.reply.Status.TheVariants as statuses
use Rattle.cose_answers.specs.Readable.{date_notation, label_text, text_notation}
use Rattle.cose_answers.specs.Requirements.{unmet_line}
use Rattle.hex.specs.Hex.{encode_lower}

-- What a token has to meet: where there is a text and the token names an audience, the token is for that text. Without
-- a text the audience is left to the reader of the lines.
abbrev pub program_policy : ℤ → ℕ → Option (List ℕ) → PolicyValue
program_policy now leeway aud = record { now = now; leeway = leeway; mine = option_map (λ text. text ∷ []) aud }

-- The claims of a token that is admitted and meets the requirements, or why there are none.
abbrev pub Admission : Type 0
Admission = Result ClaimsValue TokenStop

abbrev pub if_met : Result (Unit {0}) UnmetRequirement → Admission → Admission
if_met (Ok done) admission = admission
if_met (Err unmet) admission = Err (Unmet unmet)

abbrev pub admission_seen : Result Claims TokenStop → Admission
admission_seen (Ok claims) = Ok (claims_value claims)
admission_seen (Err stop) = Err stop

-- Why the verifier stopped, if it did.
abbrev pub stopped_in : Admission → Option Stop
stopped_in (Ok claims) = None
stopped_in (Err (Cwt stop)) = stop_in (Err stop)
stopped_in (Err (Unmet unmet)) = None

-- What is required is looked at after the claims are admitted.
abbrev pub if_admitted : RequirementsValue → Outcome → Admission
if_admitted requirements (Ok claims) = if_met (met requirements claims) (Ok claims)
if_admitted requirements (Err stop) = Err (Cwt stop)

-- And only then what follows the token: no byte may. Here the whole input has n bytes, and the token `taken` bytes.
abbrev pub or_trailing : Option Refusal → ClaimsValue → Admission
or_trailing None claims = Ok claims
or_trailing (Some refusal) claims = Err (Cwt (stops.Message refusal))

-- The same of admitted claims, where this refusal is that of what follows the token.
abbrev pub required_then : RequirementsValue → Option Refusal → ClaimsValue → Admission
required_then requirements trailing claims = if_met (met requirements claims) (or_trailing trailing claims)

abbrev pub unless_trailed : ℕ → ℕ → Admission → Admission
unless_trailed n taken (Ok claims) = or_trailing (if nat_lt taken n then Some (record { reason = Trailing; place = taken }) else None) claims
unless_trailed n taken (Err stop) = Err stop

-- An outcome that verifying doesn't have.
abbrev pub none_so_far : Admission
none_so_far = Err (Cwt (stops.Stopped causes.Again))

-- The outcome for an input of n bytes as a token, by the payload and the answer of its message. Claims nest at most
-- `nesting` deep.
abbrev pub token_told : ℕ → ℕ → PolicyValue → RequirementsValue → List ℕ → Answer → Admission
token_told nesting n policy requirements payload (decided (Authentic kind alg size taken)) =
    unless_trailed n taken (if_admitted requirements (of_claims (admitted_claims nesting policy payload)))
token_told nesting n policy requirements payload (decided (Refused refusal)) = Err (Cwt (stops.Message refusal))
token_told nesting n policy requirements payload (complete whole) = none_so_far
token_told nesting n policy requirements payload (shaped kind size auth taken) = none_so_far

abbrev pub token_read : ℕ → ℕ → PolicyValue → RequirementsValue → Reading → Admission
token_read nesting n policy requirements reading = token_told nesting n policy requirements reading.so_far.payload reading.answer

-- The token that a whole input is, in buckets of at most `header` bytes that nest at most `nesting` deep.
abbrev pub input_token : ℕ → ℕ → Setting → Decides → PolicyValue → RequirementsValue → List ℕ → Admission
input_token header nesting setting decides policy requirements bytes =
    token_read nesting (length bytes) policy requirements (read_as header nesting setting decides bytes)

-- A line for a value, where there is one, and otherwise none.
abbrev pub where_present : {A : Type 0} → (A → List ℕ) → Option A → List ℕ
where_present line None = []
where_present line (Some value) = line value

-- Texts and bytes in lower case hexadecimal, dates in decimal; after a text and a date, where it is asked for, the text in
-- quotes and the date as RFC 3339 has it.
abbrev pub text_line : Bool → List ℕ → List ℕ → List ℕ
text_line readable name text = name ++ codes " " ++ encode_lower text ++ text_notation readable text ++ codes "\n"

abbrev pub bytes_line : List ℕ → List ℕ → List ℕ
bytes_line name bytes = name ++ codes " " ++ encode_lower bytes ++ codes "\n"

abbrev pub date_line : Bool → List ℕ → ℤ → List ℕ
date_line readable name date = name ++ codes " " ++ signed_decimal date ++ date_notation readable date ++ codes "\n"

-- The key that is confirmed: its curve, x and y, or the sign of y. A symmetric one isn't confirmed.
abbrev pub y_word : YValue → List ℕ
y_word (coordinate y) = encode_lower y
y_word (sign true) = codes "true"
y_word (sign false) = codes "false"

abbrev pub material_line : MaterialValue → List ℕ
material_line (symmetric secret) = []
material_line (elliptic curve x y) = codes "cnf key " ++ decimal curve ++ codes " " ++ encode_lower x ++ codes " " ++ y_word y ++ codes "\n"

abbrev pub key_line : KeyValue → List ℕ
key_line key = material_line key.material

abbrev pub confirmation_lines : CnfValue → List ℕ
confirmation_lines confirmation = where_present key_line confirmation.key ++ where_present (bytes_line (codes "cnf kid")) confirmation.kid

-- The registered claims (RFC 8392 section 3.1) in the order of their labels, and last the confirmation (RFC 8747 section 3.1).
-- A line for each text of the audience.
abbrev pub claims_lines : Bool → ClaimsValue → List ℕ
claims_lines readable claims =
    where_present (text_line readable (codes "iss")) (iss_of claims)
    ++ where_present (text_line readable (codes "sub")) (sub_of claims)
    ++ concat (map (text_line readable (codes "aud")) (auds_of claims))
    ++ where_present (date_line readable (codes "exp")) (exp_of claims)
    ++ where_present (date_line readable (codes "nbf")) (nbf_of claims)
    ++ where_present (date_line readable (codes "iat")) (iat_of claims)
    ++ where_present (bytes_line (codes "cti")) (cti_of claims)
    ++ where_present confirmation_lines claims.confirmation

-- The other claims: those whose label is none of the registered ones, 1 to 7.
abbrev pub is_registered : LabelValue → Bool
is_registered (number n) = int_lt (pos 0) n && int_lt n (pos 8)
is_registered (words name) = false

abbrev pub is_other : Pair → Bool
is_other pair = not (is_registered pair.name)

-- The label and the value in diagnostic notation. In the order of the payload, where they are asked for.
abbrev pub other_line : Pair → List ℕ
other_line pair = codes "claim " ++ label_text pair.name ++ codes ": " ++ diagnostic_of pair.value ++ codes "\n"

abbrev pub other_lines : List Pair → List ℕ
other_lines pairs = concat (map other_line (filter is_other pairs))

abbrev pub others_shown : Bool → List Pair → List ℕ
others_shown asked pairs = if asked then other_lines pairs else []

-- A refusal says whether it is of the message or of its claims, since their places are relative to different bytes.
abbrev pub refused_line : List ℕ → Refusal → List ℕ
refused_line part refusal = codes "refused " ++ part ++ codes " " ++ refusal_text refusal ++ codes "\n"

-- Why there are no claims: the message is refused, its claims are, or they don't meet what is required.
abbrev pub stop_text : CwtStop → List ℕ
stop_text (stops.Message refusal) = refused_line (codes "message") refusal
stop_text (stops.Claims refusal) = refused_line (codes "claims") refusal
stop_text (stops.Stopped stop) = []

abbrev pub stop_status : CwtStop → Status
stop_status (stops.Message refusal) = statuses.Refused
stop_status (stops.Claims refusal) = statuses.Refused
stop_status (stops.Stopped stop) = statuses.Fault

abbrev pub outcome_text : Printing → Admission → List ℕ
outcome_text printing (Ok claims) = codes "admitted\n" ++ claims_lines printing.readable claims ++ others_shown printing.others claims.pairs
outcome_text printing (Err (Cwt stop)) = stop_text stop
outcome_text printing (Err (Unmet unmet)) = unmet_line unmet

abbrev pub outcome_status : Admission → Status
outcome_status (Ok claims) = statuses.Done
outcome_status (Err (Cwt stop)) = stop_status stop
outcome_status (Err (Unmet unmet)) = statuses.Refused
