-- What a caller requires of tokens in one struct, and what it gets then.
use Rattle.std.specs.Prelude.{◌≡◌, ◌≢◌, ℕ, pos, Bool, true, false, not, ◌||◌, List, [], ◌∷◌, length, take, drop, filter, Option, Some, None, Result, Ok, Err, is_some, option_map, nat_lt, ◌==◌, if◌then◌else◌}
use Rattle.std.specs.Borrow.{Bor}
use Rattle.std.specs.Ordering.{int_eq}
use Rattle.cose_head.specs.Placed.{if_utf8}
use Rattle.cose_map.specs.Map.Read.{Read}
use Rattle.cose_msg.specs.Message.{Setting}
use Rattle.cose_cwt.specs.declared.requirements.Claim.{Claim}
use Rattle.cose_cwt.specs.declared.requirements.Claim.TheVariants.{Iss, Sub, Aud, Exp, Nbf, Iat, Cti}
use Rattle.cose_cwt.specs.declared.requirements.Requirement.{Requirement}
use Rattle.cose_cwt.specs.declared.requirements.Requirement.TheVariants.{Present, Issuer, Subject, Audience, Lifetime, Age, Issued}
use Rattle.cose_cwt.specs.declared.requirements.Unmet.{Unmet}
use Rattle.cose_cwt.specs.Admission.{PolicyValue, admitted_claims}
use Rattle.cose_cwt.specs.Claims.{ClaimsValue}
use Rattle.cose_cwt.specs.Claims.Audience.{text_value}
use Rattle.cose_cwt.specs.Requirements.{RequirementsValue, met, registered}
use Rattle.cose_cwt.specs.Requirements.View.{requirements_value}
use Rattle.cose_c.specs.declared.numbers.CoseStatus.{CoseStatus}
use Rattle.cose_c.specs.declared.numbers.CoseVerdict.{CoseVerdict}
use Rattle.cose_c.specs.declared.cose_claims.CoseClaims.{CoseClaims}
use Rattle.cose_c.specs.declared.required.CoseRequirements.{CoseRequirements}
use Rattle.cose_c.specs.declared.required.Required.{Required}
use Rattle.cose_c.specs.Claims.{Gives, status_in}
use Rattle.cose_c.specs.CoseClaims.{no_claims}
use Rattle.cose_c.specs.Message.{Covers, payload_read, verdict_read}
use Rattle.cose_c.specs.Numbers.{plain_status, refused_status}
use Rattle.cose_c.specs.Stated.{has_flag}

-- ---- what is stated

-- A text string of no bytes states nothing, and others are UTF-8 (12).
abbrev pub text_unless : Option (List ℕ) → Result (Option (List ℕ)) CoseStatus
text_unless (Some text) = Ok (Some text)
text_unless None = Err (plain_status 12)

abbrev pub text_stated : List ℕ → Result (Option (List ℕ)) CoseStatus
text_stated bytes = if length bytes == 0 then Ok None else text_unless (if_utf8 bytes)

-- The same, as the code has it.
abbrev pub text_seen : Result (Option (Bor (List ℕ))) CoseStatus → Result (Option (List ℕ)) CoseStatus
text_seen (Ok text) = Ok (option_map text_value text)
text_seen (Err status) = Err status

-- Zero states nothing.
abbrev pub number_stated : ℕ → Option ℕ
number_stated number = if number == 0 then None else Some number

-- The claims that have to be present, by a flag each (RFC 8392 section 3.1), and exp, unless a token without it is permitted.
abbrev pub flag_of : Claim → ℕ
flag_of Iss = 1
flag_of Sub = 2
flag_of Aud = 4
flag_of Exp = 8
flag_of Nbf = 16
flag_of Iat = 32
flag_of Cti = 64

abbrev pub is_exp : Claim → Bool
is_exp Exp = true
is_exp _ = false

abbrev pub is_required : ℕ → ℕ → Claim → Bool
is_required present permitted claim = if is_exp claim then not (permitted == 1) || has_flag present 8 else has_flag present (flag_of claim)

abbrev pub present_of : ℕ → ℕ → List Claim
present_of present permitted = filter (is_required present permitted) registered

-- A struct of another size is of another version, the current time has to be stated, and there are seven claims and one flag.
abbrev pub is_unknown : CoseRequirements → Bool
is_unknown r = not (r.size == 88) || (int_eq r.now (pos 0) || (nat_lt 127 r.present || nat_lt 1 r.permitted))

-- Where a greatest age is stated, a token isn't issued in the future.
abbrev pub requirements_with : CoseRequirements → Option (List ℕ) → Option (List ℕ) → Option (List ℕ) → RequirementsValue
requirements_with r iss sub aud = record {
  now = r.now;
  leeway = r.leeway;
  present = present_of r.present r.permitted;
  iss = iss;
  sub = sub;
  aud = aud;
  lifetime = number_stated r.lifetime;
  age = number_stated r.age;
  issued = is_some (number_stated r.age);
}

abbrev pub with_texts : CoseRequirements → Result (Option (List ℕ)) CoseStatus → Result (Option (List ℕ)) CoseStatus → Result (Option (List ℕ)) CoseStatus → Result RequirementsValue CoseStatus
with_texts r (Err status) sub aud = Err status
with_texts r (Ok iss) (Err status) aud = Err status
with_texts r (Ok iss) (Ok sub) (Err status) = Err status
with_texts r (Ok iss) (Ok sub) (Ok aud) = Ok (requirements_with r iss sub aud)

-- What is required; or why no token is admitted.
abbrev pub required_stated : CoseRequirements → Result RequirementsValue CoseStatus
required_stated r =
    if is_unknown r then Err (plain_status 12)
    else with_texts r (text_stated r.iss.now) (text_stated r.sub.now) (text_stated r.aud.now)

-- The same, as the code has it.
abbrev pub required_value : Required → RequirementsValue
required_value r = record (requirements_value r.rest) { present = present_of r.present r.permitted }

abbrev pub required_seen : Result Required CoseStatus → Result RequirementsValue CoseStatus
required_seen (Ok required) = Ok (required_value required)
required_seen (Err status) = Err status

-- The requirement that one claim is present, and no other.
abbrev pub presence : Claim → RequirementsValue
presence claim = record {
  now = pos 0;
  leeway = 0;
  present = claim ∷ [];
  iss = None;
  sub = None;
  aud = None;
  lifetime = None;
  age = None;
  issued = false;
}

-- ---- what is given

-- The number of a requirement: that of a claim that has to be present is the claim's label (RFC 8392 section 4).
abbrev pub label_number : Claim → ℕ
label_number Iss = 1
label_number Sub = 2
label_number Aud = 3
label_number Exp = 4
label_number Nbf = 5
label_number Iat = 6
label_number Cti = 7

abbrev pub unmet_number : Requirement → ℕ
unmet_number (Present claim) = label_number claim
unmet_number Issuer = 8
unmet_number Subject = 9
unmet_number Audience = 10
unmet_number Lifetime = 11
unmet_number Age = 12
unmet_number Issued = 13

-- The requirement that isn't met is where a refusal has its reason.
abbrev pub unmet_status : Unmet → CoseStatus
unmet_status unmet = record { status = 13; reason = unmet_number unmet.requirement; place = unmet.place }

-- An audience that is stated has to be named, so that any is admitted before.
abbrev pub policy_of : RequirementsValue → PolicyValue
policy_of r = record { now = r.now; leeway = r.leeway; mine = None }

-- The claims of a payload: they are admitted and meet what is required, or their refusal (8), or what they don't meet (13).
abbrev pub unless_unmet : ClaimsValue → Result (Unit {0}) Unmet → Result ClaimsValue CoseStatus
unless_unmet claims (Ok done) = Ok claims
unless_unmet claims (Err unmet) = Err (unmet_status unmet)

abbrev pub if_meeting : RequirementsValue → Read ClaimsValue → Result ClaimsValue CoseStatus
if_meeting r (Ok claims) = unless_unmet claims (met r claims)
if_meeting r (Err refusal) = Err (refused_status 8 refusal)

abbrev pub claims_meeting : ℕ → RequirementsValue → List ℕ → Result ClaimsValue CoseStatus
claims_meeting depth r payload = if_meeting r (admitted_claims depth (policy_of r) payload)

abbrev pub claims_required : ℕ → Result RequirementsValue CoseStatus → List ℕ → Result ClaimsValue CoseStatus
claims_required depth (Ok r) payload = claims_meeting depth r payload
claims_required depth (Err status) payload = Err status

-- What is given of a token whose verdict is known: the claims of its payload, where it is authentic; otherwise its status.
pub record ClaimsAfter (nesting : ℕ) (verdict : CoseVerdict) (r : RequirementsValue) (token : List ℕ) (claims : CoseClaims) : Type 0 where
  pub other : verdict.status ≢ 1 → claims ≡ no_claims (status_in verdict)
  pub admitted : verdict.status ≡ 1 → Gives (take verdict.payload_length (drop verdict.payload_at token)) (claims_meeting nesting r (take verdict.payload_length (drop verdict.payload_at token))) claims
  pub place : verdict.status ≡ 1 → claims.payload_at ≡ verdict.payload_at
  pub count : verdict.status ≡ 1 → claims.payload_length ≡ verdict.payload_length

-- And where it isn't known what is required, that status.
abbrev pub GivesAfter : ℕ → CoseVerdict → Result RequirementsValue CoseStatus → List ℕ → CoseClaims → Type 0
GivesAfter nesting verdict (Err status) token claims = claims ≡ no_claims status
GivesAfter nesting verdict (Ok r) token claims = ClaimsAfter nesting verdict r token claims

-- What a caller gets of a token in a setting (RFC 8392 section 7.2): its claims, where its message is authentic; otherwise the status of
-- its message, so of a COSE_Sign1 that its signature is to be verified.
pub record GivesRequiredIn (room nesting : ℕ) (setting : Setting) (r : RequirementsValue) (token : List ℕ) (claims : CoseClaims) : Type 0 where
  pub refused : (verdict_read room nesting setting 0 token).status ≢ 1 → claims ≡ no_claims (status_in (verdict_read room nesting setting 0 token))
  pub admitted : (verdict_read room nesting setting 0 token).status ≡ 1 → Gives (payload_read room nesting setting token) (claims_meeting nesting r (payload_read room nesting setting token)) claims
  pub payload : (verdict_read room nesting setting 0 token).status ≡ 1 → Covers token (payload_read room nesting setting token) claims.payload_at claims.payload_length

-- And in the setting that the terms say, if they say one, with what is required, if that is known.
abbrev pub GivesRequired : ℕ → ℕ → Result Setting CoseStatus → Result RequirementsValue CoseStatus → List ℕ → CoseClaims → Type 0
GivesRequired room nesting setting (Err status) token claims = claims ≡ no_claims status
GivesRequired room nesting (Err status) (Ok r) token claims = claims ≡ no_claims status
GivesRequired room nesting (Ok setting) (Ok r) token claims = GivesRequiredIn room nesting setting r token claims
