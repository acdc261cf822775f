-- What a caller passes of a policy, and gets of a token.
use Rattle.std.specs.Prelude.{◌≡◌, ◌≢◌, ℕ, ◌-◌, ◌^◌, min, ℤ, ◌==◌, if◌then◌else◌, List, [], ◌∷◌, length, Option, Some, None, Result, Ok, Err, option_map}
use Rattle.std.specs.Borrow.{Bor}
use Rattle.cose_head.specs.Placed.{if_utf8}
use Rattle.cose_map.specs.Map.Read.{Read}
use Rattle.cose_cwt.specs.Admission.{PolicyValue, admitted_claims}
use Rattle.cose_cwt.specs.Claims.{ClaimsValue, auds_of, cti_of, exp_of, iat_of, iss_of, nbf_of, sub_of}
use Rattle.cose_cwt.specs.Claims.Audience.{text_value}
use Rattle.cose_msg.specs.Message.{Setting}
use Rattle.cose_c.specs.declared.claims.CosePolicy.{CosePolicy}
use Rattle.cose_c.specs.declared.numbers.CoseStatus.{CoseStatus}
use Rattle.cose_c.specs.declared.numbers.CoseVerdict.{CoseVerdict}
use Rattle.cose_c.specs.declared.cose_claims.CoseClaims.{CoseClaims}
use Rattle.cose_c.specs.declared.cose_claims.CoseRange.{CoseRange}
use Rattle.cose_c.specs.Message.{Covers, payload_read, verdict_read}
use Rattle.cose_c.specs.Numbers.{plain_status, refused_status}
use Rattle.cose_c.specs.CoseClaims.{IsWithin, Ranges, confirmed_curve, confirmed_sign, date_numbers, no_claims, no_range, text_numbered}

abbrev pub policy_for : ℤ → ℕ → Option (List ℕ) → PolicyValue
policy_for now leeway name = record { now = now; leeway = leeway; mine = option_map (λ text. text ∷ []) name }

-- Any audience will do, or this name has to be one of its text strings. A name that isn't UTF-8 is refused (9).
abbrev pub name_unless : Option (List ℕ) → Result (Option (List ℕ)) CoseStatus
name_unless (Some name) = Ok (Some name)
name_unless None = Err (plain_status 9)

abbrev pub name_given : ℕ → List ℕ → Result (Option (List ℕ)) CoseStatus
name_given has_audience name = if has_audience == 0 then Ok None else name_unless (if_utf8 name)

-- The same, as the code has it.
abbrev pub name_seen : Result (Option (Bor (List ℕ))) CoseStatus → Result (Option (List ℕ)) CoseStatus
name_seen (Ok name) = Ok (option_map text_value name)
name_seen (Err status) = Err status

abbrev pub policy_named : ℤ → ℕ → Result (Option (List ℕ)) CoseStatus → Result PolicyValue CoseStatus
policy_named now leeway (Ok name) = Ok (policy_for now leeway name)
policy_named now leeway (Err status) = Err status

abbrev pub policy_given : CosePolicy → Result PolicyValue CoseStatus
policy_given policy = policy_named policy.now policy.leeway (name_given policy.has_audience policy.audience.now)

-- The claims of a payload: they are admitted, or their refusal (8).
abbrev pub unless_refused : Read ClaimsValue → Result ClaimsValue CoseStatus
unless_refused (Ok claims) = Ok claims
unless_refused (Err refusal) = Err (refused_status 8 refusal)

abbrev pub claims_given : ℕ → Result PolicyValue CoseStatus → List ℕ → Result ClaimsValue CoseStatus
claims_given depth (Ok policy) payload = unless_refused (admitted_claims depth policy payload)
claims_given depth (Err status) payload = Err status

-- What a caller gets of claims that are admitted: each text string and byte string as its range in the payload, and the dates. Of the
-- confirmation it gets ranges that are within the payload.
pub record GivesClaims (payload : List ℕ) (value : ClaimsValue) (claims : CoseClaims) : Type 0 where
  pub status : claims.status ≡ 1
  pub no_reason : claims.reason ≡ 0
  pub no_place : claims.place ≡ 0
  pub iss : Ranges payload (iss_of value) claims.iss
  pub sub : Ranges payload (sub_of value) claims.sub
  pub aud : Ranges payload (text_numbered 0 (auds_of value)) claims.aud
  pub cti : Ranges payload (cti_of value) claims.cti
  pub aud_count : claims.aud_count ≡ min (length (auds_of value)) (2 ^ 64 - 1)
  pub exp : claims.exp ≡ date_numbers (exp_of value)
  pub nbf : claims.nbf ≡ date_numbers (nbf_of value)
  pub iat : claims.iat ≡ date_numbers (iat_of value)
  pub cnf_crv : claims.cnf_crv ≡ confirmed_curve value.confirmation
  pub cnf_y_sign : claims.cnf_y_sign ≡ confirmed_sign value.confirmation
  pub cnf_kid : IsWithin payload claims.cnf_kid
  pub cnf_x : IsWithin payload claims.cnf_x
  pub cnf_y : IsWithin payload claims.cnf_y

-- Or why there are none. (Where the payload is in the token is said apart.)
abbrev pub without_payload : CoseClaims → CoseClaims
without_payload claims = record claims { payload_at = 0; payload_length = 0 }

abbrev pub Gives : List ℕ → Result ClaimsValue CoseStatus → CoseClaims → Type 0
Gives payload (Ok value) claims = GivesClaims payload value claims
Gives payload (Err status) claims = without_payload claims ≡ no_claims status

-- Where the payload is, of claims that are read without a token: it is all of the bytes. Where there are no claims, there is their
-- status alone.
abbrev pub GivesAlone : List ℕ → Result ClaimsValue CoseStatus → CoseClaims → Type 0
GivesAlone payload (Ok value) claims = (claims.payload_at ≡ 0) × (claims.payload_length ≡ length payload)
GivesAlone payload (Err status) claims = claims ≡ no_claims status

-- The status of a message that isn't authentic.
abbrev pub status_in : CoseVerdict → CoseStatus
status_in verdict = record { status = verdict.status; reason = verdict.reason; place = verdict.place }

-- What a caller gets of a token in a setting (RFC 8392 section 7.2): its claims, where its message is authentic; otherwise the status of
-- its message, so of a COSE_Sign1 that its signature is to be verified.
pub record GivesTokenIn (room nesting : ℕ) (setting : Setting) (policy : Result PolicyValue CoseStatus) (token : List ℕ) (claims : CoseClaims) : Type 0 where
  pub refused : (verdict_read room nesting setting 0 token).status ≢ 1 → claims ≡ no_claims (status_in (verdict_read room nesting setting 0 token))
  pub admitted : (verdict_read room nesting setting 0 token).status ≡ 1 → Gives (payload_read room nesting setting token) (claims_given nesting policy (payload_read room nesting setting token)) claims
  pub payload : (verdict_read room nesting setting 0 token).status ≡ 1 → Covers token (payload_read room nesting setting token) claims.payload_at claims.payload_length

-- And in the setting that the arguments say, if they say one.
abbrev pub GivesToken : ℕ → ℕ → Result Setting CoseStatus → Result PolicyValue CoseStatus → List ℕ → CoseClaims → Type 0
GivesToken room nesting (Ok setting) policy token claims = GivesTokenIn room nesting setting policy token claims
GivesToken room nesting (Err status) policy token claims = claims ≡ no_claims status

-- The text string of this number of the audience of a payload, if it has as many and is a claims set.
abbrev pub GivesAudience : List ℕ → ℕ → Read ClaimsValue → CoseRange → Type 0
GivesAudience payload n (Ok claims) range = Ranges payload (text_numbered n (auds_of claims)) range
GivesAudience payload n (Err refusal) range = range ≡ no_range
