-- The claims of a payload or of a token in the form of the C interface: under a policy that is refused, one that is good, and wherever
-- the payload is.
use Rattle.std.proofs.Common.{◌≡◌, ◌≢◌, ℕ, ℤ, true, List, length, take, drop, Option, Result, Ok, Err, refl, sym, ap, subst, ◌∙◌}
use Rattle.cose_head.specs.declared.kind.Kind.{Kind}
use Rattle.cose_map.specs.Map.Read.{Read, ◌>>=◌}
use Rattle.cose_msg.specs.declared.verdict.Verdict.TheVariants.{Authentic, Refused}
use Rattle.cose_msg.specs.Answer.{Answer, complete, decided, shaped}
use Rattle.cose_msg.specs.Message.{Setting, verdict_of}
use Rattle.cose_cwt.specs.Admission.{PolicyValue, admitted, admitted_claims}
use Rattle.cose_cwt.specs.Claims.{ClaimsValue, claims_of}
use Rattle.cose_c.specs.declared.numbers.CoseStatus.{CoseStatus}
use Rattle.cose_c.specs.declared.numbers.CoseVerdict.{CoseVerdict}
use Rattle.cose_c.specs.declared.cose_claims.CoseClaims.{CoseClaims}
use Rattle.cose_c.specs.Claims.{Gives, GivesTokenIn, claims_given, policy_for, policy_named, status_in, unless_refused}
use Rattle.cose_c.specs.Deciding.{always}
use Rattle.cose_c.specs.Message.{Covers, is_accepted, payload_read, verdict_read}
use Rattle.cose_c.specs.Numbers.{one_message, unless_signed, verdict_numbers}
use Rattle.cose_c.specs.CoseClaims.{no_claims}

abbrev got : ClaimsValue → Read ClaimsValue
got claims = Ok claims

-- Claims that are admitted were read.
module _ (policy : PolicyValue) (claims : ClaimsValue) where
  admission : (read : ClaimsValue) (said : Read (Unit {0})) → (said >>= (λ _. got read)) ≡ got claims → got read ≡ got claims
  admission read (Ok x) e = e
  admission read (Err refusal) e = absurd cc

  reading : (read : Read ClaimsValue) → (read >>= (λ x. admitted policy x >>= (λ _. got x))) ≡ got claims → read ≡ got claims
  reading (Ok x) e = admission x (admitted policy x) e
  reading (Err refusal) e = absurd cc

  pub was_read : (depth : ℕ) (payload : List ℕ) → admitted_claims depth policy payload ≡ Ok claims → claims_of depth (record { bytes = payload; place = 0 }) ≡ Ok claims
  was_read depth payload e = reading (claims_of depth (record { bytes = payload; place = 0 })) e

-- What holds of the claims under the policy that the arguments say.
module _ (P : Result ClaimsValue CoseStatus → Type 0) (depth : ℕ) (payload : List ℕ) (now : ℤ) (leeway : ℕ) (given : Result (Option (List ℕ)) CoseStatus) where
  pub of_no_policy : (status : CoseStatus) → given ≡ Err status → P (Err status) → P (claims_given depth (policy_named now leeway given) payload)
  of_no_policy status e h = subst (λ (g : Result (Option (List ℕ)) CoseStatus). P (claims_given depth (policy_named now leeway g) payload)) (sym e) h

  pub of_policy : (name : Option (List ℕ)) (policy : PolicyValue) → given ≡ Ok name → policy ≡ policy_for now leeway name →
      P (unless_refused (admitted_claims depth policy payload)) → P (claims_given depth (policy_named now leeway given) payload)
  of_policy name policy e same h =
      subst (λ (g : Result (Option (List ℕ)) CoseStatus). P (claims_given depth (policy_named now leeway g) payload)) (sym e)
      (subst (λ (p : PolicyValue). P (unless_refused (admitted_claims depth p payload))) same h)

-- The same where the payload is at another place.
pub gives_at_any_place : (payload : List ℕ) (given : Result ClaimsValue CoseStatus) (claims : CoseClaims) (at count : ℕ) → Gives payload given claims → Gives payload given (record claims { payload_at = at; payload_length = count })
gives_at_any_place payload (Ok value) claims at count g = record {
  status = g.status;
  no_reason = g.no_reason;
  no_place = g.no_place;
  iss = g.iss;
  sub = g.sub;
  aud = g.aud;
  cti = g.cti;
  aud_count = g.aud_count;
  exp = g.exp;
  nbf = g.nbf;
  iat = g.iat;
  cnf_crv = g.cnf_crv;
  cnf_y_sign = g.cnf_y_sign;
  cnf_kid = g.cnf_kid;
  cnf_x = g.cnf_x;
  cnf_y = g.cnf_y;
}
gives_at_any_place payload (Err status) claims at count g = g

-- ---- a token

-- The status of an answer does not depend on where the payload is.
pub any_place : (status : Kind → ℕ) (at : ℕ) (answer : Answer) → status_in (verdict_numbers status at answer) ≡ status_in (verdict_numbers status 0 answer)
any_place status at (decided (Authentic kind alg payload taken)) = refl
any_place status at (decided (Refused refusal)) = refl
any_place status at (complete whole) = refl
any_place status at (shaped kind payload auth taken) = refl

pub authentic_is_accepted : (v : CoseVerdict) → v.status ≡ 1 → is_accepted v ≡ true
authentic_is_accepted v one = rw one refl

pub gives_token : (room nesting : ℕ) (setting : Setting) (policy : Result PolicyValue CoseStatus) (token : List ℕ) (v : CoseVerdict) (claims : CoseClaims) →
    v ≡ verdict_read room nesting setting v.payload_at token →
    (is_accepted v ≡ true → Covers token (payload_read room nesting setting token) v.payload_at v.payload_length) →
    (v.status ≢ 1 → claims ≡ no_claims (status_in v)) →
    (v.status ≡ 1 → Gives (take v.payload_length (drop v.payload_at token)) (claims_given nesting policy (take v.payload_length (drop v.payload_at token))) claims) →
    (v.status ≡ 1 → claims.payload_at ≡ v.payload_at) → (v.status ≡ 1 → claims.payload_length ≡ v.payload_length) → GivesTokenIn room nesting setting policy token claims
gives_token room nesting setting policy token v claims is covers other gives place count =
    let same : status_in v ≡ status_in (verdict_read room nesting setting 0 token) =
    ap status_in is ∙ any_place unless_signed v.payload_at (one_message (length token) (verdict_of room nesting setting always token)) in
    let one_of : v.status ≡ (verdict_read room nesting setting 0 token).status = ap (λ (s : CoseStatus). s.status) same in
    record {
      refused = λ no. other (λ one. no (sym one_of ∙ one)) ∙ ap no_claims same;
      admitted = λ one.
          let covered = covers (authentic_is_accepted v (one_of ∙ one)) in
          subst (λ (payload : List ℕ). Gives payload (claims_given nesting policy payload) claims) covered.has (gives (one_of ∙ one));
      payload = λ one.
          let covered = covers (authentic_is_accepted v (one_of ∙ one)) in
          subst (λ (at : ℕ). Covers token (payload_read room nesting setting token) at claims.payload_length) (sym (place (one_of ∙ one)))
          (subst (λ (n : ℕ). Covers token (payload_read room nesting setting token) v.payload_at n) (sym (count (one_of ∙ one))) covered);
    }
