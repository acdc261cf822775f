-- The claims of a token that meet what is required, in the form of the C interface.
use Rattle.std.proofs.Common.{◌≡◌, ◌≢◌, ℕ, true, List, length, take, drop, sym, ap, subst, ◌∙◌}
use Rattle.cose_msg.specs.Message.{Setting, verdict_of}
use Rattle.cose_cwt.specs.Requirements.{RequirementsValue}
use Rattle.cose_c.specs.declared.numbers.CoseStatus.{CoseStatus}
use Rattle.cose_c.specs.declared.numbers.CoseVerdict.{CoseVerdict}
use Rattle.cose_c.specs.declared.cose_claims.CoseClaims.{CoseClaims}
use Rattle.cose_c.specs.Claims.{Gives, status_in}
use Rattle.cose_c.specs.Deciding.{always}
use Rattle.cose_c.specs.Message.{Covers, is_accepted, payload_read, verdict_read}
use Rattle.cose_c.specs.Numbers.{one_message, unless_signed}
use Rattle.cose_c.specs.CoseClaims.{no_claims}
use Rattle.cose_c.specs.Required.{GivesRequiredIn, claims_meeting}
use Rattle.cose_c.proofs.ClaimsForC.{any_place, authentic_is_accepted}

pub gives_required : (room nesting : ℕ) (setting : Setting) (r : RequirementsValue) (token : List ℕ) (v : CoseVerdict) (claims : CoseClaims) →
    v ≡ verdict_read room nesting setting v.payload_at token →
    (is_accepted v ≡ true → Covers token (payload_read room nesting setting token) v.payload_at v.payload_length) →
    (v.status ≢ 1 → claims ≡ no_claims (status_in v)) →
    (v.status ≡ 1 → Gives (take v.payload_length (drop v.payload_at token)) (claims_meeting nesting r (take v.payload_length (drop v.payload_at token))) claims) →
    (v.status ≡ 1 → claims.payload_at ≡ v.payload_at) → (v.status ≡ 1 → claims.payload_length ≡ v.payload_length) → GivesRequiredIn room nesting setting r token claims
gives_required room nesting setting r token v claims is covers other gives place count =
    let same : status_in v ≡ status_in (verdict_read room nesting setting 0 token) =
    ap status_in is ∙ any_place unless_signed v.payload_at (one_message (length token) (verdict_of room nesting setting always token)) in
    let one_of : v.status ≡ (verdict_read room nesting setting 0 token).status = ap (λ (s : CoseStatus). s.status) same in
    record {
      refused = λ no. other (λ one. no (sym one_of ∙ one)) ∙ ap no_claims same;
      admitted = λ one.
          let covered = covers (authentic_is_accepted v (one_of ∙ one)) in
          subst (λ (payload : List ℕ). Gives payload (claims_meeting nesting r payload) claims) covered.has (gives (one_of ∙ one));
      payload = λ one.
          let covered = covers (authentic_is_accepted v (one_of ∙ one)) in
          subst (λ (at : ℕ). Covers token (payload_read room nesting setting token) at claims.payload_length) (sym (place (one_of ∙ one)))
          (subst (λ (n : ℕ). Covers token (payload_read room nesting setting token) v.payload_at n) (sym (count (one_of ∙ one))) covered);
    }
