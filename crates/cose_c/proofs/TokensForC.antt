-- What a caller gets of a token whose message was verified in the setting that the arguments say.
use Rattle.std.proofs.Common.{◌≡◌, ◌≢◌, ℕ, Bool, true, false, List, length, take, drop, Option, Some, None, Result, Ok, Err, sym, ap, ◌∙◌, if◌then◌else◌}
use Rattle.std.specs.Prelude.{⊤, nat_lt}
use Rattle.cose_map.specs.Key.Value.{KeyValue}
use Rattle.cose_map.specs.KeySet.{keys_of}
use Rattle.cose_map.specs.Map.Read.{Read}
use Rattle.cose_msg.specs.declared.context.Wanted.{Wanted}
use Rattle.cose_msg.specs.Message.{Setting}
use Rattle.cose_cwt.specs.Admission.{PolicyValue}
use Rattle.cose_cwt.specs.Requirements.{RequirementsValue}
use Rattle.cose_c.specs.declared.cose_claims.CoseClaims.{CoseClaims}
use Rattle.cose_c.specs.declared.held.table.HeldTable.{HeldTable}
use Rattle.cose_c.specs.declared.numbers.CoseStatus.{CoseStatus}
use Rattle.cose_c.specs.declared.numbers.CoseVerdict.{CoseVerdict}
use Rattle.cose_c.specs.declared.stated.CoseTerms.{CoseTerms}
use Rattle.cose_c.specs.declared.table.keys.TableKeys.{TableKeys}
use Rattle.cose_c.specs.declared.table.kept.TableTerms.{TableTerms}
use Rattle.cose_c.specs.Claims.{Gives, GivesToken, claims_given, status_in}
use Rattle.cose_c.specs.CoseClaims.{no_claims}
use Rattle.cose_c.specs.Message.{Covers, is_accepted, payload_given, verdict_given}
use Rattle.cose_c.specs.Numbers.{plain_status}
use Rattle.cose_c.specs.Permitted.{permitted_in}
use Rattle.cose_c.specs.Required.{GivesAfter, GivesRequired, claims_meeting}
use Rattle.cose_c.specs.Stated.{is_unknown, labels_stated, permission_stated, setting_among, setting_stated}
use Rattle.cose_c.specs.Table.{setting_under_table}
use Rattle.cose_c.specs.TableUnder.{setting_kept, setting_of_both}
use Rattle.cose_c.specs.Terms.{kinds_given, kinds_numbered, kinds_within, setting_given, setting_with}
use Rattle.cose_c.proofs.Admitting.{gives_required}
use Rattle.cose_c.proofs.ClaimsForC.{gives_token}

-- Where the arguments say no setting, the status isn't that of an authentic message.
abbrev pub SaysNoVerdict : {X : Type 0} → Result X CoseStatus → Type 0
SaysNoVerdict (Ok setting) = ⊤
SaysNoVerdict (Err status) = status.status ≢ 1

of_length : (kinds : Wanted) (long : Bool) → SaysNoVerdict (if long then Err (plain_status 5) else Ok kinds)
of_length kinds true = λ one. absurd cc
of_length kinds false = tt

of_kinds : (aad : List ℕ) (kinds : Option Wanted) → SaysNoVerdict (kinds_within aad kinds)
of_kinds aad None = λ one. absurd cc
of_kinds aad (Some kinds) = of_length kinds (nat_lt 65535 (length aad))

of_keys : (keys : Read (List KeyValue)) (aad : List ℕ) (kinds : Result Wanted CoseStatus) → SaysNoVerdict kinds → SaysNoVerdict (setting_with keys aad kinds)
of_keys keys aad (Err status) none = none
of_keys (Err refusal) aad (Ok kinds) none = λ one. absurd cc
of_keys (Ok keys) aad (Ok kinds) none = tt

pub of_arguments : (keys : Read (List KeyValue)) (aad : List ℕ) (kind : ℕ) → SaysNoVerdict (setting_given keys aad kind)
of_arguments keys aad kind = of_keys keys aad (kinds_given aad kind) (of_kinds aad (kinds_numbered kind))

pub of_table : (keys : Option (List KeyValue)) (aad : List ℕ) (kind : ℕ) → SaysNoVerdict (setting_under_table keys aad kind)
of_table None aad kind = λ one. absurd cc
of_table (Some keys) aad kind = of_arguments (Ok keys) aad kind

of_both : (content : Option TableKeys) (stated : Option TableTerms) → SaysNoVerdict (setting_of_both content stated)
of_both None stated = λ one. absurd cc
of_both (Some keys) None = λ one. absurd cc
of_both (Some keys) (Some stated) = tt

pub of_kept : (held : HeldTable) → SaysNoVerdict (setting_kept held)
of_kept held = of_both held.content held.stated

module _ (terms : CoseTerms) where
  of_known : (keys : Read (List KeyValue)) (kinds : Result Wanted CoseStatus) → SaysNoVerdict kinds → SaysNoVerdict (setting_among terms (labels_stated terms.understood) keys kinds)
  of_known keys (Err status) none = none
  of_known (Err refusal) (Ok kinds) none = λ one. absurd cc
  of_known (Ok keys) (Ok kinds) none = tt

  of_version : (keys : Read (List KeyValue)) (unknown : Bool) → SaysNoVerdict (if unknown then Err (plain_status 12) else setting_among terms (labels_stated terms.understood) keys (kinds_given terms.aad.now terms.kind))
  of_version keys true = λ one. absurd cc
  of_version keys false = of_known keys (kinds_given terms.aad.now terms.kind) (of_kinds terms.aad.now (kinds_numbered terms.kind))

  pub of_terms : SaysNoVerdict (setting_stated terms)
  of_terms = of_version (permitted_in (permission_stated terms) (keys_of terms.keys.now)) (is_unknown terms)

module _ (room nesting : ℕ) (token : List ℕ) (v : CoseVerdict) (claims : CoseClaims) where
  -- Its claims are those of what the verdict says.
  pub token_given : (given : Result Setting CoseStatus) (policy : Result PolicyValue CoseStatus) → v ≡ verdict_given room nesting given v.payload_at token →
      (is_accepted v ≡ true → Covers token (payload_given room nesting given token) v.payload_at v.payload_length) → SaysNoVerdict given →
      (v.status ≢ 1 → claims ≡ no_claims (status_in v)) →
      (v.status ≡ 1 → Gives (take v.payload_length (drop v.payload_at token)) (claims_given nesting policy (take v.payload_length (drop v.payload_at token))) claims) →
      (v.status ≡ 1 → claims.payload_at ≡ v.payload_at) → (v.status ≡ 1 → claims.payload_length ≡ v.payload_length) → GivesToken room nesting given policy token claims
  token_given (Ok setting) policy is covers none other gives place count = gives_token room nesting setting policy token v claims is covers other gives place count
  token_given (Err status) policy is covers none other gives place count = other (λ one. none (ap (λ (u : CoseVerdict). u.status) (sym is) ∙ one)) ∙ ap (λ (u : CoseVerdict). no_claims (status_in u)) is

  required_given : (given : Result Setting CoseStatus) (r : RequirementsValue) → v ≡ verdict_given room nesting given v.payload_at token →
      (is_accepted v ≡ true → Covers token (payload_given room nesting given token) v.payload_at v.payload_length) → SaysNoVerdict given →
      (v.status ≢ 1 → claims ≡ no_claims (status_in v)) →
      (v.status ≡ 1 → Gives (take v.payload_length (drop v.payload_at token)) (claims_meeting nesting r (take v.payload_length (drop v.payload_at token))) claims) →
      (v.status ≡ 1 → claims.payload_at ≡ v.payload_at) → (v.status ≡ 1 → claims.payload_length ≡ v.payload_length) → GivesRequired room nesting given (Ok r) token claims
  required_given (Ok setting) r is covers none other gives place count = gives_required room nesting setting r token v claims is covers other gives place count
  required_given (Err status) r is covers none other gives place count = other (λ one. none (ap (λ (u : CoseVerdict). u.status) (sym is) ∙ one)) ∙ ap (λ (u : CoseVerdict). no_claims (status_in u)) is

  -- The same, from what is given after the verdict.
  pub required_after : (given : Result Setting CoseStatus) (required : Result RequirementsValue CoseStatus) → v ≡ verdict_given room nesting given v.payload_at token →
      (is_accepted v ≡ true → Covers token (payload_given room nesting given token) v.payload_at v.payload_length) → SaysNoVerdict given →
      GivesAfter nesting v required token claims → GivesRequired room nesting given required token claims
  required_after given (Err status) is covers none gives = gives
  required_after given (Ok r) is covers none gives = required_given given r is covers none gives.other gives.admitted gives.place gives.count
