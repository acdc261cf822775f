-- The key of a message that a verifier is fed, by what is known of the terms and of the message.
use Rattle.std.proofs.Common.{◌≡◌, ℕ, Bool, true, false, not, Option, Some, None, refl, sym, ap, ◌∙◌, if◌then◌else◌}
use Rattle.cose_head.specs.Placed.{Placed}
use Rattle.cose_head.specs.declared.kind.Kind.{Kind}
use Rattle.cose_map.specs.Choice.{Question}
use Rattle.cose_msg.specs.Naming.{asked_by}
use Rattle.cose_msg.specs.Shown.{protected_of, unprotected_of}
use Rattle.cose_msg.specs.declared.verifier.Verifier.{Verifier}
use Rattle.cose_c.specs.declared.stated.CoseTerms.{CoseTerms}
use Rattle.cose_c.specs.KeyChoice.{item_fitting, item_of_kind, key_of_fed, kind_numbered}
use Rattle.cose_c.specs.Parameter.{bucket_by}
use Rattle.cose_c.specs.Stated.{is_unknown, permission_stated}
use Rattle.cose_c.specs.Stream.{Content}

unless : (b : Bool) (other : Option Placed) → not b ≡ false → (if b then None else other) ≡ None
unless true other is = refl
unless false other is = absurd cc

if_known : (b : Bool) (other : Option Placed) → not b ≡ true → (if b then None else other) ≡ other
if_known true other is = absurd cc
if_known false other is = refl

none_anyway : (b : Bool) (other : Option Placed) → other ≡ None → (if b then None else other) ≡ None
none_anyway true other is = refl
none_anyway false other is = is

of_no_bucket : (terms : CoseTerms) (kind : Option Kind) → item_of_kind terms kind None None ≡ None
of_no_bucket terms (Some kind) = refl
of_no_bucket terms None = refl

module _ {H D : ℕ} {S : Type 0} {K : _} (terms : CoseTerms) where
  pub none_if_unknown : (content : Content H D S K) → not (is_unknown terms) ≡ false → key_of_fed terms content ≡ None
  none_if_unknown content = unless (is_unknown terms) (item_of_kind terms (kind_numbered terms.kind) (bucket_by true content) (bucket_by false content))

  pub none_without_kind : (content : Content H D S K) → kind_numbered terms.kind ≡ None → key_of_fed terms content ≡ None
  none_without_kind content is =
      none_anyway (is_unknown terms) _ (ap (λ (kind : Option Kind). item_of_kind terms kind (bucket_by true content) (bucket_by false content)) is)

  pub none_without_message : (content : Content H D S K) → content ≡ None → key_of_fed terms content ≡ None
  none_without_message content is =
      ap (key_of_fed terms) is ∙ none_anyway (is_unknown terms) _ (of_no_bucket terms (kind_numbered terms.kind))

  pub what_is_asked_for : (content : Content H D S K) (verifier : Verifier H D S K) (kind : Kind) (asked : Option Question) → not (is_unknown terms) ≡ true → content ≡ Some verifier →
      kind_numbered terms.kind ≡ Some kind → asked ≡ asked_by kind (protected_of verifier) (unprotected_of verifier) → key_of_fed terms content ≡ item_fitting (permission_stated terms) terms.keys.now asked
  what_is_asked_for content verifier kind asked known is of_kind asks =
      ap (key_of_fed terms) is
      ∙ if_known (is_unknown terms) _ known
      ∙ ap (λ (k : Option Kind). item_of_kind terms k (protected_of verifier) (unprotected_of verifier)) of_kind
      ∙ ap (item_fitting (permission_stated terms) terms.keys.now) (sym asks)
