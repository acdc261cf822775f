-- The verdict is one of those that are stated: reading the whole message, and then saying whether its authentication holds.
use Rattle.std.proofs.Common.{◌≡◌, ℕ, Bool, true, false, cond, List, Option, Some, None, refl, sym, ap, ◌∙◌}
use Rattle.std.proofs.lemmas.Bool.{false_from_ne_true}
use Rattle.std.proofs.lemmas.Slice.Eq.{bytes_eq-Decides}
use Rattle.std.specs.Prelude.{◌&&◌}
use Rattle.std.specs.Str.{bytes_eq}
use Rattle.cose_head.specs.Algorithm.{is_mac_of}
use Rattle.cose_msg.specs.Answer.{Answer, Chosen, Whole, decided, complete, shaped}
use Rattle.cose_msg.specs.Elsewhere.{Authenticates, DecidedBefore, IsWhole, OtherMacIsRefused, StatedAnswerIsVerdict, StatedMacIsVerdict, VerdictIsInstance, authenticated, authenticates_by, stated_answer, stated_mac, then_authenticated, verdict_by}
use Rattle.cose_msg.specs.Hashing.{authenticator}
use Rattle.cose_msg.specs.Laws.{ComparingGoesLast, VerifyingGoesLast, then_compared, then_verified}
use Rattle.cose_msg.specs.Message.{Decides, Setting, compare_tag, compared, digest_signed, judged, message, structure, tag_of, uncompared}
use Rattle.cose_msg.specs.Reading.{Reading}

module _ (aad : List ℕ) (decides : Decides) where
  judged_stays : (holds : Bool) (found : Chosen) (whole : Whole) → then_verified aad decides (judged holds found whole) ≡ judged holds found whole
  judged_stays true found whole = refl
  judged_stays false found whole = refl

  -- What is computed: the MAC, or the digest.
  abbrev result : Bool → Chosen → Whole → List ℕ
  result is_mac found whole = cond is_mac (tag_of aad found whole) (digest_signed aad found whole)

  by_algorithm : (is_mac : Bool) (found : Chosen) (whole : Whole) → whole.chosen ≡ Some found →
      then_verified aad decides (cond is_mac (compare_tag aad found whole) (complete whole)) ≡
      judged (cond is_mac (bytes_eq whole.auth (result is_mac found whole)) (decides found.key (result is_mac found whole) whole.auth)) found whole
  by_algorithm true found whole is = judged_stays (bytes_eq whole.auth (tag_of aad found whole)) found whole
  by_algorithm false found whole is = rw is refl

  under_key : (chosen : Option Chosen) (whole : Whole) → whole.chosen ≡ chosen →
      then_verified aad decides (compared aad chosen whole) ≡ authenticated aad (authenticates_by authenticator decides) chosen whole
  under_key (Some found) whole is = by_algorithm (is_mac_of found.alg) found whole is
  under_key None whole is = rw is refl

  both_steps : (answer : Answer) → then_verified aad decides (then_compared aad answer) ≡ then_authenticated aad (authenticates_by authenticator decides) answer
  both_steps (complete whole) = under_key whole.chosen whole refl
  both_steps (decided verdict) = refl
  both_steps (shaped kind payload auth taken) = refl

pub verdict_is_instance : ComparingGoesLast → VerifyingGoesLast → VerdictIsInstance
verdict_is_instance comparing verifying room nesting setting decides bytes =
    ap (λ (r : Reading). r.answer) (verifying room nesting setting decides bytes)
    ∙ ap (λ (r : Reading). then_verified setting.aad decides r.answer) (comparing room nesting setting bytes)
    ∙ both_steps setting.aad decides (message (uncompared room nesting setting) bytes).answer

module _ (room nesting : ℕ) (setting : Setting) (bytes : List ℕ) (found : Chosen) (whole : Whole) (is : IsWhole room nesting setting bytes found whole) where
  -- Of a whole message, what is stated decides.
  decided_by : (holds : Authenticates) → verdict_by room nesting setting holds bytes ≡ judged (holds found (structure setting.aad whole.headers whole.payload) whole.auth) found whole
  decided_by holds = ap (then_authenticated setting.aad holds) is.reads ∙ ap (λ (c : Option Chosen). authenticated setting.aad holds c whole) is.chosen

  agree : (holds other : Authenticates) →
      holds found (structure setting.aad whole.headers whole.payload) whole.auth ≡ other found (structure setting.aad whole.headers whole.payload) whole.auth →
      verdict_by room nesting setting holds bytes ≡ verdict_by room nesting setting other bytes
  agree holds other same = decided_by holds ∙ ap (λ (b : Bool). judged b found whole) same ∙ sym (decided_by other)

pub stated_mac_is_verdict : VerdictIsInstance → StatedMacIsVerdict
stated_mac_is_verdict instance room nesting setting decides bytes mac found whole is is_mac same =
    agree room nesting setting bytes found whole is (stated_mac mac) (authenticates_by authenticator decides) (rw (is_mac, same) refl)
    ∙ sym (instance room nesting setting decides bytes)

pub stated_answer_is_verdict : VerdictIsInstance → StatedAnswerIsVerdict
stated_answer_is_verdict instance room nesting setting decides bytes holds found whole is no_mac same =
    agree room nesting setting bytes found whole is (stated_answer holds) (authenticates_by authenticator decides) (rw (no_mac, same) refl)
    ∙ sym (instance room nesting setting decides bytes)

and_false : (b : Bool) → (b && false) ≡ false
and_false true = refl
and_false false = refl

pub other_mac_is_refused : OtherMacIsRefused
other_mac_is_refused room nesting setting bytes mac found whole is other =
    let differs : bytes_eq whole.auth mac ≡ false = false_from_ne_true _ (λ e. other (sym ((bytes_eq-Decides whole.auth mac).0 e))) in
    let refused : (is_mac_of found.alg && bytes_eq whole.auth mac) ≡ false = ap (λ (b : Bool). is_mac_of found.alg && b) differs ∙ and_false (is_mac_of found.alg) in
    decided_by room nesting setting bytes found whole is (stated_mac mac) ∙ ap (λ (b : Bool). judged b found whole) refused

pub decided_before : VerdictIsInstance → DecidedBefore
decided_before instance room nesting setting decides holds bytes verdict e =
    (ap (then_authenticated setting.aad holds) e, instance room nesting setting decides bytes ∙ ap (then_authenticated setting.aad (authenticates_by authenticator decides)) e)
