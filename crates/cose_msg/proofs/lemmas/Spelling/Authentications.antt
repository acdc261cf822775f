-- A message is authentic exactly where its authentication holds.
use Rattle.std.proofs.Common.{◌≡◌, ℕ, Bool, true, false, cond, List, length, take, Option, Some, None, refl, sym, ap, subst, ◌∙◌, arith}
use Rattle.std.specs.Str.{bytes_eq}
use Rattle.cose_head.specs.Algorithm.{is_mac_of}
use Rattle.cose_head.specs.declared.algorithm.Alg.{Alg}
use Rattle.cose_head.specs.declared.kind.Kind.{Kind}
use Rattle.cose_msg.specs.declared.verdict.Verdict.TheVariants.{Authentic}
use Rattle.cose_msg.specs.Answer.{Chosen, Whole, complete, decided}
use Rattle.cose_msg.specs.Authentic.{authentication_holds, IsAuthentic}
use Rattle.cose_msg.specs.Grammar.{IsMessage}
use Rattle.cose_msg.specs.GrammarLaws.{AuthenticIsMessage, MessageIsAuthentic}
use Rattle.cose_msg.specs.Message.{Decides, compared, digest_signed, judged, tag_of, uncompared, verdict_of, verified, verifying}
use Rattle.cose_msg.specs.Rules.{Rules}
use Rattle.cose_msg.proofs.lemmas.Accepted.FoundMessages.{message_found, finished, begins_read}
use Rattle.cose_msg.proofs.lemmas.Spelling.Spelled.{SpellingLaws}

-- ---- comparing, and deciding where nothing was compared

either_judged : (mac holds : Bool) (aad : List ℕ) (decides : Decides) (found : Chosen) (whole : Whole) →
    verified aad decides (Some found) (cond mac (judged holds found whole) (complete whole)) ≡ judged (cond mac holds (decides found.key (digest_signed aad found whole) whole.auth)) found whole
either_judged true true aad decides found whole = refl
either_judged true false aad decides found whole = refl
either_judged false holds aad decides found whole = refl

-- Its verdict is whether the authentication holds.
judged_by : (aad : List ℕ) (decides : Decides) (found : Chosen) (whole : Whole) → verified aad decides (Some found) (compared aad (Some found) whole) ≡ judged (authentication_holds aad decides found whole) found whole
judged_by aad decides found whole = either_judged (is_mac_of found.alg) (bytes_eq whole.auth (tag_of aad found whole)) aad decides found whole

-- ---- a message whose authentication holds is authentic

same_verdict : (found : Chosen) (whole : Whole) (kind : Kind) (alg : Alg) (payload taken : ℕ) → kind ≡ whole.headers.kind → alg ≡ found.alg → payload ≡ length whole.payload → taken ≡ whole.taken → judged true found whole ≡ decided (Authentic kind alg payload taken)
same_verdict found whole kind alg payload taken one two three four = rw (one, two, three, four) refl

pub message_is_authentic : SpellingLaws → MessageIsAuthentic
message_is_authentic laws room nesting setting decides bytes kind alg payload taken a =
    let rules : Rules = verifying room nesting setting decides in
    let is : IsMessage rules (take a.whole.taken bytes) a.whole =
    finished (uncompared room nesting setting) rules.finish (take a.whole.taken bytes) a.whole (subst (λ (n : ℕ). IsMessage (uncompared room nesting setting) (take n bytes) a.whole) a.taken_is a.message) in
    begins_read laws rules bytes a.whole (record { within = omega (arith, a.taken_is, a.within); message = is })
    ∙ (ap (λ (chosen : Option Chosen). verified setting.aad decides chosen (compared setting.aad chosen a.whole)) a.chosen
    ∙ (judged_by setting.aad decides a.found a.whole
    ∙ (ap (λ (holds : Bool). judged holds a.found a.whole) a.holds
    ∙ same_verdict a.found a.whole kind alg payload taken a.kind_is a.alg_is a.payload_is a.taken_is)))

-- ---- and a message that is authentic is one

record IsJudged (holds : Bool) (found : Chosen) (whole : Whole) (kind : Kind) (alg : Alg) (payload taken : ℕ) : Type 0 where
  is : holds ≡ true
  kind_is : kind ≡ whole.headers.kind
  alg_is : alg ≡ found.alg
  payload_is : payload ≡ length whole.payload
  taken_is : taken ≡ whole.taken

judged_so : (holds : Bool) (found : Chosen) (whole : Whole) (kind : Kind) (alg : Alg) (payload taken : ℕ) → judged holds found whole ≡ decided (Authentic kind alg payload taken) → IsJudged holds found whole kind alg payload taken
judged_so true found whole kind alg payload taken e = record { is = refl; kind_is = cc; alg_is = cc; payload_is = cc; taken_is = cc }
judged_so false found whole kind alg payload taken e = absurd cc

record AuthenticationFound (aad : List ℕ) (decides : Decides) (chosen : Option Chosen) (whole : Whole) (kind : Kind) (alg : Alg) (payload taken : ℕ) : Type 0 where
  found : Chosen
  chosen_is : chosen ≡ Some found
  holds : IsJudged (authentication_holds aad decides found whole) found whole kind alg payload taken

authentication_found : (aad : List ℕ) (decides : Decides) (chosen : Option Chosen) (whole : Whole) (kind : Kind) (alg : Alg) (payload taken : ℕ)
    → verified aad decides chosen (compared aad chosen whole) ≡ decided (Authentic kind alg payload taken) → AuthenticationFound aad decides chosen whole kind alg payload taken
authentication_found aad decides (Some found) whole kind alg payload taken e = record {
  found = found;
  chosen_is = refl;
  holds = judged_so (authentication_holds aad decides found whole) found whole kind alg payload taken (sym (judged_by aad decides found whole) ∙ e);
}
authentication_found aad decides None whole kind alg payload taken e = absurd cc

pub authentic_is_message : SpellingLaws → AuthenticIsMessage
authentic_is_message laws room nesting setting decides bytes kind alg payload taken = (there, message_is_authentic laws room nesting setting decides bytes kind alg payload taken)
  where
    rules : Rules
    rules = verifying room nesting setting decides

    there : verdict_of room nesting setting decides bytes ≡ decided (Authentic kind alg payload taken) → IsAuthentic room nesting setting decides bytes kind alg payload taken
    there e =
        let m = message_found laws rules bytes (decided (Authentic kind alg payload taken)) (λ reason place never. cc) e in
        let a = authentication_found setting.aad decides m.whole.chosen m.whole kind alg payload taken m.comes in
        let is : IsMessage (uncompared room nesting setting) (take m.whole.taken bytes) m.whole = finished rules complete (take m.whole.taken bytes) m.whole m.begins.message in
        record {
          whole = m.whole;
          found = a.found;
          within = omega (arith, a.holds.taken_is, m.begins.within);
          message = subst (λ (n : ℕ). IsMessage (uncompared room nesting setting) (take n bytes) m.whole) (sym a.holds.taken_is) is;
          chosen = a.chosen_is;
          holds = a.holds.is;
          kind_is = a.holds.kind_is;
          alg_is = a.holds.alg_is;
          payload_is = a.holds.payload_is;
          taken_is = a.holds.taken_is;
        }
