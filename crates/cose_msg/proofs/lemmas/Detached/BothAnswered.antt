-- The result of a run over a message and its detached payload.
use Rattle.std.proofs.Common.{◌≡◌, ℕ, ◌<◌, Bool, true, false, List, [], ◌++◌, Option, None, Some, Ok, Err, refl, sym, ap, subst, ◌∙◌, append_assoc, arith, inl, inr}
use Rattle.std.specs.Prelude.{Result, IfOk}
use Rattle.std.proofs.lemmas.Bool.{cases_lt}
use Rattle.std.proofs.lemmas.List.{append-nil}
use Rattle.cose_msg.specs.declared.verdict.Stop.{Stop}
use Rattle.cose_msg.specs.declared.verdict.Verdict.{Verdict}
use Rattle.cose_msg.specs.declared.verifier.Verifier.{Verifier}
use Rattle.cose_msg.specs.Answer.{decided}
use Rattle.cose_msg.specs.Change.{IntakeChange, SinkChange, intake_from}
use Rattle.cose_msg.specs.Detached.{DetachedRun, TakesDetached}
use Rattle.cose_msg.specs.Kept.{HasTaken, answer_kept, verdict_in}
use Rattle.cose_msg.specs.Laws.{AllAreFair, MessageIsPlacedInside, MessageStays, PayloadStays, VerifyingGoesLast, receiving, then_verified}
use Rattle.cose_msg.specs.Message.{Decides, Setting, comparing, given, message, verdict_of, verifying}
use Rattle.cose_msg.specs.Reading.{Reading}
use Rattle.cose_msg.specs.Rules.{Rules}
use Rattle.cose_msg.specs.Source.{Source, is_detached_from, source_with, with_came}
use Rattle.cose_msg.specs.Task.{Task, rules_of, to_verify}
use Rattle.cose_msg.specs.Reader.{Counts}
use Rattle.cose_msg.specs.Verifier.{is_detached}
use Rattle.cose_msg.proofs.lemmas.Run.Answered.{Alike, all_settled, verdict_so_far, verifying_alike}
use Rattle.cose_msg.proofs.lemmas.Detached.BothTaken.{detached_whatever}
use Rattle.cose_msg.proofs.lemmas.Detached.PayloadRuns.{stated_given}
use Rattle.cose_msg.proofs.lemmas.Deciding.Decisions.{IsDone, reads_on_with_verdict}
use Rattle.cose_msg.proofs.lemmas.Run.Runs.{IsKept, counted_meaning, kept_by, without_more}
use Rattle.cose_msg.proofs.lemmas.Feeding.Statuses.{open_as}

-- ---- a verifier for a detached payload

by_length : (detached_length : Option ℕ) (source : Source) → source_with [] detached_length ≡ with_came [] source → is_detached_from (source_with [] detached_length) ≡ true → is_detached_from source ≡ true
by_length detached_length source e is = sym (detached_whatever [] source) ∙ sym (ap is_detached_from e) ∙ is

pub is_of_detached : {H D : ℕ} {S : Type 0} {K : _} {task : Task} {s B : List ℕ} {v : Verifier H D S K} → HasTaken task s B v → is_detached v ≡ true → is_detached_from task.setting.source ≡ true
is_of_detached {task = task} {v = v} h is = by_length v.detached_length task.setting.source (ap (λ (t : Task). t.setting.source) h.made_for) is

-- Where a verdict is there, no byte of the payload is wanted.
pub done_wants_none : (H D : ℕ) (task : Task) (bytes : List ℕ) → IsDone (message (rules_of H D task) (bytes ++ [])) → (message (rules_of H D task) bytes).payload_wanted ≡ 0
done_wants_none H D task bytes done = ap (λ (r : Reading). r.payload_wanted) (sym (without_more H D task bytes)) ∙ done.1

-- ---- the result

module _ {H D : ℕ} {S : Type 0} {K : _} {setting : Setting} {s B : List ℕ} {intake of_payload : IntakeChange} {sink : SinkChange} {v : Verifier H D S K} where
  -- A verdict on both lists.
  pub verdict_on_both : VerifyingGoesLast → MessageIsPlacedInside → AllAreFair → (decides : Decides) (verdict : Verdict) (t : TakesDetached (to_verify setting) s B intake of_payload sink None v) →
      then_verified setting.aad decides (message (comparing H D (given (B ++ t.came) setting)) ((s ++ t.taken) ++ [])).answer ≡ decided verdict → Counts verdict v.taken →
      DetachedRun (verifying H D (given (B ++ t.came) setting) decides) s B intake of_payload sink (Ok verdict) t.taken t.came
  verdict_on_both goes_last inside fair decides verdict t is count =
      let whole : Setting = given (B ++ t.came) setting in
      let rules : Rules = verifying H D whole decides in
      let same : Alike rules (comparing H D whole) = verifying_alike goes_last H D whole decides in
      let settled_same : (message rules (s ++ t.taken)).settled ≡ (message (comparing H D whole) (s ++ t.taken)).settled = same.settled (s ++ t.taken) in
      let wanted_same : (message rules (s ++ t.taken)).payload_wanted ≡ (message (comparing H D whole) (s ++ t.taken)).payload_wanted = ap (λ (r : Reading). r.payload_wanted) (goes_last H D whole decides (s ++ t.taken)) in
      record {
        bytes = t.bytes;
        none_after_end = λ n lt. same.settled _ ∙ t.none_after_end n lt;
        within = omega (arith, t.within, stated_given (to_verify setting) (B ++ t.came));
        answer = (
          record {
            answer = verdict_so_far goes_last H D whole decides (s ++ t.taken) verdict is;
            counted = subst (λ (n : ℕ). Counts verdict n) t.counted count;
            placed = inside rules (fair.verifying H D whole decides) (s ++ t.taken);
            ends = record { unsettled = λ e. t.reads_on.1.unsettled (sym settled_same ∙ e); settled = λ e. t.reads_on.1.settled (sym settled_same ∙ e) };
          },
          record { missing = λ some. t.reads_on.2.missing (omega (arith, some, wanted_same)); whole = λ none. t.reads_on.2.whole (sym wanted_same ∙ none) },
        );
        payload = same.so_far (s ++ t.taken) ∙ t.payload;
        grows = t.grows;
      }

  -- A verdict that was kept before.
  pub kept_on_both : VerifyingGoesLast → MessageIsPlacedInside → AllAreFair → (decides : Decides) (t : TakesDetached (to_verify setting) s B intake of_payload sink None v) (result : Result Verdict Stop) →
      answer_kept v.stopped (verdict_in v.reader.phase) ≡ Some result → DetachedRun (verifying H D (given (B ++ t.came) setting) decides) s B intake of_payload sink result t.taken t.came
  kept_on_both goes_last inside fair decides t result kept =
      let going : answer_kept false (verdict_in v.reader.phase) ≡ Some result = rw t.reads_on.0.goes_on at kept in
      let k : IsKept (verdict_in v.reader.phase) result = kept_by (verdict_in v.reader.phase) result going in
      let st = reads_on_with_verdict k.answer (counted_meaning t.reads_on.0) k.kept_is in
      let run : DetachedRun (verifying H D (given (B ++ t.came) setting) decides) s B intake of_payload sink (Ok k.answer) t.taken t.came = verdict_on_both goes_last inside fair decides k.answer t (ap (then_verified setting.aad decides) st.0) st.2 in
      subst (λ (r : Result Verdict Stop). DetachedRun (verifying H D (given (B ++ t.came) setting) decides) s B intake of_payload sink r t.taken t.came) (sym k.result_is) run

  -- A stop.
  pub stopped_on_both : VerifyingGoesLast → (decides : Decides) (stop : Stop) (t : TakesDetached (to_verify setting) s B intake of_payload sink (Some stop) v) →
      DetachedRun (verifying H D (given (B ++ t.came) setting) decides) s B intake of_payload sink (Err stop) t.taken t.came
  stopped_on_both goes_last decides stop t =
      let whole : Setting = given (B ++ t.came) setting in
      let same : Alike (verifying H D whole decides) (comparing H D whole) = verifying_alike goes_last H D whole decides in
      let reads = goes_last H D whole decides (s ++ t.taken) in
      record {
        bytes = t.bytes;
        none_after_end = λ n lt. same.settled _ ∙ t.none_after_end n lt;
        within = omega (arith, t.within, stated_given (to_verify setting) (B ++ t.came));
        answer = open_as (message (verifying H D whole decides) (s ++ t.taken)) (message (comparing H D whole) (s ++ t.taken)) (ap (λ (r : Reading). r.payload_wanted) reads) (ap (λ (r : Reading). r.settled) reads) ∙ t.reads_on;
        payload = same.so_far (s ++ t.taken) ∙ t.payload;
        grows = t.grows;
      }

-- ---- all bytes of two intakes whose bytes to come are known to the contract

-- What comes then changes nothing, unless bytes of the payload are wanted.
comes_then : PayloadStays → (rules : Rules) (came left bytes : List ℕ) → (0 < (message (receiving came rules) bytes).payload_wanted → left ≡ []) → message (receiving (came ++ left) rules) bytes ≡ message (receiving came rules) bytes
comes_then stays rules came left bytes none = elim (cases_lt 0 (message (receiving came rules) bytes).payload_wanted) [
  | inl some ↦ ap (λ (t : List ℕ). message (receiving t rules) bytes) (ap (λ (t : List ℕ). came ++ t) (none some) ∙ append-nil came)
  | inr zero ↦ stays rules came left bytes (omega (arith, zero))
]

all_of_both : MessageStays → PayloadStays → (rules : Rules) (s B taken came rest left : List ℕ) (verdict : Verdict) → (message (receiving (B ++ came) rules) (s ++ taken)).answer ≡ decided verdict
    → ((message (receiving (B ++ came) rules) (s ++ taken)).settled ≡ false → rest ≡ []) → (0 < (message (receiving (B ++ came) rules) (s ++ taken)).payload_wanted → left ≡ [])
    → (message (receiving (B ++ (came ++ left)) rules) (s ++ (taken ++ rest))).answer ≡ decided verdict
all_of_both stays payload_stays rules s B taken came rest left verdict answer no_rest none_left =
    let regrouped : receiving (B ++ (came ++ left)) rules ≡ receiving ((B ++ came) ++ left) rules = ap (λ (t : List ℕ). receiving t rules) (sym (append_assoc B came left)) in
    let same : message (receiving (B ++ (came ++ left)) rules) (s ++ taken) ≡ message (receiving (B ++ came) rules) (s ++ taken) = ap (λ (r : Rules). message r (s ++ taken)) regrouped ∙ comes_then payload_stays rules (B ++ came) left (s ++ taken) none_left in
    let settled_same : (message (receiving (B ++ (came ++ left)) rules) (s ++ taken)).settled ≡ (message (receiving (B ++ came) rules) (s ++ taken)).settled = ap (λ (r : Reading). r.settled) same in
    let bytes : s ++ (taken ++ rest) ≡ (s ++ taken) ++ rest = sym (append_assoc s taken rest) in
    ap (λ (t : List ℕ). (message (receiving (B ++ (came ++ left)) rules) t).answer) bytes
    ∙ all_settled (receiving (B ++ (came ++ left)) rules) (stays (receiving (B ++ (came ++ left)) rules)) (s ++ taken) rest (decided verdict) (message (receiving (B ++ (came ++ left)) rules) (s ++ taken)).settled refl (ap (λ (r : Reading). r.answer) same ∙ answer) (λ e. no_rest (sym settled_same ∙ e))

of_both_known : MessageStays → PayloadStays → (H D : ℕ) (setting : Setting) (decides : Decides) {s B : List ℕ} {come beside : Option (List ℕ)} {ended beside_ended : Bool} {sink : SinkChange} {verdict : Verdict} (come_after beside_after : Option (List ℕ)) (taken came bytes more : List ℕ)
    → DetachedRun (verifying H D (given (B ++ came) setting) decides) s B (intake_from come come_after ended) (intake_from beside beside_after beside_ended) sink (Ok verdict) taken came → come ≡ Some bytes → beside ≡ Some more
    → verdict_of H D (given (B ++ more) setting) decides (s ++ bytes) ≡ decided verdict
of_both_known stays payload_stays H D setting decides None beside_after taken came bytes more r e f = let none = rw e at r.bytes.0 in absurd none
of_both_known stays payload_stays H D setting decides (Some rest) None taken came bytes more r e f = let none = rw f at r.bytes.1 in absurd none
of_both_known stays payload_stays H D setting decides {s} {B} (Some rest) (Some left) taken came bytes more r e f =
    let whole : bytes ≡ taken ++ rest = rw e at r.bytes.0 in
    let all : more ≡ came ++ left = rw f at r.bytes.1 in
    ap (λ (t : List ℕ). verdict_of H D (given (B ++ t) setting) decides (s ++ bytes)) all ∙ ap (λ (t : List ℕ). verdict_of H D (given (B ++ (came ++ left)) setting) decides (s ++ t)) whole
    ∙ all_of_both stays payload_stays (verifying H D setting decides) s B taken came rest left _ r.answer.0.answer (λ open_yet. (r.answer.0.ends.unsettled open_yet).1) (λ some. (r.answer.1.missing some).1)

pub of_both : MessageStays → PayloadStays → (H D : ℕ) (setting : Setting) (decides : Decides) {s B : List ℕ} {come beside : Option (List ℕ)} {ended beside_ended : Bool} {sink : SinkChange} (result : Result Verdict Stop) (come_after beside_after : Option (List ℕ)) (taken came bytes more : List ℕ)
    → DetachedRun (verifying H D (given (B ++ came) setting) decides) s B (intake_from come come_after ended) (intake_from beside beside_after beside_ended) sink result taken came → come ≡ Some bytes → beside ≡ Some more
    → IfOk result (λ verdict. verdict_of H D (given (B ++ more) setting) decides (s ++ bytes) ≡ decided verdict)
of_both stays payload_stays H D setting decides (Ok verdict) come_after beside_after taken came bytes more r e f = of_both_known stays payload_stays H D setting decides come_after beside_after taken came bytes more r e f
of_both stays payload_stays H D setting decides (Err stop) come_after beside_after taken came bytes more r e f = tt
