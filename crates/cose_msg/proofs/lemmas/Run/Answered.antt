-- The result of a run, by the rules that its answer goes by.
use Rattle.std.proofs.Common.{◌≡◌, ℕ, Bool, true, false, List, [], ◌++◌, length, Option, None, Some, Ok, Err, refl, sym, ap, subst, ◌∙◌, append_assoc, arith}
use Rattle.std.specs.Prelude.{Result, IfOk}
use Rattle.std.proofs.KnownBytes.{Consumes-nil}
use Rattle.std.proofs.lemmas.List.{append-nil}
use Rattle.cose_msg.specs.declared.verdict.Inspected.{Inspected}
use Rattle.cose_msg.specs.declared.verdict.Stop.{Stop}
use Rattle.cose_msg.specs.declared.verdict.Verdict.{Verdict}
use Rattle.cose_msg.specs.declared.verifier.Verifier.{Verifier}
use Rattle.cose_msg.specs.Answer.{Answer, decided}
use Rattle.cose_msg.specs.Change.{IntakeChange, SinkChange, intake_from, sink_from}
use Rattle.cose_msg.specs.Kept.{HasTaken, answer_kept, inspected_in, verdict_in}
use Rattle.cose_msg.specs.Laws.{AllAreFair, MessageIsPlacedInside, PlacedBy, VerifyingGoesLast, then_verified}
use Rattle.cose_msg.specs.Message.{Decides, Setting, comparing, inspecting, message, verifying}
use Rattle.cose_msg.specs.Reading.{Reading}
use Rattle.cose_msg.specs.Rules.{Rules}
use Rattle.cose_msg.specs.Run.{TakesMessage, Run, SaysCount, inspection}
use Rattle.cose_msg.specs.Shown.{shown_in, shown_of}
use Rattle.cose_msg.specs.Task.{Task, rules_of, to_inspect, to_verify}
use Rattle.cose_msg.specs.Reader.{Counts}
use Rattle.cose_msg.proofs.lemmas.Deciding.Decisions.{IsDone, reads_on_inspected, reads_on_with_verdict}
use Rattle.cose_msg.proofs.lemmas.Run.Runs.{Along, IsKept, at_start, concluded, counted_meaning, kept_by, without_more}

-- Readings of the same bytes that differ only in their answers.
pub record Alike (rules other : Rules) : Type 0 where
  pub settled : (bytes : List ℕ) → (message rules bytes).settled ≡ (message other bytes).settled
  pub so_far : (bytes : List ℕ) → (message rules bytes).so_far.payload ≡ (message other bytes).so_far.payload

pub alike : (rules : Rules) → Alike rules rules
alike rules = record { settled = λ bytes. refl; so_far = λ bytes. refl }

pub verifying_alike : VerifyingGoesLast → (H D : ℕ) (setting : Setting) (decides : Decides) → Alike (verifying H D setting decides) (comparing H D setting)
verifying_alike goes_last H D setting decides = record {
  settled = λ bytes. ap (λ (r : Reading). r.settled) (goes_last H D setting decides bytes);
  so_far = λ bytes. ap (λ (r : Reading). r.so_far.payload) (goes_last H D setting decides bytes);
}

-- An answer of all bytes that were taken.
pub answered : {A : Type 0} (answer_of : A → Answer) {H D : ℕ} {S : Type 0} {K : _} {task : Task} (rules : Rules) → Alike rules (rules_of H D task) → ((bytes : List ℕ) → PlacedBy (length bytes) (message rules bytes).answer) →
    {s B : List ℕ} {intake : IntakeChange} {sink : SinkChange} {v : Verifier H D S K} (d : TakesMessage task s B intake sink None v) (answer : A) →
    (message rules (s ++ d.taken)).answer ≡ answer_of answer → SaysCount (answer_of answer) v.taken → Run rules answer_of s B intake sink (Ok answer) d.taken
answered answer_of {H} {D} {S} {K} {task} rules same inside {s} {B} {intake} {sink} {v} d answer is count = record {
  bytes = d.bytes;
  none_after_end = λ n lt. same.settled _ ∙ d.none_after_end n lt;
  answer = record {
    answer = is;
    counted = subst (λ (n : ℕ). SaysCount (answer_of answer) n) d.counted count;
    placed = inside (s ++ d.taken);
    ends = record { unsettled = λ e. d.reads_on.1.unsettled (sym (same.settled (s ++ d.taken)) ∙ e); settled = λ e. d.reads_on.1.settled (sym (same.settled (s ++ d.taken)) ∙ e) };
  };
  payload = (d.part, same.so_far (s ++ d.taken) ∙ d.payload, d.grows);
}

-- A stop.
pub stopped : {A : Type 0} (answer_of : A → Answer) {H D : ℕ} {S : Type 0} {K : _} {task : Task} (rules : Rules) → Alike rules (rules_of H D task) →
    {s B : List ℕ} {intake : IntakeChange} {sink : SinkChange} {v : Verifier H D S K} (stop : Stop) (d : TakesMessage task s B intake sink (Some stop) v) →
    Run rules answer_of s B intake sink (Err stop) d.taken
stopped answer_of {H} {D} {S} {K} {task} rules same {s} {B} {intake} {sink} {v} stop d = record {
  bytes = d.bytes;
  none_after_end = λ n lt. same.settled _ ∙ d.none_after_end n lt;
  answer = same.settled (s ++ d.taken) ∙ d.reads_on;
  payload = (d.part, same.so_far (s ++ d.taken) ∙ d.payload, d.grows);
}

-- Nothing is taken where the message is settled already.
pub still : {H D : ℕ} {S : Type 0} {K : _} {task : Task} {s B : List ℕ} {v : Verifier H D S K} (come contents : Option (List ℕ)) (ended : Bool) → HasTaken task s B v →
    (message (rules_of H D task) (s ++ [])).so_far.payload ≡ B → shown_of v ≡ shown_in task (message (rules_of H D task) (s ++ [])) → (message (rules_of H D task) (s ++ [])).settled ≡ true →
    TakesMessage task s B (intake_from come come ended) (sink_from contents contents) None v
still {H} {D} {S} {K} {task} {s} {B} {v} come contents ended h so_far shown done =
    let reads : message (rules_of H D task) ((s ++ []) ++ []) ≡ message (rules_of H D task) (s ++ []) = without_more H D task (s ++ []) in
    let settled_now : (message (rules_of H D task) ((s ++ []) ++ [])).settled ≡ true = ap (λ (r : Reading). r.settled) reads ∙ done in
    let start : Along task s B come come ended contents contents 0 0 v = at_start come contents ended 0 h in
    concluded start (Consumes-nil come) (ap (λ (r : Reading). r.so_far.payload) reads ∙ so_far ∙ sym (append-nil B)) (shown ∙ ap (shown_in task) (sym reads)) (λ e. let clash : true ≡ false = sym settled_now ∙ e in absurd cc) (λ e lt. absurd (omega arith))

-- ---- a verdict

-- What is decided last on the bytes so far is the verdict on them.
pub verdict_so_far : VerifyingGoesLast → (H D : ℕ) (setting : Setting) (decides : Decides) (bytes : List ℕ) (verdict : Verdict) → then_verified setting.aad decides (message (comparing H D setting) (bytes ++ [])).answer ≡ decided verdict →
    (message (verifying H D setting decides) bytes).answer ≡ decided verdict
verdict_so_far goes_last H D setting decides bytes verdict is =
    ap (λ (r : Reading). r.answer) (goes_last H D setting decides bytes) ∙ ap (λ (r : Reading). then_verified setting.aad decides r.answer) (sym (without_more H D (to_verify setting) bytes)) ∙ is

module _ {H D : ℕ} {S : Type 0} {K : _} {setting : Setting} {s B : List ℕ} {intake : IntakeChange} {sink : SinkChange} {v : Verifier H D S K} where
  pub verdict_run : VerifyingGoesLast → MessageIsPlacedInside → AllAreFair → (decides : Decides) (verdict : Verdict) (d : TakesMessage (to_verify setting) s B intake sink None v) →
      then_verified setting.aad decides (message (comparing H D setting) ((s ++ d.taken) ++ [])).answer ≡ decided verdict → Counts verdict v.taken →
      Run (verifying H D setting decides) decided s B intake sink (Ok verdict) d.taken
  verdict_run goes_last inside fair decides verdict d is count =
      let bytes : List ℕ = s ++ d.taken in
      let answer : (message (verifying H D setting decides) bytes).answer ≡ decided verdict = verdict_so_far goes_last H D setting decides bytes verdict is in
      answered decided (verifying H D setting decides) (verifying_alike goes_last H D setting decides) (inside (verifying H D setting decides) (fair.verifying H D setting decides)) d verdict answer count

  pub kept_verdict_run : VerifyingGoesLast → MessageIsPlacedInside → AllAreFair → (decides : Decides) (d : TakesMessage (to_verify setting) s B intake sink None v) (result : Result Verdict Stop) → answer_kept v.stopped (verdict_in v.reader.phase) ≡ Some result →
      Run (verifying H D setting decides) decided s B intake sink result d.taken
  kept_verdict_run goes_last inside fair decides d result kept =
      let going : answer_kept false (verdict_in v.reader.phase) ≡ Some result = rw d.reads_on.0.goes_on at kept in
      let k : IsKept (verdict_in v.reader.phase) result = kept_by (verdict_in v.reader.phase) result going in
      let st = reads_on_with_verdict k.answer (counted_meaning d.reads_on.0) k.kept_is in
      let run : Run (verifying H D setting decides) decided s B intake sink (Ok k.answer) d.taken = verdict_run goes_last inside fair decides k.answer d (ap (then_verified setting.aad decides) st.0) st.2 in
      subst (λ (r : Result Verdict Stop). Run (verifying H D setting decides) decided s B intake sink r d.taken) (sym k.result_is) run

-- ---- an inspection

module _ (setting : Setting) {H D : ℕ} {S : Type 0} {K : _} {s B : List ℕ} {intake : IntakeChange} {sink : SinkChange} {v : Verifier H D S K} where
  pub inspection_run : MessageIsPlacedInside → AllAreFair → (shown : Inspected) (d : TakesMessage (to_inspect setting) s B intake sink None v) →
      (message (inspecting H D setting) ((s ++ d.taken) ++ [])).answer ≡ inspection shown → SaysCount (inspection shown) v.taken →
      Run (inspecting H D setting) inspection s B intake sink (Ok shown) d.taken
  inspection_run inside fair shown d is count =
      let bytes : List ℕ = s ++ d.taken in
      let answer : (message (inspecting H D setting) bytes).answer ≡ inspection shown = ap (λ (r : Reading). r.answer) (sym (without_more H D (to_inspect setting) bytes)) ∙ is in
      answered inspection (inspecting H D setting) (alike (inspecting H D setting)) (inside (inspecting H D setting) (fair.inspecting H D setting)) d shown answer count

  pub kept_inspection_run : MessageIsPlacedInside → AllAreFair → (d : TakesMessage (to_inspect setting) s B intake sink None v) (result : Result Inspected Stop) → answer_kept v.stopped (inspected_in v.reader.phase) ≡ Some result →
      Run (inspecting H D setting) inspection s B intake sink result d.taken
  kept_inspection_run inside fair d result kept =
      let going : answer_kept false (inspected_in v.reader.phase) ≡ Some result = rw d.reads_on.0.goes_on at kept in
      let k : IsKept (inspected_in v.reader.phase) result = kept_by (inspected_in v.reader.phase) result going in
      let st = reads_on_inspected k.answer (counted_meaning d.reads_on.0) k.kept_is in
      let run : Run (inspecting H D setting) inspection s B intake sink (Ok k.answer) d.taken = inspection_run inside fair k.answer d st.0 st.2 in
      subst (λ (r : Result Inspected Stop). Run (inspecting H D setting) inspection s B intake sink r d.taken) (sym k.result_is) run

-- An answer that is kept is there without a further byte.
pub kept_verdict_settles : {H D : ℕ} {S : Type 0} {K : _} {setting : Setting} {s B : List ℕ} {v : Verifier H D S K} (result : Result Verdict Stop) → HasTaken (to_verify setting) s B v → answer_kept v.stopped (verdict_in v.reader.phase) ≡ Some result → IsDone (message (rules_of H D (to_verify setting)) (s ++ []))
kept_verdict_settles {H} {D} {S} {K} {setting} {s} {B} {v} result h kept =
    let going : answer_kept false (verdict_in v.reader.phase) ≡ Some result = rw h.goes_on at kept in
    let k : IsKept (verdict_in v.reader.phase) result = kept_by (verdict_in v.reader.phase) result going in
    (reads_on_with_verdict k.answer (counted_meaning h) k.kept_is).1

pub kept_inspection_settles : (setting : Setting) {H D : ℕ} {S : Type 0} {K : _} {s B : List ℕ} {v : Verifier H D S K} (result : Result Inspected Stop) → HasTaken (to_inspect setting) s B v → answer_kept v.stopped (inspected_in v.reader.phase) ≡ Some result → IsDone (message (rules_of H D (to_inspect setting)) (s ++ []))
kept_inspection_settles setting {H} {D} {S} {K} {s} {B} {v} result h kept =
    let going : answer_kept false (inspected_in v.reader.phase) ≡ Some result = rw h.goes_on at kept in
    let k : IsKept (inspected_in v.reader.phase) result = kept_by (inspected_in v.reader.phase) result going in
    (reads_on_inspected k.answer (counted_meaning h) k.kept_is).1

-- ---- all bytes of an intake whose bytes to come are known to the contract

abbrev pub StaysSettled : Rules → Type 0
StaysSettled rules = (bytes more : List ℕ) → (message rules bytes).settled ≡ true → message rules (bytes ++ more) ≡ message rules bytes

pub all_settled : (rules : Rules) → StaysSettled rules → (bytes rest : List ℕ) (said : Answer) (settled : Bool) → (message rules bytes).settled ≡ settled → (message rules bytes).answer ≡ said → ((message rules bytes).settled ≡ false → rest ≡ []) →
    (message rules (bytes ++ rest)).answer ≡ said
all_settled rules stays bytes rest said true e answer none = ap (λ (r : Reading). r.answer) (stays bytes rest e) ∙ answer
all_settled rules stays bytes rest said false e answer none =
    let empty : bytes ++ rest ≡ bytes = ap (λ (t : List ℕ). bytes ++ t) (none e) ∙ append-nil bytes in
    ap (λ (t : List ℕ). (message rules t).answer) empty ∙ answer

of_all : {A : Type 0} (answer_of : A → Answer) (rules : Rules) → StaysSettled rules → {s B : List ℕ} {come : Option (List ℕ)} {ended : Bool} {sink : SinkChange} {answer : A} (come_after : Option (List ℕ)) (taken bytes : List ℕ) → Run rules answer_of s B (intake_from come come_after ended) sink (Ok answer) taken → come ≡ Some bytes →
    (message rules (s ++ bytes)).answer ≡ answer_of answer
of_all answer_of rules stays {s} {B} {come} {ended} {sink} {answer} None taken bytes r e = let none = rw e at r.bytes in absurd none
of_all answer_of rules stays {s} {B} {come} {ended} {sink} {answer} (Some rest) taken bytes r e =
    let whole : bytes ≡ taken ++ rest = rw e at r.bytes in
    let regrouped : s ++ bytes ≡ (s ++ taken) ++ rest = ap (λ (t : List ℕ). s ++ t) whole ∙ sym (append_assoc s taken rest) in
    ap (λ (t : List ℕ). (message rules t).answer) regrouped ∙ all_settled rules stays (s ++ taken) rest (answer_of answer) (message rules (s ++ taken)).settled refl r.answer.answer (λ unsettled_yet. (r.answer.ends.unsettled unsettled_yet).1)

pub of_any : {A : Type 0} (answer_of : A → Answer) (rules : Rules) → StaysSettled rules → {s B : List ℕ} {come : Option (List ℕ)} {ended : Bool} {sink : SinkChange} (result : Result A Stop) (come_after : Option (List ℕ)) (taken bytes : List ℕ) → Run rules answer_of s B (intake_from come come_after ended) sink result taken → come ≡ Some bytes →
    IfOk result (λ answer. (message rules (s ++ bytes)).answer ≡ answer_of answer)
of_any answer_of rules stays (Ok answer) come_after taken bytes r e = of_all answer_of rules stays come_after taken bytes r e
of_any answer_of rules stays (Err stop) come_after taken bytes r e = tt
