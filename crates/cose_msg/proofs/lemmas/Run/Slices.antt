-- The verdict on bytes in memory is that of the first ones that settle the message.
use Rattle.std.proofs.Common.{◌≡◌, ℕ, ◌+◌, Bool, true, false, List, [], ◌++◌, take, drop, refl, sym, ap, subst, ◌∙◌, arith}
use Rattle.std.proofs.lemmas.List.{take-append-drop}
use Rattle.std.proofs.Math.Seq.{drop-length, take-length}
use Rattle.cose_msg.specs.declared.slice.Verified.{Verified}
use Rattle.cose_msg.specs.declared.slice.Verified.TheVariants as said
use Rattle.cose_msg.specs.declared.verdict.Verdict.{Verdict}
use Rattle.cose_msg.specs.declared.verifier.Verifier.{Verifier}
use Rattle.cose_msg.specs.Answer.{Answer, decided}
use Rattle.cose_msg.specs.Feed.{Uses}
use Rattle.cose_msg.specs.Kept.{HasTaken}
use Rattle.cose_msg.specs.Laws.{MessageStays, VerifyingGoesLast, then_verified}
use Rattle.cose_msg.specs.Message.{Decides, Setting, comparing, message, verdict_of, verifying}
use Rattle.cose_msg.specs.Reading.{Reading}
use Rattle.cose_msg.specs.Rules.{Rules}
use Rattle.cose_msg.specs.Slice.{IfPayload}
use Rattle.cose_msg.specs.Task.{Task, rules_of, to_verify}
use Rattle.cose_msg.proofs.lemmas.Run.Answered.{all_settled, verdict_so_far, verifying_alike}
use Rattle.cose_msg.proofs.lemmas.Run.Runs.{so_far_before}

-- Bytes of which so many were used are read as those: these settle the message, or are all.
reads_by : MessageStays → (rules : Rules) (bytes : List ℕ) (used : ℕ) → Uses rules [] bytes used → (settled : Bool) → (message rules (take used bytes)).settled ≡ settled →
    message rules bytes ≡ message rules (take used bytes)
reads_by stays rules bytes used uses true e = ap (λ (t : List ℕ). message rules t) (sym (take-append-drop used bytes)) ∙ stays rules (take used bytes) (drop used bytes) e
reads_by stays rules bytes used uses false e = ap (λ (t : List ℕ). message rules t) (sym (take-length bytes) ∙ ap (λ (n : ℕ). take n bytes) (sym (uses.all e)))

pub reads_all : MessageStays → (rules : Rules) (bytes : List ℕ) (used : ℕ) → Uses rules [] bytes used → message rules bytes ≡ message rules (take used bytes)
reads_all stays rules bytes used uses = reads_by stays rules bytes used uses (message rules (take used bytes)).settled refl

pub verdict_of_used : MessageStays → VerifyingGoesLast → (H D : ℕ) (setting : Setting) (decides : Decides) (bytes : List ℕ) (used : ℕ) (said : Answer) →
    Uses (rules_of H D (to_verify setting)) [] bytes used → verdict_of H D setting decides (take used bytes) ≡ said →
    verdict_of H D setting decides bytes ≡ said
verdict_of_used stays goes_last H D setting decides bytes used said uses e =
    let none_left : (message (verifying H D setting decides) (take used bytes)).settled ≡ false → drop used bytes ≡ [] =
    λ unsettled. ap (λ (n : ℕ). drop n bytes) (uses.all (sym ((verifying_alike goes_last H D setting decides).settled (take used bytes)) ∙ unsettled)) ∙ drop-length bytes in
    ap (λ (t : List ℕ). verdict_of H D setting decides t) (sym (take-append-drop used bytes))
    ∙ all_settled (verifying H D setting decides) (stays (verifying H D setting decides)) (take used bytes) (drop used bytes) said _ refl e none_left

-- What was fed of the bytes settles the message, or is all of them: so the verdict so far is that of all bytes.
pub verdict_of_fed : MessageStays → VerifyingGoesLast → (H D : ℕ) (setting : Setting) (decides : Decides) (bytes : List ℕ) (used : ℕ) (verdict : Verdict) →
    Uses (rules_of H D (to_verify setting)) [] bytes used →
    then_verified setting.aad decides (message (comparing H D setting) (take used bytes ++ [])).answer ≡ decided verdict →
    verdict_of H D setting decides bytes ≡ decided verdict
verdict_of_fed stays goes_last H D setting decides bytes used verdict uses is =
    verdict_of_used stays goes_last H D setting decides bytes used (decided verdict) uses
    (verdict_so_far goes_last H D setting decides (take used bytes) verdict is)

-- The payload's bytes among those that were fed are the payload of all bytes.
pub payload_of_fed : MessageStays → (H D : ℕ) (task : Task) (bytes payload : List ℕ) (used : ℕ) → Uses (rules_of H D task) [] bytes used →
    (message (rules_of H D task) (take used bytes ++ [])).so_far.payload ≡ payload → payload ≡ (message (rules_of H D task) bytes).so_far.payload
payload_of_fed stays H D task bytes payload used uses so_far =
    sym (so_far_before H D task (take used bytes) payload so_far) ∙ ap (λ (r : Reading). r.so_far.payload) (sym (reads_all stays (rules_of H D task) bytes used uses))

pub payload_is : (result : Verified) (one other : List ℕ) → one ≡ other → IfPayload result (λ payload. payload ≡ one) → IfPayload result (λ payload. payload ≡ other)
payload_is (said.Authentic kind alg payload) one other e h = h ∙ e
payload_is (said.Refused refusal) one other e h = tt

-- A verifier that isn't inspecting verifies.
pub begun : {H D : ℕ} {S : Type 0} {K : _} {setting : Setting} {inspects : Bool} {v : Verifier H D S K} → inspects ≡ false → HasTaken (record { setting = setting; inspects = inspects }) [] [] v → HasTaken (to_verify setting) [] [] v
begun {setting = setting} {v = v} e h = subst (λ (inspects : Bool). HasTaken (record { setting = setting; inspects = inspects }) [] [] v) e h

-- A count that was nothing before is that of the bytes that were fed.
pub counted_fed : (before after used : ℕ) → before ≡ 0 → after ≡ before + used → after ≡ used
counted_fed before after used none more = omega arith
