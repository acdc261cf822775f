-- The verifier that is in a block.
use Rattle.std.proofs.Common.{◌≡◌, ℕ, ◌+◌, Bool, true, false, List, [], ◌++◌, Some, refl, sym, ap, ◌∙◌, subst, if◌then◌else◌, append-nil, arith}
use Rattle.std.proofs.lemmas.Grind.{common_steps}
use Rattle.cose_head.specs.declared.reason.Reason.TheVariants.{Truncated}
use Rattle.cose_map.specs.declared.keys.KeyMeaning.{Ghosts}
use Rattle.cose_msg.specs.declared.status.Fed.{Fed}
use Rattle.cose_msg.specs.declared.status.Status.{Status}
use Rattle.cose_msg.specs.declared.status.Status.TheVariants as statuses
use Rattle.cose_msg.specs.declared.verdict.Verdict.TheVariants.{Authentic, Refused}
use Rattle.cose_msg.specs.declared.verifier.Verifier.{Verifier}
use Rattle.cose_msg.specs.Answer.{Answer, decided, complete, shaped, refused}
use Rattle.cose_msg.specs.Feed.{nothing_used}
use Rattle.cose_msg.specs.Kept.{HasTaken, is_inspecting}
use Rattle.cose_msg.specs.Message.{Setting}
use Rattle.cose_msg.specs.Shown.{ShowsReading}
use Rattle.cose_msg.specs.Status.{is_complete, is_more, is_open, status_in, status_of_answer}
use Rattle.cose_msg.specs.Task.{Task, given_to}
use Rattle.cose_msg.specs.Verifier.{setting_in, task_of}
use Rattle.cose_c.specs.declared.stream.CoseFed.{CoseFed}
use Rattle.cose_c.specs.Stream.{Content, HasRead, block_status, has_verdict, is_decidable, nothing_fed, status_numbers, wants_more}

-- What a block has read, its verifier has.
pub read_in : {H D : ℕ} {S : Type 0} {K : Ghosts S} (task : Task) (taken payload : List ℕ) (content : Content H D S K) (v : Verifier H D S K) → content ≡ Some v →
    HasRead task taken payload content → HasTaken task taken payload v × ShowsReading task taken v
read_in task taken payload content v is read = subst (HasRead task taken payload) is read

-- And where a block has a verdict to ask for, so has its verifier.
pub decidable_in : {H D : ℕ} {S : Type 0} {K : Ghosts S} (content : Content H D S K) (v : Verifier H D S K) → content ≡ Some v → has_verdict content ≡ true →
    is_decidable v ≡ true
decidable_in content v is has = subst (λ (c : Content _ _ _ _). has_verdict c ≡ true) is has

-- A verifier is for the same task where its setting and its purpose are the same.
pub same_task : {H D : ℕ} {S : Type 0} {K : Ghosts S} (v w : Verifier H D S K) → setting_in w ≡ setting_in v → is_inspecting w ≡ is_inspecting v → task_of w ≡ task_of v
same_task v w setting inspects =
    let task : Setting → Bool → Task = λ s i. record { setting = s; inspects = i } in
    ap (λ (s : Setting). task s (is_inspecting w)) setting ∙ ap (λ (i : Bool). task (setting_in v) i) inspects

-- There is a verdict once all bytes are there, unless the message is only inspected.
pub decidable : {H D : ℕ} {S : Type 0} {K : Ghosts S} (v : Verifier H D S K) → is_complete (status_in v) ≡ true → is_inspecting v ≡ false → is_decidable v ≡ true
decidable v done verifies = rw (done, verifies) refl

-- No answer wants bytes.
not_open : (answer : Answer) → is_open (status_of_answer answer) ≡ false
not_open (decided (Authentic kind alg payload taken)) = refl
not_open (decided (Refused refusal)) = refl
not_open (complete whole) = refl
not_open (shaped kind payload auth taken) = refl

-- The status after the end is that of the answer: where bytes of the message are wanted, that is Truncated at their number.
pub ended : (waits settled : Bool) (answer : Answer) (status after : Status) (place : ℕ) →
    status ≡ (if waits then statuses.PayloadNext else if settled then status_of_answer answer else statuses.More) →
    (status ≡ statuses.More → after ≡ statuses.Refused (record { reason = Truncated; place = place })) →
    (status ≡ statuses.PayloadNext → after ≡ status_of_answer answer) → (is_open status ≡ false → after ≡ status) →
    (settled ≡ false → answer ≡ refused Truncated place) → after ≡ status_of_answer answer
ended true settled answer status after place is more next again cut = next is
ended false true answer status after place is more next again cut = again (ap is_open is ∙ not_open answer) ∙ is
ended false false answer status after place is more next again cut = more is ∙ sym (ap status_of_answer (cut refl))

-- Where no byte is wanted, nothing is used, in numbers too.
pub numbers_of_nothing : (fed : Fed) (numbers : CoseFed) (status : Status) → numbers.status ≡ status_numbers fed.status → numbers.used ≡ fed.used →
    numbers.payload_at ≡ fed.payload_from → numbers.payload_at + numbers.payload_length ≡ fed.payload_to → fed ≡ nothing_used status →
    numbers ≡ nothing_fed (status_numbers status)
numbers_of_nothing fed numbers status same used from to is = grind (arith, common_steps)

-- Whether bytes are wanted, and the status, are those of the verifier.
pub wanted_in : {H D : ℕ} {S : Type 0} {K : Ghosts S} (content : Content H D S K) (v : Verifier H D S K) (wants : Bool) → content ≡ Some v → wants_more content ≡ wants →
    is_more (status_in v) ≡ wants
wanted_in content v wants is wanted = ap (λ (c : Content _ _ _ _). wants_more c) (sym is) ∙ wanted

pub status_of_verifier : {H D : ℕ} {S : Type 0} {K : Ghosts S} (content : Content H D S K) (v : Verifier H D S K) → content ≡ Some v → block_status content ≡ status_numbers (status_in v)
status_of_verifier content v is = ap (λ (c : Content _ _ _ _). block_status c) is

-- With no more bytes of the payload it has taken what it had.
pub none_more : {H D : ℕ} {S : Type 0} {K : Ghosts S} (task : Task) (taken payload : List ℕ) (v : Verifier H D S K) → HasTaken task taken payload v × ShowsReading task taken v →
    HasTaken (given_to (payload ++ []) task) taken (payload ++ []) v × ShowsReading (given_to (payload ++ []) task) taken v
none_more task taken payload v has =
    let same : HasTaken (given_to payload task) taken payload v × ShowsReading (given_to payload task) taken v =
    subst (λ (t : Task). HasTaken t taken payload v × ShowsReading t taken v) (sym has.0.came) has in
    subst (λ (p : List ℕ). HasTaken (given_to p task) taken p v × ShowsReading (given_to p task) taken v) (sym (append-nil payload)) same
