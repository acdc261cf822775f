-- The status of a verifier is that of the bytes that it has taken.
use Rattle.std.proofs.Common.{◌≡◌, ◌⊎◌, inl, inr, ℕ, Bool, true, false, cond, List, [], ◌++◌, Option, Some, Result, refl, sym, ap, ◌∙◌, arith}
use Rattle.std.specs.Prelude.{◌<◌, nat_lt}
use Rattle.std.proofs.lemmas.Bool.{lt-ltb}
use Rattle.cose_msg.specs.declared.phase.Phase.{Phase}
use Rattle.cose_msg.specs.declared.phase.Phase.TheVariants as phases
use Rattle.cose_msg.specs.declared.status.Status.{Status}
use Rattle.cose_msg.specs.declared.status.Status.TheVariants.{Complete, More, PayloadNext, Refused, Stopped}
use Rattle.cose_msg.specs.declared.verdict.Stop.{Stop}
use Rattle.cose_msg.specs.declared.reader.Reader.{Reader}
use Rattle.cose_msg.specs.declared.verifier.Verifier.{Verifier}
use Rattle.cose_msg.specs.declared.verdict.Verdict.TheVariants.{Authentic}
use Rattle.cose_msg.specs.declared.verdict.Verdict.TheVariants as verdicts
use Rattle.cose_msg.specs.Answer.{Answer, decided, complete, shaped}
use Rattle.cose_msg.specs.Kept.{HasTaken, answer_kept}
use Rattle.cose_msg.specs.Message.{message}
use Rattle.cose_msg.specs.Phase.{is_settled, payload_want_of}
use Rattle.cose_msg.specs.Reading.{Reading, Findings}
use Rattle.cose_msg.specs.Status.{is_complete, is_open, status_of_phase, status_in, status_left, status_of_reading, status_of_answer}
use Rattle.cose_msg.specs.Task.{Task, rules_of}
use Rattle.cose_msg.specs.Reader.{HoldsIn, Known, ReaderMeans, left_in}
use Rattle.cose_msg.proofs.lemmas.Deciding.Decisions.{IsDone}
use Rattle.cose_msg.proofs.lemmas.Run.Runs.{IsKept, kept_by, without_more}

open_status : (reading : Reading) → reading.settled ≡ false → reading.payload_wanted ≡ 0 → More ≡ status_of_reading reading
open_status reading e none = rw (none, e) refl

-- Bytes of a detached payload are wanted.
awaiting_status : (reading : Reading) (missing : ℕ) → reading.payload_wanted ≡ missing → 0 < missing → PayloadNext ≡ status_of_reading reading
awaiting_status reading missing e some = rw (e, lt-ltb 0 missing some) refl

module _ {H D : ℕ} (task : Task) (known : Known) (so_far : Findings) (n : ℕ) (v : Reader H D) where
  status_here : (phase : Phase) (reading : Reading) → HoldsIn task known so_far n v phase → reading ≡ left_in (rules_of H D task) known so_far v phase [] → reading.settled ≡ is_settled phase → reading.payload_wanted ≡ payload_want_of phase → status_of_phase phase ≡ status_of_reading reading
  status_here phases.FirstHead reading h e same none = open_status reading same none
  status_here (phases.TagHead p) reading h e same none = open_status reading same none
  status_here (phases.ArrayHead p) reading h e same none = open_status reading same none
  status_here (phases.ProtectedHead p) reading h e same none = open_status reading same none
  status_here (phases.Protected p) reading h e same none = open_status reading same none
  status_here (phases.Unprotected p) reading h e same none = open_status reading same none
  status_here (phases.PayloadHead p) reading h e same none = open_status reading same none
  status_here (phases.Payload p) reading h e same none = open_status reading same none
  status_here (phases.Detached p) reading h e same none = awaiting_status reading p.left none p.some_left
  status_here (phases.AuthHead p) reading h e same none = open_status reading same none
  status_here (phases.Auth p) reading h e same none = open_status reading same none
  status_here (phases.Signed p) reading h e same none = sym (ap status_of_reading e)
  status_here (phases.Decided verdict) reading h e same none = absurd h
  status_here (phases.Settled verdict) reading h e same none = sym (ap status_of_reading e)
  status_here (phases.Shaped p) reading h e same none = sym (ap status_of_reading e)

pub reads_on_status : {H D : ℕ} {task : Task} {B : List ℕ} {n : ℕ} {v : Reader H D} {reading : List ℕ → Reading} → ReaderMeans task B n v reading → (reading []).settled ≡ is_settled v.phase → (reading []).payload_wanted ≡ payload_want_of v.phase → status_of_phase v.phase ≡ status_of_reading (reading [])
reads_on_status {H} {D} {task} {B} {n} {v} {reading} h same none = status_here task h.known h.so_far n v v.phase (reading []) h.holds (h.left []) same none

-- The status of the phase is that of all bytes that were taken.
pub status_reads : {H D : ℕ} {S : Type 0} {K : _} {task : Task} {s B : List ℕ} {v : Verifier H D S K} {said : Status} → HasTaken task s B v → status_of_phase v.reader.phase ≡ status_of_reading (message (rules_of H D task) (s ++ [])) → status_of_phase v.reader.phase ≡ said → said ≡ status_of_reading (message (rules_of H D task) s)
status_reads {H} {D} {S} {K} {task} {s} {B} {v} {said} h same is = sym is ∙ same ∙ ap status_of_reading (without_more H D task s)

-- A verifier that wants bytes hasn't stopped.
pub wants_and_goes_on : (stopped : Bool) (wanted said : ℕ) → said ≡ cond stopped 0 wanted → (said ≡ 0 → ⊥) → stopped ≡ false
wants_and_goes_on true wanted said e some = absurd (some e)
wants_and_goes_on false wanted said e some = refl

pub more_goes_on : (stopped : Bool) (said : Status) → cond stopped Stopped said ≡ More → stopped ≡ false
more_goes_on true said e = absurd cc
more_goes_on false said e = refl

pub more_unless_stopped : (stopped : Bool) (said : Status) → cond stopped Stopped said ≡ More → said ≡ More
more_unless_stopped true said e = absurd cc
more_unless_stopped false said e = e

-- Where bytes are wanted, of the message or of its payload, the verifier hasn't stopped.
pub either_is_open : (said : Status) → (said ≡ More) ⊎ (said ≡ PayloadNext) → is_open said ≡ true
either_is_open said e = elim e [ inl more ↦ ap is_open more | inr payload ↦ ap is_open payload ]

pub open_goes_on : (stopped : Bool) (said : Status) → is_open (cond stopped Stopped said) ≡ true → stopped ≡ false
open_goes_on true said e = absurd cc
open_goes_on false said e = refl

pub open_unless_stopped : (stopped : Bool) (said : Status) → is_open (cond stopped Stopped said) ≡ true → is_open said ≡ true
open_unless_stopped true said e = absurd cc
open_unless_stopped false said e = e

-- How many bytes of a payload are wanted, where some are, and where none are.
pub some_wanted : (stopped : Bool) (wanted : ℕ) → 0 < cond stopped 0 wanted → cond stopped 0 wanted ≡ wanted
some_wanted true wanted some = absurd (omega (arith, some))
some_wanted false wanted some = refl

pub none_wanted : (stopped : Bool) (wanted : ℕ) → wanted ≡ 0 → cond stopped 0 wanted ≡ 0
none_wanted true wanted none = refl
none_wanted false wanted none = none

complete_is : (said : Status) → is_complete said ≡ true → said ≡ Complete
complete_is Complete e = refl
complete_is More e = absurd cc
complete_is PayloadNext e = absurd cc
complete_is Stopped e = absurd cc
complete_is (Refused refusal) e = absurd cc

pub complete_stays : (stopped : Bool) (said : Status) → stopped ≡ false → is_complete (cond stopped Stopped said) ≡ true → said ≡ Complete
complete_stays true said goes_on e = absurd cc
complete_stays false said goes_on e = complete_is said e

either_open : (b : Bool) → is_open (cond b PayloadNext More) ≡ true
either_open true = refl
either_open false = refl

answer_is_closed : (answer : Answer) → is_open (status_of_answer answer) ≡ false
answer_is_closed (decided (Authentic kind alg payload taken)) = refl
answer_is_closed (decided (verdicts.Refused refusal)) = refl
answer_is_closed (complete whole) = refl
answer_is_closed (shaped kind payload auth taken) = refl

open_if : (settled : Bool) (answer : Answer) → is_open (cond settled (status_of_answer answer) More) ≡ true → settled ≡ false
open_if true answer wants = let closed : is_open (status_of_answer answer) ≡ false = answer_is_closed answer in absurd cc
open_if false answer wants = refl

-- A message of which bytes are wanted, and none of a detached payload, isn't settled; and one that isn't settled wants bytes.
pub open_unsettled : (reading : Reading) → reading.payload_wanted ≡ 0 → is_open (status_of_reading reading) ≡ true → reading.settled ≡ false
open_unsettled reading none wants = open_if reading.settled reading.answer (rw none at wants)

pub unsettled_open : (reading : Reading) → reading.settled ≡ false → is_open (status_of_reading reading) ≡ true
unsettled_open reading e = rw e (either_open (nat_lt 0 reading.payload_wanted))

open_either : (awaits settled : Bool) (answer other : Answer) → is_open (cond awaits PayloadNext (cond settled (status_of_answer answer) More)) ≡ is_open (cond awaits PayloadNext (cond settled (status_of_answer other) More))
open_either true settled answer other = refl
open_either false true answer other = answer_is_closed answer ∙ sym (answer_is_closed other)
open_either false false answer other = refl

-- Whether bytes are wanted doesn't depend on the answer.
pub open_as : (reading other : Reading) → reading.payload_wanted ≡ other.payload_wanted → reading.settled ≡ other.settled → is_open (status_of_reading reading) ≡ is_open (status_of_reading other)
open_as reading other wanted settled = rw (wanted, settled) (open_either (nat_lt 0 other.payload_wanted) other.settled reading.answer other.answer)

-- The status of a settled message is that of its answer.
pub settled_status : (reading : Reading) (said : Status) → said ≡ status_of_reading reading → IsDone reading → said ≡ status_of_answer reading.answer
settled_status reading said e done = e ∙ rw (done.1, done.0) refl

pub status_going : {H D : ℕ} {S : Type 0} {K : _} (v : Verifier H D S K) (said : Status) → v.stopped ≡ false → status_of_phase v.reader.phase ≡ said → status_in v ≡ said
status_going v said goes_on e = rw goes_on e

-- ---- the status after a run

pub left_by_kept : {A : Type 0} {H D : ℕ} {S : Type 0} {K : _} {task : Task} {s B : List ℕ} {v : Verifier H D S K} (answer : Option A) (result : Result A Stop) → HasTaken task s B v → status_of_phase v.reader.phase ≡ status_of_reading (message (rules_of H D task) (s ++ [])) → IsDone (message (rules_of H D task) (s ++ [])) →
    answer_kept v.stopped answer ≡ Some result → status_in v ≡ status_left result (message (rules_of H D task) s)
left_by_kept {A} {H} {D} {S} {K} {task} {s} {B} {v} answer result h same done kept =
    let going : answer_kept false answer ≡ Some result = rw h.goes_on at kept in
    let k : IsKept answer result = kept_by answer result going in
    let reads = without_more H D task s in
    let said : status_in v ≡ status_of_answer (message (rules_of H D task) s).answer = status_going v _ h.goes_on (settled_status (message (rules_of H D task) (s ++ [])) _ same done) ∙ ap (λ (r : Reading). status_of_answer r.answer) reads in
    rw k.result_is said

pub left_by_answer : {H D : ℕ} {S : Type 0} {K : _} (task : Task) (bytes : List ℕ) (v : Verifier H D S K) → status_in v ≡ status_of_answer (message (rules_of H D task) (bytes ++ [])).answer → status_in v ≡ status_of_answer (message (rules_of H D task) bytes).answer
left_by_answer {H} {D} task bytes v e = e ∙ ap (λ (r : Reading). status_of_answer r.answer) (without_more H D task bytes)

pub left_by_stop : {H D : ℕ} {S : Type 0} {K : _} (v : Verifier H D S K) → v.stopped ≡ true → status_in v ≡ Stopped
left_by_stop v e = rw e refl
