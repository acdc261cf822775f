-- A message that has its payload awaits nothing of one from elsewhere.
use Rattle.std.proofs.Common.{◌≡◌, ℕ, Bool, true, false, cond, List, [], Option, None, Some, refl, ap}
use Rattle.std.specs.Prelude.{◌≢◌}
use Rattle.cose_head.specs.declared.head.Head.{Head}
use Rattle.cose_head.specs.declared.reason.Reason.{Reason}
use Rattle.cose_msg.specs.declared.status.Status.TheVariants.{More, PayloadNext}
use Rattle.cose_msg.specs.declared.verdict.Verdict.TheVariants.{Authentic, Refused}
use Rattle.cose_msg.specs.declared.verifier.Verifier.{Verifier}
use Rattle.cose_msg.specs.Answer.{Answer, Chosen, Headers, decided, complete, shaped}
use Rattle.cose_msg.specs.Kept.{HasTaken}
use Rattle.cose_msg.specs.Laws.{AttachedAwaitsNothing, AttachedIsDefinite, MessageIsDefinite}
use Rattle.cose_msg.specs.Message.{message}
use Rattle.cose_msg.specs.Phases.{auth, auth_head, auth_head_fault, finish, headers_so_far, past_auth_head, past_payload, past_payload_head_from, payload, payload_head_fault}
use Rattle.cose_msg.specs.Reading.{Phase, Reading, Findings, cut, stop}
use Rattle.cose_msg.specs.Rules.{Rules}
use Rattle.cose_msg.specs.Source.{Source, attached, detached, is_detached_from, source_with, with_came}
use Rattle.cose_msg.specs.Status.{status_of_answer, status_of_reading}
use Rattle.cose_msg.specs.Task.{Task, rules_of}
use Rattle.cose_msg.specs.Verifier.{is_detached}
use Rattle.cose_msg.proofs.lemmas.Detached.PayloadElsewhere.{Goes, first_head-goes, unless_fault-goes, with_head-goes, with_string-goes}

-- ---- of the reading

-- (What is said of two readings is said of the first.)
abbrev AwaitsNothing : Reading → Reading → Type 0
AwaitsNothing reading other = reading.payload_wanted ≡ 0

cuts : (so_far : Findings) (wanted place : ℕ) → AwaitsNothing (cut so_far wanted place) (cut so_far wanted place)
cuts so_far wanted place = refl

stops : (so_far : Findings) (reason : Reason) (place : ℕ) → AwaitsNothing (stop so_far reason place) (stop so_far reason place)
stops so_far reason place = refl

abbrev Never : Phase → Type 0
Never phase = Goes AwaitsNothing cuts stops phase phase

module _ (rules : Rules) (headers : Headers) (chosen : Option Chosen) where
  auth-never : (known : List ℕ) (at n : ℕ) → Never (auth rules headers chosen known at n)
  auth-never known at n = with_string-goes AwaitsNothing cuts stops (λ bytes. headers_so_far headers known) n (finish rules headers chosen known at) (finish rules headers chosen known at) (λ from string place bytes. refl)

  auth_head-never : (known : List ℕ) → Never (auth_head rules headers chosen known)
  auth_head-never known = with_head-goes AwaitsNothing cuts stops (headers_so_far headers known) (past_auth_head rules headers chosen known) (past_auth_head rules headers chosen known)
      (λ at head. unless_fault-goes AwaitsNothing cuts stops (headers_so_far headers known) at (auth_head_fault rules chosen head) (auth rules headers chosen known at head.arg) (auth rules headers chosen known at head.arg) (auth-never known at head.arg))

  payload-never : (n : ℕ) → Never (payload rules headers chosen n)
  payload-never n = with_string-goes AwaitsNothing cuts stops (headers_so_far headers) n (past_payload rules headers chosen) (past_payload rules headers chosen) (λ at string. auth_head-never string)

  past_payload_head-never : (source : Source) → is_detached_from source ≡ false → (at : ℕ) (head : Head) → Never (past_payload_head_from source rules headers chosen at head)
  past_payload_head-never attached e at head = unless_fault-goes AwaitsNothing cuts stops (headers_so_far headers []) at (payload_head_fault rules head) (payload rules headers chosen head.arg) (payload rules headers chosen head.arg) (payload-never head.arg)
  past_payload_head-never (detached came detached_length) e at head = absurd cc

pub awaits_nothing : AttachedAwaitsNothing
unfolding message
awaits_nothing rules e bytes = first_head-goes AwaitsNothing cuts stops rules rules.source rules.finish (λ headers chosen at head. past_payload_head-never rules headers chosen rules.source e at head) 0 bytes

pub attached_definite : MessageIsDefinite → AttachedIsDefinite
attached_definite definite rules e fair bytes settled = definite rules fair bytes settled (awaits_nothing rules e bytes)

-- ---- of the status

of_answer : (answer : Answer) → status_of_answer answer ≢ PayloadNext
of_answer (decided (Authentic kind alg payload taken)) = λ e. cc
of_answer (decided (Refused refusal)) = λ e. cc
of_answer (complete whole) = λ e. cc
of_answer (shaped kind payload auth taken) = λ e. cc

either : (settled : Bool) (answer : Answer) → cond settled (status_of_answer answer) More ≢ PayloadNext
either true answer = of_answer answer
either false answer = λ e. cc

of_reading : (reading : Reading) → reading.payload_wanted ≡ 0 → status_of_reading reading ≢ PayloadNext
of_reading reading none = rw none (either reading.settled reading.answer)

by_length : (detached_length : Option ℕ) (source : Source) → source_with [] detached_length ≡ with_came [] source → is_detached_from (source_with [] detached_length) ≡ false → is_detached_from source ≡ false
by_length detached_length attached e is = refl
by_length None (detached came n) e is = absurd cc
by_length (Some detached_length) (detached came n) e is = absurd cc

is_of_attached : {H D : ℕ} {S : Type 0} {K : _} {task : Task} {s B : List ℕ} {v : Verifier H D S K} → HasTaken task s B v → is_detached v ≡ false → is_detached_from task.setting.source ≡ false
is_of_attached {task = task} {v = v} h is = by_length v.detached_length task.setting.source (ap (λ (t : Task). t.setting.source) h.made_for) is

-- The status of a verifier that wasn't made for a detached payload.
pub never_next : {H D : ℕ} {S : Type 0} {K : _} {task : Task} {s B : List ℕ} {v : Verifier H D S K} → HasTaken task s B v → is_detached v ≡ false → status_of_reading (message (rules_of H D task) s) ≢ PayloadNext
never_next {H} {D} {task = task} {s = s} h is = of_reading (message (rules_of H D task) s) (awaits_nothing (rules_of H D task) (is_of_attached h is) s)
