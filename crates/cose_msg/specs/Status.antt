-- The status of a message that is fed to a verifier.
use Rattle.std.specs.Prelude.{ℕ, Bool, true, false, Result, Ok, Err, nat_lt, if◌then◌else◌}
use Rattle.cose_msg.specs.declared.phase.Phase.{Phase}
use Rattle.cose_msg.specs.declared.phase.Phase.TheVariants as phases
use Rattle.cose_msg.specs.declared.status.Status.{Status}
use Rattle.cose_msg.specs.declared.status.Status.TheVariants.{More, PayloadNext, Complete, Stopped}
use Rattle.cose_msg.specs.declared.status.Status.TheVariants as statuses
use Rattle.cose_msg.specs.declared.verdict.Stop.{Stop}
use Rattle.cose_msg.specs.declared.verdict.Verdict.{Verdict}
use Rattle.cose_msg.specs.declared.verdict.Verdict.TheVariants.{Authentic, Refused}
use Rattle.cose_msg.specs.declared.verifier.Verifier.{Verifier}
use Rattle.cose_msg.specs.Answer.{Answer, decided, complete, shaped}
use Rattle.cose_msg.specs.Phase.{payload_want_of, want_of}
use Rattle.cose_msg.specs.Reading.{Reading}

-- ---- of a message

abbrev pub status_of_verdict : Verdict → Status
status_of_verdict (Authentic kind alg payload taken) = Complete
status_of_verdict (Refused refusal) = statuses.Refused refusal

-- Where tags are compared, a message that is complete and not decided is one with a signature. A shape is that of a
-- whole message.
abbrev pub status_of_answer : Answer → Status
status_of_answer (decided verdict) = status_of_verdict verdict
status_of_answer (complete whole) = Complete
status_of_answer (shaped kind payload auth taken) = Complete

-- Further bytes are wanted until the message is settled, or until bytes of a detached payload are.
abbrev pub status_of_reading : Reading → Status
status_of_reading reading =
    if nat_lt 0 reading.payload_wanted then PayloadNext else
    if reading.settled then status_of_answer reading.answer else More

abbrev pub is_more : Status → Bool
is_more More = true
is_more _ = false

abbrev pub is_payload_next : Status → Bool
is_payload_next PayloadNext = true
is_payload_next _ = false

-- Bytes are wanted, of the message or of its payload.
abbrev pub is_open : Status → Bool
is_open More = true
is_open PayloadNext = true
is_open _ = false

abbrev pub is_complete : Status → Bool
is_complete Complete = true
is_complete _ = false

-- After a run over an intake: the status of the answer for the bytes taken, which is Truncated where they haven't
-- settled the message. A verifier that stopped is Stopped.
abbrev pub status_left : {A : Type 0} → Result A Stop → Reading → Status
status_left (Ok answer) reading = status_of_answer reading.answer
status_left (Err stop) reading = Stopped

-- ---- of a verifier

-- Deciding on a signature, either way, leaves the message complete.
abbrev pub status_of_phase : Phase → Status
status_of_phase (phases.Detached p) = PayloadNext
status_of_phase (phases.Signed p) = Complete
status_of_phase (phases.Decided verdict) = Complete
status_of_phase (phases.Settled verdict) = status_of_verdict verdict
status_of_phase (phases.Shaped p) = Complete
status_of_phase _ = More

abbrev pub status_in : {H D : ℕ} {S : Type 0} {K : _} → Verifier H D S K → Status
status_in v = if v.stopped then Stopped else status_of_phase v.reader.phase

-- How many bytes are to come for certain. A verifier that has stopped wants none.
abbrev pub wanted_in : {H D : ℕ} {S : Type 0} {K : _} → Verifier H D S K → ℕ
wanted_in v = if v.stopped then 0 else want_of v.reader.phase

-- And how many of a detached payload are wanted.
abbrev pub payload_wanted_in : {H D : ℕ} {S : Type 0} {K : _} → Verifier H D S K → ℕ
payload_wanted_in v = if v.stopped then 0 else payload_want_of v.reader.phase
