-- What a call of `verify_detached` did with the intakes of a message and of its payload, and with a sink.
use Rattle.std.specs.Prelude.{◌≡◌, ℕ, ◌-◌, ◌<◌, ◌≤◌, ◌⊎◌, Bool, true, false, List, ◌++◌, length, take, Option, Some, None, Result, Ok, Err}
use Rattle.std.specs.Io.KnownBytes.{Consumes, IsAtEnd}
use Rattle.cose_msg.specs.declared.verdict.Stop.{Stop}
use Rattle.cose_msg.specs.declared.verdict.Stop.TheVariants as stops
use Rattle.cose_msg.specs.declared.verdict.Verdict.{Verdict}
use Rattle.cose_msg.specs.declared.verifier.Verifier.{Verifier}
use Rattle.cose_msg.specs.Answer.{decided}
use Rattle.cose_msg.specs.Change.{IntakeChange, SinkChange}
use Rattle.cose_msg.specs.Intake.{TakesInAll}
use Rattle.cose_msg.specs.Kept.{HasTaken}
use Rattle.cose_msg.specs.Message.{message}
use Rattle.cose_msg.specs.Reading.{Reading}
use Rattle.cose_msg.specs.Rules.{Rules}
use Rattle.cose_msg.specs.Run.{Ends, FailsIf, Grows, IsAnswer, TakesUntilStop, stop_in}
use Rattle.cose_msg.specs.Shown.{ShowsReading}
use Rattle.cose_msg.specs.Source.{stated_of}
use Rattle.cose_msg.specs.Status.{is_open, status_of_reading}
use Rattle.cose_msg.specs.Task.{Task, given_to, rules_of}

-- Bytes of both intakes are taken in their order, each once. Of the one that failed, if any, the bytes to come may be
-- unknown to the contract then.
abbrev pub TakesBoth : IntakeChange → IntakeChange → Option Stop → List ℕ → List ℕ → Type 0
TakesBoth intake of_payload (Some stops.Intake) taken came =
    (TakesInAll intake.before intake.after taken × Consumes of_payload.before of_payload.after came)
    ⊎ (Consumes intake.before intake.after taken × TakesInAll of_payload.before of_payload.after came)
TakesBoth intake of_payload (Some stops.Sink) taken came = Consumes intake.before intake.after taken × Consumes of_payload.before of_payload.after came
TakesBoth intake of_payload (Some stops.Again) taken came = Consumes intake.before intake.after taken × Consumes of_payload.before of_payload.after came
TakesBoth intake of_payload None taken came = Consumes intake.before intake.after taken × Consumes of_payload.before of_payload.after came

-- One of two intakes has failed in this call, where it stops for an intake; and otherwise none.
abbrev pub EitherFails : {F G : Type 0} → Bool → (F → Bool) → F → F → (G → Bool) → G → G → Type 0
EitherFails stops has_failed first first_after has_other_failed second second_after =
    (FailsIf has_failed first first_after stops × (has_other_failed second_after ≡ has_other_failed second))
    ⊎ ((has_failed first_after ≡ has_failed first) × FailsIf has_other_failed second second_after stops)

-- Further bytes are wanted, of the message or of its payload.
abbrev pub WantsMore : Reading → Type 0
WantsMore reading = is_open (status_of_reading reading) ≡ true

-- All of the payload has come, unless its intake has ended and gives no further byte.
pub record PayloadEnds (came : ℕ) (of_payload : IntakeChange) (reading : Reading) : Type 0 where
  pub missing : 0 < reading.payload_wanted → (of_payload.ended ≡ true) × IsAtEnd of_payload.after
  pub whole : reading.payload_wanted ≡ 0 → 0 < came → of_payload.ended ≡ false

-- The verdict after this many bytes of the message, some of which, and some of the payload's, were taken in this call.
-- Where there is none, further bytes are wanted.
abbrev pub AnswersBoth : ℕ → ℕ → ℕ → Result Verdict Stop → IntakeChange → IntakeChange → Reading → Type 0
AnswersBoth count taken came (Ok verdict) intake of_payload reading =
    IsAnswer count taken (decided verdict) intake reading × PayloadEnds came of_payload reading
AnswersBoth count taken came (Err stop) intake of_payload reading = WantsMore reading

-- A verifier that had taken these bytes of the message, and of its payload, before has taken others after them. They are
-- read by these rules, in which both lists of the payload have come.
pub record DetachedRun (rules : Rules) (before payload_before : List ℕ) (intake of_payload : IntakeChange) (sink : SinkChange) (result : Result Verdict Stop) (taken came : List ℕ) : Type 0 where
  pub bytes : TakesBoth intake of_payload (stop_in result) taken came
  -- None was taken after the one that settles the message, and of the payload none that isn't stated.
  pub none_after_end : (n : ℕ) → n < length taken → (message rules (before ++ take n taken)).settled ≡ false
  pub within : length came ≤ stated_of rules.source - length payload_before
  pub answer : AnswersBoth (length (before ++ taken)) (length taken) (length came) result intake of_payload (message rules (before ++ taken))
  -- The payload that is known now, less the one that was known before, went to the sink.
  pub payload : (message rules (before ++ taken)).so_far.payload ≡ payload_before ++ came
  pub grows : Grows sink (stop_in result) came

-- ---- what the steps of such a call do

-- The payload is all there, and bytes of the message are wanted.
abbrev pub IsAllThere : Task → List ℕ → Reading → Type 0
IsAllThere task payload reading = (reading.settled ≡ false) × (length payload ≡ stated_of task.setting.source)

-- What has come of the payload is all of it, unless its intake has ended.
abbrev pub ReadsOnWithPayload : {H D : ℕ} {S : Type 0} {K : _} → Task → List ℕ → List ℕ → ℕ → Option Stop → IntakeChange → Verifier H D S K → Type 0
ReadsOnWithPayload {H} {D} task bytes payload came None of_payload v =
    HasTaken task bytes payload v × PayloadEnds came of_payload (message (rules_of H D task) bytes)
    × ((message (rules_of H D task) bytes).payload_wanted ≡ 0 → IsAllThere task payload (message (rules_of H D task) bytes))
ReadsOnWithPayload {H} {D} task bytes payload came (Some stop) of_payload v = WantsMore (message (rules_of H D task) bytes)

-- A verifier that had taken these bytes of a message, and of its payload, before has taken bytes of the payload until none
-- was wanted or their intake had ended, or until it or the sink failed.
pub record TakesDetachedPayload {H D : ℕ} {S : Type 0} {K : _} (task : Task) (before payload_before : List ℕ) (of_payload : IntakeChange) (sink : SinkChange) (stop : Option Stop) (v : Verifier H D S K) : Type 0 where
  pub came : List ℕ
  pub bytes : TakesUntilStop of_payload stop came
  pub within : length came ≤ stated_of task.setting.source - length payload_before
  pub reads_on : ReadsOnWithPayload (given_to (payload_before ++ came) task) before (payload_before ++ came) (length came) stop of_payload v
  pub counted : v.taken ≡ length before
  pub shows : ShowsReading (given_to (payload_before ++ came) task) before v
  pub payload : (message (rules_of H D (given_to (payload_before ++ came) task)) before).so_far.payload ≡ payload_before ++ came
  pub grows : Grows sink stop came

-- Where both intakes were taken from, the message has its verdict next, unless one of them or the sink failed.
abbrev pub ReadsOnWithBoth : {H D : ℕ} {S : Type 0} {K : _} → Task → List ℕ → List ℕ → ℕ → ℕ → Option Stop → IntakeChange → IntakeChange → Verifier H D S K → Type 0
ReadsOnWithBoth {H} {D} task bytes payload taken came None intake of_payload v =
    HasTaken task bytes payload v × Ends taken intake (message (rules_of H D task) bytes) × PayloadEnds came of_payload (message (rules_of H D task) bytes)
ReadsOnWithBoth {H} {D} task bytes payload taken came (Some stop) intake of_payload v = WantsMore (message (rules_of H D task) bytes)

-- A verifier that had taken these bytes of a message, and of its payload, before has taken bytes of both until none was wanted
-- or an intake had ended, or until an intake or the sink failed.
pub record TakesDetached {H D : ℕ} {S : Type 0} {K : _} (task : Task) (before payload_before : List ℕ) (intake of_payload : IntakeChange) (sink : SinkChange) (stop : Option Stop) (v : Verifier H D S K) : Type 0 where
  pub taken : List ℕ
  pub came : List ℕ
  pub bytes : TakesBoth intake of_payload stop taken came
  pub none_after_end : (n : ℕ) → n < length taken → (message (rules_of H D (given_to (payload_before ++ came) task)) (before ++ take n taken)).settled ≡ false
  pub within : length came ≤ stated_of task.setting.source - length payload_before
  pub reads_on : ReadsOnWithBoth (given_to (payload_before ++ came) task) (before ++ taken) (payload_before ++ came) (length taken) (length came) stop intake of_payload v
  pub counted : v.taken ≡ length (before ++ taken)
  pub shows : ShowsReading (given_to (payload_before ++ came) task) (before ++ taken) v
  pub payload : (message (rules_of H D (given_to (payload_before ++ came) task)) (before ++ taken)).so_far.payload ≡ payload_before ++ came
  pub grows : Grows sink stop came
