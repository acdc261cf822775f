-- What a call of `verify` or of `inspect` did with an intake and a sink.
use Rattle.std.specs.Prelude.{◌≡◌, ℕ, ◌<◌, ◌||◌, Bool, true, false, List, [], ◌++◌, length, take, Option, Some, None, Result, Ok, Err, ⊤}
use Rattle.std.specs.Io.KnownBytes.{Appends, Consumes, IsAtEnd}
use Rattle.cose_msg.specs.declared.verdict.Inspected.{Inspected}
use Rattle.cose_msg.specs.declared.verdict.Inspected.TheVariants as inspected
use Rattle.cose_msg.specs.declared.verdict.Stop.{Stop}
use Rattle.cose_msg.specs.declared.verdict.Stop.TheVariants as stops
use Rattle.cose_msg.specs.declared.verdict.Verdict.TheVariants.{Refused}
use Rattle.cose_msg.specs.declared.verifier.Verifier.{Verifier}
use Rattle.cose_msg.specs.Answer.{Answer, decided, complete, shaped}
use Rattle.cose_msg.specs.Change.{IntakeChange, SinkChange}
use Rattle.cose_msg.specs.Intake.{TakesInAll}
use Rattle.cose_msg.specs.Kept.{HasTaken, bytes_taken}
use Rattle.cose_msg.specs.Laws.{PlacedBy}
use Rattle.cose_msg.specs.Message.{message}
use Rattle.cose_msg.specs.Reading.{Reading}
use Rattle.cose_msg.specs.Rules.{Rules}
use Rattle.cose_msg.specs.Shown.{ShowsReading}
use Rattle.cose_msg.specs.Source.{is_detached_from}
use Rattle.cose_msg.specs.Sink.{AppendsFront}
use Rattle.cose_msg.specs.Status.{status_in, status_left}
use Rattle.cose_msg.specs.Task.{Task, rules_of}
use Rattle.cose_msg.specs.Reader.{Counts}

-- Why it stopped, if it did.
abbrev pub stop_in : {A : Type 0} → Result A Stop → Option Stop
stop_in (Ok answer) = None
stop_in (Err stop) = Some stop

abbrev pub is_intake_stop : Option Stop → Bool
is_intake_stop (Some stops.Intake) = true
is_intake_stop _ = false

abbrev pub is_sink_stop : Option Stop → Bool
is_sink_stop (Some stops.Sink) = true
is_sink_stop _ = false

abbrev pub stops_for_intake : {A : Type 0} → Result A Stop → Bool
stops_for_intake result = is_intake_stop (stop_in result)

abbrev pub stops_for_sink : {A : Type 0} → Result A Stop → Bool
stops_for_sink result = is_sink_stop (stop_in result)

-- An intake or a sink, which says by this whether it has failed, has done so exactly where it had before the call, or
-- where the call stops for it.
abbrev pub FailsIf : {F : Type 0} → (F → Bool) → F → F → Bool → Type 0
FailsIf has_failed old new stops = has_failed new ≡ (has_failed old || stops)

-- The intake's bytes are taken in their order, each once. The bytes to come may be unknown to the contract only after a
-- failure of the intake.
abbrev pub TakesUntilStop : IntakeChange → Option Stop → List ℕ → Type 0
TakesUntilStop intake (Some stops.Intake) taken = TakesInAll intake.before intake.after taken
TakesUntilStop intake (Some stops.Sink) taken = Consumes intake.before intake.after taken
TakesUntilStop intake (Some stops.Again) taken = Consumes intake.before intake.after taken
TakesUntilStop intake None taken = Consumes intake.before intake.after taken

-- The sink grows by the payload among the bytes taken, or by a prefix of it where the sink failed.
abbrev pub Grows : SinkChange → Option Stop → List ℕ → Type 0
Grows sink (Some stops.Sink) payload = AppendsFront sink.before sink.after payload
Grows sink (Some stops.Intake) payload = Appends sink.before sink.after payload
Grows sink (Some stops.Again) payload = Appends sink.before sink.after payload
Grows sink None payload = Appends sink.before sink.after payload

-- The answer for a shape that is inspected, or for a refusal.
abbrev pub inspection : Inspected → Answer
inspection (inspected.Shape kind payload auth taken) = shaped kind payload auth taken
inspection (inspected.Refused refusal) = decided (Refused refusal)

-- An authentic message gives the number of its bytes, and so does a shape.
abbrev pub SaysCount : Answer → ℕ → Type 0
SaysCount (decided verdict) n = Counts verdict n
SaysCount (shaped kind payload auth taken) n = taken ≡ n
SaysCount (complete whole) n = ⊤

-- The bytes taken have settled the message, unless the intake has ended and gives no further byte.
pub record Ends (taken : ℕ) (intake : IntakeChange) (reading : Reading) : Type 0 where
  pub unsettled : reading.settled ≡ false → (intake.ended ≡ true) × IsAtEnd intake.after
  pub settled : reading.settled ≡ true → 0 < taken → intake.ended ≡ false

-- An answer after this many bytes of the message, some of which were taken in this call.
pub record IsAnswer (count taken : ℕ) (said : Answer) (intake : IntakeChange) (reading : Reading) : Type 0 where
  -- It is the answer for these bytes, and gives their number, where it gives one. A refusal's place is not after them.
  pub answer : reading.answer ≡ said
  pub counted : SaysCount said count
  pub placed : PlacedBy count reading.answer
  pub ends : Ends taken intake reading

-- Where there is no answer, the bytes taken haven't settled the message.
abbrev pub Answers : {A : Type 0} → (A → Answer) → ℕ → ℕ → Result A Stop → IntakeChange → Reading → Type 0
Answers answer_of count taken (Ok answer) intake reading = IsAnswer count taken (answer_of answer) intake reading
Answers answer_of count taken (Err stop) intake reading = reading.settled ≡ false

-- A verifier that had taken bytes before, with a payload among them, has taken others after them. They are read by these rules.
pub record Run {A : Type 0} (rules : Rules) (answer_of : A → Answer) (before payload_before : List ℕ) (intake : IntakeChange) (sink : SinkChange) (result : Result A Stop) (taken : List ℕ) : Type 0 where
  pub bytes : TakesUntilStop intake (stop_in result) taken
  -- None was taken after the one that settles the message.
  pub none_after_end : (n : ℕ) → n < length taken → (message rules (before ++ take n taken)).settled ≡ false
  pub answer : Answers answer_of (length (before ++ taken)) (length taken) result intake (message rules (before ++ taken))
  -- The payload that is known now, less the one that was known before, went to the sink.
  pub payload : (grown : List ℕ) × ((message rules (before ++ taken)).so_far.payload ≡ payload_before ++ grown) × Grows sink (stop_in result) grown

-- Where the taking stopped, the bytes haven't settled the message.
abbrev pub ReadsOn : {H D : ℕ} {S : Type 0} {K : _} → Task → List ℕ → List ℕ → ℕ → Option Stop → IntakeChange → Verifier H D S K → Type 0
ReadsOn {H} {D} task bytes payload taken None intake v = HasTaken task bytes payload v × Ends taken intake (message (rules_of H D task) bytes)
ReadsOn {H} {D} task bytes payload taken (Some stop) intake v = (message (rules_of H D task) bytes).settled ≡ false

-- A verifier that had taken bytes before, with a payload among them, has taken others until none was wanted or the intake
-- had ended, or until the intake or the sink failed.
pub record TakesMessage {H D : ℕ} {S : Type 0} {K : _} (task : Task) (before payload_before : List ℕ) (intake : IntakeChange) (sink : SinkChange) (stop : Option Stop) (v : Verifier H D S K) : Type 0 where
  pub taken : List ℕ
  pub part : List ℕ
  pub bytes : TakesUntilStop intake stop taken
  pub none_after_end : (n : ℕ) → n < length taken → (message (rules_of H D task) (before ++ take n taken)).settled ≡ false
  pub reads_on : ReadsOn task (before ++ taken) (payload_before ++ part) (length taken) stop intake v
  pub counted : v.taken ≡ length (before ++ taken)
  pub shows : ShowsReading task (before ++ taken) v
  pub payload : (message (rules_of H D task) (before ++ taken)).so_far.payload ≡ payload_before ++ part
  pub grows : Grows sink stop part
  -- A detached payload isn't among the bytes of the message.
  pub beside : is_detached_from task.setting.source ≡ true → part ≡ []

-- What a verifier is after a call in which it has taken these bytes in all: it has counted them and gives what they have, and its
-- status is theirs.
abbrev pub LeftAt : {A : Type 0} {H D : ℕ} {S : Type 0} {K : _} → Task → List ℕ → Result A Stop → Verifier H D S K → Type 0
LeftAt {A} {H} {D} task taken result v = (bytes_taken v ≡ length taken) × ShowsReading task taken v × (status_in v ≡ status_left result (message (rules_of H D task) taken))
