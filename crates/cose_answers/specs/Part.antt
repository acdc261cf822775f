-- What one step over a sequence did.
use Rattle.std.specs.Prelude.{◌≡◌, ◌≢◌, ℕ, ◌<◌, true, false, List, [], ◌++◌, length, take, Option, Some, None, ⊤, string_bytes, if◌then◌else◌}
use Rattle.std.specs.Io.KnownBytes.{Appends}
use Rattle.cose_answers.specs.declared.answers.sequence.Part.{Part}
use Rattle.cose_answers.specs.declared.answers.sequence.Step.{Step}
use Rattle.cose_answers.specs.declared.answers.sequence.Step.TheVariants.{Ended, Printed, Over}
use Rattle.cose_answers.specs.declared.reply.Status.{Status}
use Rattle.cose_answers.specs.declared.reply.Status.TheVariants as statuses
use Rattle.cose_answers.specs.Printed.{Output, Prints, Says}
use Rattle.cose_answers.specs.Sequence.{FailsAfter, Reads, is_whole, lost_line, messages_from, place_line, placed}

-- A message that an input begins with: these bytes of it settle it, and none before them do, unless the input ends before.
pub record Begins (reads : Reads) (message rest : List ℕ) : Type 0 where
  pub some : 0 < length message
  pub open_before : (n : ℕ) → n < length message → (reads (take n message)).settled ≡ false
  pub open_at_end : (reads message).settled ≡ false → rest ≡ []
  pub whole_is_settled : is_whole (reads message).answer ≡ true → (reads message).settled ≡ true

-- The part of a sequence that its next message is, where these bytes were left of the input.
pub record IsNext (reads : Reads) (alone : List ℕ → Output) (bytes : List ℕ) (come_after : Option (List ℕ)) (part : Part) : Type 0 where
  pub message : List ℕ
  pub rest : List ℕ
  pub split : bytes ≡ message ++ rest
  pub left : come_after ≡ Some rest
  pub begins : Begins reads message rest
  pub counted : part.taken ≡ length message
  pub says : Says (alone message) part.reply
  pub whole : part.whole ≡ is_whole (reads message).answer

-- There is none at the end of the input.
abbrev pub IsNextOf : Reads → (List ℕ → Output) → List ℕ → Option (List ℕ) → Option Part → Type 0
IsNextOf reads alone bytes come_after (Some part) = IsNext reads alone bytes come_after part
IsNextOf reads alone bytes come_after None = bytes ≡ []

-- How many bytes a part has; what is printed for it.
abbrev pub HasBytes : Option Part → Type 0
HasBytes (Some part) = 0 < part.taken
HasBytes None = ⊤

abbrev pub part_text : ℕ → Part → List ℕ
part_text place part = place_line place ++ (string_bytes part.reply.text ++ (if part.whole then [] else lost_line place))

-- A message at this place was printed, and the next follows it.
pub record Follows (reads : Reads) (alone : List ℕ → Output) (place : ℕ) (bytes : List ℕ) (come_after old new : Option (List ℕ)) (taken : ℕ) (status : Status) : Type 0 where
  pub message : List ℕ
  pub rest : List ℕ
  pub split : bytes ≡ message ++ rest
  pub left : come_after ≡ Some rest
  pub begins : Begins reads message rest
  pub whole : is_whole (reads message).answer ≡ true
  pub counted : taken ≡ length message
  pub written : Appends old new (placed place (alone message)).text
  pub ends_so : status ≡ (alone message).status

-- What a step did, where these bytes were left of the input.
abbrev pub Steps : Reads → (List ℕ → Output) → ℕ → List ℕ → Option (List ℕ) → Option (List ℕ) → Option (List ℕ) → Step → Type 0
Steps reads alone place bytes come_after old new Ended = (bytes ≡ []) × (new ≡ old)
Steps reads alone place bytes come_after old new (Printed taken status) = Follows reads alone place bytes come_after old new taken status
Steps reads alone place bytes come_after old new (Over status) =
    Prints (messages_from reads alone place bytes) old new status × (status ≡ statuses.Fault → FailsAfter (messages_from reads alone place) bytes old new)

abbrev pub MovesOn : Step → Type 0
MovesOn Ended = ⊤
MovesOn (Printed taken status) = (0 < taken) × (status ≢ statuses.Fault)
MovesOn (Over status) = status ≢ statuses.Done
