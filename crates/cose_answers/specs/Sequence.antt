-- What the program prints for a sequence of messages (RFC 8742), each of which is followed at once by the next, and how it ends.
use Rattle.std.specs.Prelude.{◌≡◌, ◌⊎◌, ℕ, zero, suc, ◌+◌, Bool, true, false, List, [], ◌∷◌, ◌++◌, length, take, drop, Option, Some, None, Ok, Err, codes, if◌then◌else◌}
use Rattle.std.specs.Fmt.{decimal}
use Rattle.cose_head.specs.declared.reason.Reason.{Reason}
use Rattle.cose_head.specs.declared.reason.Reason.TheVariants.{BadAuth}
use Rattle.cose_cwt.specs.Admission.{PolicyValue}
use Rattle.cose_cwt.specs.Requirements.{RequirementsValue}
use Rattle.cose_cwt.specs.declared.token.CwtStop.TheVariants as stops
use Rattle.cose_cwt.specs.Token.{Outcome, read_as}
use Rattle.cose_msg.specs.declared.verdict.Verdict.TheVariants.{Authentic, Refused}
use Rattle.cose_msg.specs.Answer.{Answer, decided, complete, shaped}
use Rattle.cose_msg.specs.Reading.{Reading}
use Rattle.cose_msg.specs.Sink.{AppendsFront}
use Rattle.cose_answers.specs.Faults.{WritesLine, fault_text}
use Rattle.cose_answers.specs.declared.fault.Fault.{Fault}
use Rattle.cose_answers.specs.declared.request.Printing.{Printing}
use Rattle.cose_answers.specs.declared.reply.Status.{Status}
use Rattle.cose_answers.specs.declared.reply.Status.TheVariants as statuses
use Rattle.cose_answers.specs.Printed.{Output, Prints, admitted_under, setting_under, token_setting, verified_under, with_keys}
use Rattle.cose_answers.specs.Under.{Under}
use Rattle.cose_answers.specs.Vouch.{vouching}

-- How the bytes of a message are read.
abbrev pub Reads : Type 0
Reads = List ℕ → Reading

-- The number of bytes of the shortest front that passes a test; of all bytes, where none does.
unfoldable pub front_size : (List ℕ → Bool) → List ℕ → ℕ
front_size test [] = 0
front_size test (byte ∷ bytes) = if test [] then 0 else suc (front_size (λ front. test (byte ∷ front)) bytes)

-- A message ends with the byte that settles it, and no byte after its end belongs to it. Where none settles it, it is all that
-- is left.
abbrev pub message_size : Reads → List ℕ → ℕ
message_size reads [] = 0
message_size reads (byte ∷ bytes) = suc (front_size (λ front. (reads (byte ∷ front)).settled) bytes)

abbrev pub first_message : Reads → List ℕ → List ℕ
first_message reads bytes = take (message_size reads bytes) bytes

abbrev pub after_first : Reads → List ℕ → List ℕ
after_first reads bytes = drop (message_size reads bytes) bytes

-- A message was read to its end where it is authentic, and where its tag or signature isn't good, which is looked at last. A
-- message that is refused for another reason wasn't, so where it ends isn't known.
abbrev pub is_bad_auth : Reason → Bool
is_bad_auth BadAuth = true
is_bad_auth _ = false

abbrev pub is_whole : Answer → Bool
is_whole (decided (Authentic kind alg payload taken)) = true
is_whole (decided (Refused refusal)) = is_bad_auth refusal.reason
is_whole (complete whole) = false
is_whole (shaped kind payload auth taken) = false

-- Where the claims of a token are refused, its message is authentic.
abbrev pub is_read_to_its_end : Outcome → Bool
is_read_to_its_end (Ok claims) = true
is_read_to_its_end (Err (stops.Claims refusal)) = true
is_read_to_its_end (Err (stops.Message refusal)) = is_bad_auth refusal.reason
is_read_to_its_end (Err (stops.Stopped stop)) = false

-- Before the lines of a message, one with its place in the input; and the last line, where the next message can't be found.
abbrev pub place_line : ℕ → List ℕ
place_line place = codes "at " ++ decimal place ++ codes "\n"

abbrev pub lost_line : ℕ → List ℕ
lost_line place = codes "ended at " ++ decimal place ++ codes ": the next message can't be found\n"

-- One output after the other. All are accepted where each is.
abbrev pub joined_status : Status → Status → Status
joined_status statuses.Done later = later
joined_status statuses.Refused later = statuses.Refused
joined_status statuses.Fault later = statuses.Fault

abbrev pub then_said : Output → Output → Output
then_said first later = record { text = first.text ++ later.text; status = joined_status first.status later.status }

abbrev pub nothing_said : Output
nothing_said = record { text = []; status = statuses.Done }

abbrev pub placed : ℕ → Output → Output
placed place said = record { text = place_line place ++ said.text; status = said.status }

abbrev pub lost : ℕ → Output
lost place = record { text = lost_line place; status = statuses.Refused }

-- The lines that a message at this place has alone, and then those of the messages after it, if these can be found.
abbrev pub message_then : Reads → (List ℕ → Output) → ℕ → List ℕ → Output → Output
message_then reads alone place message later =
    then_said (placed place (alone message)) (if is_whole (reads message).answer then later else lost place)

-- What is printed for at most so many messages, the first of which is at this place.
unfoldable pub messages_said : Reads → (List ℕ → Output) → ℕ → ℕ → List ℕ → Output
messages_said reads alone zero place bytes = nothing_said
messages_said reads alone (suc count) place [] = nothing_said
messages_said reads alone (suc count) place (byte ∷ bytes) =
    message_then reads alone place (first_message reads (byte ∷ bytes))
    (messages_said reads alone count (place + message_size reads (byte ∷ bytes)) (after_first reads (byte ∷ bytes)))

-- What is printed for all. Each of them has a byte at least.
abbrev pub messages_from : Reads → (List ℕ → Output) → ℕ → List ℕ → Output
messages_from reads alone place bytes = messages_said reads alone (length bytes) place bytes

abbrev pub sequence_said : Reads → (List ℕ → Output) → List ℕ → Output
sequence_said reads alone bytes = messages_from reads alone 0 bytes

-- The messages of an input, none of which has a detached payload.
abbrev pub verified_sequence : Under → List ℕ → Output
verified_sequence under bytes =
    with_keys under.keys (λ keys. sequence_said (read_as under.room.header under.room.nesting (setting_under under keys) (vouching under.vouch)) (verified_under under None) bytes)

-- Its tokens.
abbrev pub admitted_sequence : Under → PolicyValue → RequirementsValue → Printing → List ℕ → Output
admitted_sequence under policy requirements printing bytes =
    with_keys under.keys (λ keys. sequence_said (read_as under.room.header under.room.nesting (token_setting under.room.claims keys under.aad under.wanted) (vouching under.vouch)) (admitted_under under policy requirements printing) bytes)

-- What a run over a sequence has written that ends with status Fault: the line of a fault, perhaps after all that is printed for
-- a prefix of the input; or a prefix of that, where the output fails.
abbrev pub FailsAfter : (List ℕ → Output) → List ℕ → Option (List ℕ) → Option (List ℕ) → Type 0
FailsAfter said bytes old new = (fault : Fault) × (first : List ℕ) × (rest : List ℕ) × (bytes ≡ first ++ rest)
    × AppendsFront old new ((said first).text ++ (fault_text fault ++ codes "\n"))

abbrev pub FailsInSequence : (List ℕ → Output) → List ℕ → Option (List ℕ) → Option (List ℕ) → Type 0
FailsInSequence said bytes old new = ((fault : Fault) × WritesLine fault old new) ⊎ FailsAfter said bytes old new

-- A run over a sequence has printed the output for the input, unless there is a fault; and what it has written where there is one.
abbrev pub PrintsSequence : Option (List ℕ) → (List ℕ → Output) → Option (List ℕ) → Option (List ℕ) → Status → Type 0
PrintsSequence come said old new status = (bytes : List ℕ) → come ≡ Some bytes → Prints (said bytes) old new status

abbrev pub FailsOverSequence : Option (List ℕ) → (List ℕ → Output) → Option (List ℕ) → Option (List ℕ) → Status → Type 0
FailsOverSequence come said old new status = (bytes : List ℕ) → come ≡ Some bytes → status ≡ statuses.Fault → FailsInSequence said bytes old new
