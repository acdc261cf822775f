-- What `make` has written where it ends with status 2.
use Rattle.std.specs.Prelude.{◌≡◌, ◌⊎◌, ℕ, List, Option}
use Rattle.cose_msg.specs.Sink.{AppendsFront, IsPrefix}
use Rattle.cose_answers.specs.Faults.{WritesLine}
use Rattle.cose_answers.specs.Printed.{Output}
use Rattle.cose_answers.specs.declared.fault.Fault.{Fault}
use Rattle.cose_answers.specs.declared.reply.Status.TheVariants as statuses

-- Of these two inputs one is a prefix of the other.
abbrev pub AgreeInFront : List ℕ → List ℕ → Type 0
AgreeInFront input other = IsPrefix other input ⊎ IsPrefix input other

-- Where it stopped after its message was begun: a prefix of the message for each input that has this one's bytes, as far as both
-- go. So no line follows what was written.
abbrev pub LeavesPrefix : (List ℕ → Output) → List ℕ → Option (List ℕ) → Option (List ℕ) → Type 0
LeavesPrefix said bytes old new = (other : List ℕ) → AgreeInFront bytes other → (said other).status ≡ statuses.Done → AppendsFront old new (said other).text

-- The line of a fault alone, or such a prefix.
abbrev pub StopsMaking : (List ℕ → Output) → List ℕ → Option (List ℕ) → Option (List ℕ) → Type 0
StopsMaking said bytes old new = ((fault : Fault) × WritesLine fault old new) ⊎ LeavesPrefix said bytes old new
