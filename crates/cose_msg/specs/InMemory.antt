-- A message in memory, of which each function reads what one phase does.
use Rattle.std.specs.Prelude.{ℕ, ◌+◌, List, length, Option, Some, None, Result, Ok, Err, if◌then◌else◌}
use Rattle.std.specs.Borrow.{Bor}
use Rattle.cose_head.specs.declared.refusal.Refusal.{Refusal}
use Rattle.cose_msg.specs.declared.further.rest.Rest.{Rest}
use Rattle.cose_msg.specs.declared.verdict.Verdict.TheVariants.{Refused}
use Rattle.cose_msg.specs.Answer.{Answer, decided}
use Rattle.cose_msg.specs.Reading.{Phase, is_truncated}
use Rattle.cose_msg.specs.Source.{Source, attached, detached}

-- The answer of a phase for the bytes that are left.
abbrev pub answer_at : Phase → Rest → Answer
answer_at phase rest = (phase rest.place rest.bytes.now).answer

-- How it goes on with what was read: a refusal is the answer, and a value is given to the phase after it.
abbrev pub going_on : {A : Type 0} → Result A Refusal → (A → Answer) → Answer
going_on (Ok value) next = next value
going_on (Err refusal) next = decided (Refused refusal)

-- A refusal of an item that begins here: it is Truncated where the bytes end.
abbrev pub placed_from : Rest → Refusal → Refusal
placed_from rest refusal = record {
  reason = refusal.reason;
  place = if is_truncated refusal.reason then rest.place + length rest.bytes.now else rest.place + refusal.place;
}

-- The payload is in the message, or these bytes are it, all of them.
abbrev pub source_in : Option (Bor (List ℕ)) → Source
source_in None = attached
source_in (Some payload) = detached payload.now (length payload.now)
