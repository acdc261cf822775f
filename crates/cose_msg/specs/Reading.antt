-- The reading of the bytes of a message, phase by phase. A phase is a function of its place and of the bytes that begin
-- there, and gives the reading of all of them: it knows the phases after it.
use Rattle.std.specs.Prelude.{ℕ, ◌+◌, ◌-◌, max, Bool, true, false, List, length, take, drop, Option, Some, None, Result, Ok, Err, nat_lt, if◌then◌else◌}
use Rattle.cose_head.specs.declared.head.Head.{Head}
use Rattle.cose_head.specs.declared.head.HeadStep.{HeadStep}
use Rattle.cose_head.specs.declared.head.HeadStep.TheVariants.{Got, More, Fault}
use Rattle.cose_head.specs.declared.reason.Reason.{Reason}
use Rattle.cose_head.specs.declared.reason.Reason.TheVariants.{Truncated}
use Rattle.cose_head.specs.declared.refusal.Refusal.{Refusal}
use Rattle.cose_head.specs.Head.{bare_head}
use Rattle.cose_head.specs.Item.{Item}
use Rattle.cose_head.specs.Measured.{left_of}
use Rattle.cose_head.specs.Open.{Open, open_in}
use Rattle.cose_head.specs.Reading.{Outcome, read}
use Rattle.cose_map.specs.Map.Pairs.{Pair}
use Rattle.cose_msg.specs.Answer.{Answer, refused}

-- What is known of a message so far: the pairs of each header bucket, once it was found good, and the bytes of the
-- payload that are there. Where the bytes end in the unprotected bucket, how many of its arrays, maps and tags are open
-- there: their head was taken, and their end wasn't.
pub record Findings : Type 0 where
  pub protected : Option (List Pair)
  pub unprotected : Option (List Pair)
  pub payload : List ℕ
  pub open_items : ℕ

-- The answer; whether no further byte of the message can change it; how many further bytes are wanted for certain, fewer
-- of which don't settle it; how many bytes of a detached payload are wanted; and what is known.
pub record Reading : Type 0 where
  pub answer : Answer
  pub settled : Bool
  pub wanted : ℕ
  pub payload_wanted : ℕ
  pub so_far : Findings

abbrev pub Phase : Type 0
Phase = ℕ → List ℕ → Reading

-- A phase after a value: it is given the place of that value too.
abbrev pub Next : Type 0 → Type 0
Next A = ℕ → A → Phase

abbrev pub settled : Findings → Answer → Reading
settled so_far answer = record { answer = answer; settled = true; wanted = 0; payload_wanted = 0; so_far = so_far }

abbrev pub stop : Findings → Reason → ℕ → Reading
stop so_far reason place = settled so_far (refused reason place)

-- The bytes end before the phase does: Truncated at their number.
abbrev pub cut : Findings → ℕ → ℕ → Reading
cut so_far wanted place = record { answer = refused Truncated place; settled = false; wanted = wanted; payload_wanted = 0; so_far = so_far }

-- So many bytes of a detached payload are missing. No byte of the message is of use before they have come; where they don't
-- come, the message is Truncated at this place.
abbrev pub awaits : Findings → ℕ → ℕ → Reading
awaits so_far missing place = record { answer = refused Truncated place; settled = true; wanted = 0; payload_wanted = missing; so_far = so_far }

-- A head outside an item (RFC 8949 section 3). It wants one byte after the other.
abbrev pub past_head : Findings → Next Head → ℕ → List ℕ → HeadStep → Reading
past_head so_far next place bytes (Got head used) = next place head (place + used) (drop used bytes)
past_head so_far next place bytes (More wanted) = cut so_far 1 (place + length bytes)
past_head so_far next place bytes (Fault reason) = stop so_far reason place

unfoldable pub with_head : Findings → Next Head → Phase
with_head so_far next place bytes = past_head so_far next place bytes (bare_head bytes)

-- A string of n bytes. What is known depends on those of them that are there, and those that are left are wanted.
unfoldable pub with_string : (List ℕ → Findings) → ℕ → Next (List ℕ) → Phase
with_string so_far n next place bytes =
    if nat_lt (length bytes) n then cut (so_far bytes) (n - length bytes) (place + length bytes) else
    next place (take n bytes) (place + n) (drop n bytes)

-- What of an item is open after these bytes of it: how many of its arrays, maps and tags; and how many bytes are
-- wanted: what is left of a string of it where they end in one, and otherwise one.
abbrev pub open_after : ℕ → ℕ → List ℕ → Open
open_after room nesting bytes = open_in nesting (left_of bytes room 0)

abbrev pub open_items_after : ℕ → ℕ → List ℕ → ℕ
open_items_after room nesting bytes = (open_after room nesting bytes).items

abbrev pub wanted_after : ℕ → ℕ → List ℕ → ℕ
wanted_after room nesting bytes = max 1 (open_after room nesting bytes).content

-- An item within a room and a nesting allowance. What is known, and what is wanted, depends on what of it is open where
-- the bytes end.
abbrev pub is_truncated : Reason → Bool
is_truncated Truncated = true
is_truncated _ = false

abbrev pub past_item : (ℕ → Findings) → Open → Next (List ℕ) → ℕ → List ℕ → Outcome Item → Reading
past_item so_far still next place bytes (Ok found) =
    next place (take found.1.place bytes) (place + found.1.place) (drop found.1.place bytes)
past_item so_far still next place bytes (Err refusal) =
    if is_truncated refusal.reason then cut (so_far still.items) (max 1 still.content) (place + length bytes) else
    stop (so_far 0) refusal.reason (place + refusal.place)

unfoldable pub with_item : (ℕ → Findings) → ℕ → ℕ → Next (List ℕ) → Phase
with_item so_far room nesting next place bytes =
    past_item so_far (open_after room nesting bytes) next place bytes (read nesting (left_of bytes room 0))

-- A test, which needs no byte: a fault, or the next phase.
abbrev pub unless : Findings → Option Refusal → Phase → Phase
unless so_far (Some refusal) next place bytes = stop so_far refusal.reason refusal.place
unless so_far None next place bytes = next place bytes

abbrev pub unless_fault : Findings → ℕ → Option Reason → Phase → Phase
unless_fault so_far at (Some reason) next place bytes = stop so_far reason at
unless_fault so_far at None next place bytes = next place bytes

-- A value that such a test gives.
abbrev pub with_value : {A : Type 0} → Findings → Result A Refusal → (A → Phase) → Phase
with_value so_far (Err refusal) next place bytes = stop so_far refusal.reason refusal.place
with_value so_far (Ok value) next place bytes = next value place bytes
