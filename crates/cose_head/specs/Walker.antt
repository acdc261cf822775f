-- The meaning of a walker.
use Rattle.std.specs.Prelude.{◌≡◌, ℕ, ◌+◌, ◌-◌, ◌<◌, ◌≤◌, List, [], ◌++◌, length, Result, Ok, Err}
use Rattle.cose_head.specs.declared.reason.Reason.{Reason}
use Rattle.cose_head.specs.declared.reason.Reason.TheVariants.{Truncated}
use Rattle.cose_head.specs.declared.walker.Walker.{Walker}
use Rattle.cose_head.specs.declared.walker.Progress.{Progress}
use Rattle.cose_head.specs.declared.walker.Progress.TheVariants.{Open, Whole}
use Rattle.cose_head.specs.declared.walker.Step.{Step}
use Rattle.cose_head.specs.declared.walker.Step.TheVariants.{Going, Done, Fault}
use Rattle.cose_head.specs.Item.{Item}
use Rattle.cose_head.specs.Measured.{left_of}
use Rattle.cose_head.specs.Reading.{Left, Outcome, refuse}
use Rattle.cose_head.specs.Walking.{Walk, refused, walk, finish, rest_of_item}

-- The last answer.
abbrev pub last_step : {D : ℕ} → Walker D → Step
last_step w = w.step

-- The answer, by how far the item is. A fault has this place.
abbrev pub step_after : Result Progress Reason → ℕ → Step
step_after (Ok Open) place = Going
step_after (Ok Whole) place = Done
step_after (Err reason) place = Fault (record { reason = reason; place = place })

-- How many arrays, maps and tags are open: those that it counts, and none once the item is whole or refused.
abbrev pub open_while : Step → ℕ → ℕ
open_while Going n = n
open_while Done n = 0
open_while (Fault refusal) n = 0

abbrev pub open_now : {D : ℕ} → Walker D → ℕ
open_now w = open_while (last_step w) (length w.counts.items)

-- The rest of the reading, as a function of the bytes to come.
abbrev pub go_on : ℕ → List ℕ → List ℕ → ℕ → Left → Walk
go_on depth counts half string l = finish depth counts (rest_of_item (depth - length counts) half string l)

abbrev pub left_at : {D : ℕ} → Walker D → List ℕ → Left
left_at w bytes = left_of bytes w.room w.place

unfoldable pub resume : {D : ℕ} → Walker D → List ℕ → Walk
resume {D} w bytes = go_on D w.counts.items w.half.items w.string (left_at w bytes)

-- The bytes that were put end too early, and there is room for a further byte.
abbrev pub Waits : {D : ℕ} → Walker D → Type 0
Waits w = ((resume w []).end ≡ refused Truncated (w.place + length w.half.items)) × (length w.half.items < w.room)

-- Some bytes were counted as used, and nothing else has changed.
pub record Passes {D : ℕ} (old new : Walker D) (count : ℕ) : Type 0 where
  pub counts : new.counts ≡ old.counts
  pub half : new.half ≡ old.half
  pub string : new.string ≡ old.string
  pub room : new.room ≡ old.room - count
  pub place : new.place ≡ old.place + count

-- The half head is empty, and this is the room left and the place.
pub record IsAt {D : ℕ} (rest at : ℕ) (w : Walker D) : Type 0 where
  pub half : length w.half.items ≡ 0
  pub room : w.room ≡ rest
  pub place : w.place ≡ at

-- The rest of the reading before a byte is put is the rest that the walker has after it.
abbrev pub Leads : {D : ℕ} → (List ℕ → Walk) → Result Progress Reason → Walker D → Type 0
Leads before (Ok Open) w = ((bytes : List ℕ) → before bytes ≡ resume w bytes) × Waits w
Leads before (Ok Whole) w = (length w.half.items ≡ 0) × ((bytes : List ℕ) → (before bytes).end ≡ Ok (left_at w bytes))
Leads before (Err reason) w = (reason ≡ Truncated → ⊥) × ((bytes : List ℕ) → (before bytes).end ≡ refused reason w.place)

-- The walker was put these bytes, and is Going: whatever bytes follow, reading them all is the rest of the reading
-- after them.
--
-- Only the calls `new`, `put` and `pass` ensure it: `new` of no bytes, each `put` that answers Going of one byte more,
-- and each `pass` after which the walker is Going of the bytes that it took. It speaks of the walker's private fields.
-- So the caller has it of a walker that it made and put the bytes, and keeps it together with the list of these bytes.
-- Of any other walker the caller knows it only where a contract says it. After Done or a fault it doesn't hold any
-- more, and no call brings it back.
pub record HasPut (room : ℕ) (put : List ℕ) {D : ℕ} (w : Walker D) : Type 0 where
  pub rest : (bytes : List ℕ) → walk D (left_of (put ++ bytes) room 0) ≡ resume w bytes
  pub taken : w.place + length w.half.items ≡ length put
  pub left : w.place + w.room ≡ room
  pub waits : 0 < room → Waits w
  pub is_going : last_step w ≡ Going

-- The answer of reading that a step says.
abbrev pub Answers : ℕ → List ℕ → Step → Outcome Item → Type 0
Answers room bytes Going read = read ≡ refuse Truncated (length bytes)
Answers room bytes Done read = (found : Item) × (read ≡ Ok (found, left_of [] (room - length bytes) (length bytes)))
Answers room bytes (Fault refusal) read = (read ≡ Err refusal) × (refusal.reason ≡ Truncated → ⊥)

-- A place is within the bytes, a complete item has fitted in the room, and where more is wanted there is room for more.
abbrev pub IsAmong : ℕ → List ℕ → Step → Type 0
IsAmong room bytes Going = length bytes < room
IsAmong room bytes Done = length bytes ≤ room
IsAmong room bytes (Fault refusal) = refusal.place ≤ length bytes
