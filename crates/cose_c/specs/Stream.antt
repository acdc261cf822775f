-- A verifier in a block, which is there once the block is opened, and what a caller gets of it.
use Rattle.std.specs.Prelude.{◌≡◌, ℕ, ℤ, pos, ◌+◌, ◌-◌, ◌^◌, ◌==◌, if◌then◌else◌, Bool, false, ◌&&◌, not, List, [], Option, Some, None, Result, Ok, Err}
use Rattle.std.specs.Ordering.{int_eq}
use Rattle.cose_map.specs.declared.keys.KeyMeaning.{Ghosts}
use Rattle.cose_msg.specs.declared.status.Status.{Status}
use Rattle.cose_msg.specs.declared.status.Status.TheVariants as statuses
use Rattle.cose_msg.specs.declared.verdict.Stop.{Stop}
use Rattle.cose_msg.specs.declared.verdict.Verdict.{Verdict}
use Rattle.cose_msg.specs.declared.verifier.Verifier.{Verifier}
use Rattle.cose_msg.specs.Answer.{decided}
use Rattle.cose_msg.specs.Feed.{part_of}
use Rattle.cose_msg.specs.Kept.{HasTaken, bytes_taken, is_inspecting, kept_answer}
use Rattle.cose_msg.specs.Message.{Setting, message}
use Rattle.cose_msg.specs.Reading.{Reading}
use Rattle.cose_msg.specs.Shown.{ShowsReading, SignInput, held, sign_input_of}
use Rattle.cose_msg.specs.Status.{is_complete, is_more, is_open, payload_wanted_in, status_in, status_of_reading, wanted_in}
use Rattle.cose_msg.specs.Task.{Task, rules_of, to_verify}
use Rattle.cose_msg.specs.Verifier.{detaching, task_of}
use Rattle.cose_c.specs.declared.numbers.CoseStatus.{CoseStatus}
use Rattle.cose_c.specs.declared.numbers.CoseVerdict.{CoseVerdict}
use Rattle.cose_c.specs.declared.stream.CoseFed.{CoseFed}
use Rattle.cose_c.specs.Numbers.{always_authentic, plain_status, refused_status, verdict_numbers}

-- The verifier, of header buckets of at most so many bytes, nested at most so deep, under keys of this type and what they mean; none where
-- the block isn't opened.
abbrev pub Content : ℕ → ℕ → (S : Type 0) → Ghosts S → Type 0
Content room nesting S K = Option (Verifier room nesting S K)

-- It has taken these bytes of a message, the payload's among them (or apart from them, where it is detached), and its getters give what
-- their reading gives. A block that isn't opened has taken none.
abbrev pub HasRead : {H D : ℕ} {S : Type 0} {K : _} → Task → List ℕ → List ℕ → Content H D S K → Type 0
HasRead task taken payload None = ⊥
HasRead task taken payload (Some v) = HasTaken task taken payload v × ShowsReading task taken v

-- ---- opening

-- The status of a block that is opened in this setting, or why it isn't.
abbrev pub opening_status : Result Setting CoseStatus → CoseStatus
opening_status (Ok setting) = plain_status 0
opening_status (Err status) = status

-- It is opened in this setting, and has taken nothing; or it isn't opened, whatever it was before.
abbrev pub IsOpened : {H D : ℕ} {S : Type 0} {K : _} → Result Setting CoseStatus → Content H D S K → Type 0
IsOpened (Ok setting) content = HasRead (to_verify setting) [] [] content
IsOpened (Err status) content = content ≡ None

-- The same, of a message whose payload is detached and has so many bytes.
abbrev pub detached_given : ℕ → Result Setting CoseStatus → Result Setting CoseStatus
detached_given payload_length (Ok setting) = Ok (detaching payload_length setting)
detached_given payload_length (Err status) = Err status

-- ---- the status

abbrev pub status_numbers : Status → CoseStatus
status_numbers statuses.More = plain_status 0
status_numbers statuses.PayloadNext = plain_status 6
status_numbers (statuses.Refused refusal) = refused_status 3 refusal
status_numbers statuses.Complete = plain_status 7
status_numbers statuses.Stopped = plain_status 11

-- The reading of these bytes of a message, and its status, by definition.
abbrev pub reading_of : ℕ → ℕ → Task → List ℕ → Reading
reading_of room nesting task taken = message (rules_of room nesting task) taken

abbrev pub status_after : ℕ → ℕ → Task → List ℕ → Status
status_after room nesting task taken = status_of_reading (reading_of room nesting task taken)

-- The status of a block: 10 where it isn't opened.
abbrev pub block_status : {H D : ℕ} {S : Type 0} {K : _} → Content H D S K → CoseStatus
block_status None = plain_status 10
block_status (Some v) = status_numbers (status_in v)

-- Whether bytes of the message are wanted, whether any are, and whether there is a verdict to ask for.
abbrev pub wants_more : {H D : ℕ} {S : Type 0} {K : _} → Content H D S K → Bool
wants_more None = false
wants_more (Some v) = is_more (status_in v)

abbrev pub wants_any : {H D : ℕ} {S : Type 0} {K : _} → Content H D S K → Bool
wants_any None = false
wants_any (Some v) = is_open (status_in v)

abbrev pub is_decidable : {H D : ℕ} {S : Type 0} {K : _} → Verifier H D S K → Bool
is_decidable v = is_complete (status_in v) && not (is_inspecting v)

abbrev pub has_verdict : {H D : ℕ} {S : Type 0} {K : _} → Content H D S K → Bool
has_verdict None = false
has_verdict (Some v) = is_decidable v

-- ---- feeding

abbrev pub nothing_fed : CoseStatus → CoseFed
nothing_fed status = record { status = status; used = 0; payload_at = 0; payload_length = 0 }

-- The payload's bytes of a piece that was fed.
abbrev pub payload_fed : CoseFed → List ℕ → List ℕ
payload_fed fed piece = part_of piece fed.payload_at (fed.payload_at + fed.payload_length)

-- ---- numbers, which are 0 where the block isn't opened

abbrev pub wanted_by : {H D : ℕ} {S : Type 0} {K : _} → Content H D S K → ℕ
wanted_by None = 0
wanted_by (Some v) = wanted_in v

abbrev pub payload_wanted_by : {H D : ℕ} {S : Type 0} {K : _} → Content H D S K → ℕ
payload_wanted_by None = 0
payload_wanted_by (Some v) = payload_wanted_in v

abbrev pub taken_by : {H D : ℕ} {S : Type 0} {K : _} → Content H D S K → ℕ
taken_by None = 0
taken_by (Some v) = bytes_taken v

abbrev pub held_by : {H D : ℕ} {S : Type 0} {K : _} → Content H D S K → ℕ
held_by None = 0
held_by (Some v) = held v

-- ---- the verdict

abbrev pub signed_by : {H D : ℕ} {S : Type 0} {K : _} → Content H D S K → Option SignInput
signed_by None = None
signed_by (Some v) = sign_input_of v

-- 1 says that the signature is good, and no other number does.
abbrev pub says_good : ℤ → Bool
says_good number = int_eq number (pos 1)

abbrev pub answer_kept_by : {H D : ℕ} {S : Type 0} {K : _} → Content H D S K → Option (Result Verdict Stop)
answer_kept_by None = None
answer_kept_by (Some v) = kept_answer v

-- The verdict that a caller gets is the one that the block keeps.
abbrev pub Keeps : {H D : ℕ} {S : Type 0} {K : _} → CoseVerdict → Content H D S K → Type 0
Keeps verdict content = (kept : Verdict) × (answer_kept_by content ≡ Some (Ok kept)) × (verdict ≡ verdict_numbers always_authentic 0 (decided kept))

-- ---- the next message

-- The number of the message after that of this number. It is another one.
abbrev pub following : ℕ → ℕ
following message = if message == 2 ^ 64 - 1 then 0 else message + 1

-- What the verifier was made for.
abbrev pub task_by : {H D : ℕ} {S : Type 0} {K : _} → Content H D S K → Option Task
task_by None = None
task_by (Some v) = Some (task_of v)

-- It has taken nothing of the next message, under the same keys. A block that isn't opened stays so.
abbrev pub IsAnew : {H D : ℕ} {S : Type 0} {K : _} → Option Task → Content H D S K → Type 0
IsAnew None content = content ≡ None
IsAnew (Some task) content = HasRead task [] [] content
