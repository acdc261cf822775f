-- The payload of a message, which is kept in a new file where the message is authentic.
use Rattle.std.specs.Prelude.{◌≡◌, ℕ, ◌⊎◌, true, List, [], Option, Some, None, Result, Ok, Err, IfOk, ⊤, codes}
use Rattle.std.specs.Io.KnownBytes.{Appends}
use Rattle.cose_files.specs.NewFile.{Made, Stands}
use Rattle.cose_files.specs.declared.new_file.Standing.TheVariants as standings
use Rattle.cose_map.specs.Key.Value.{KeyValue}
use Rattle.cose_map.specs.Map.Read.{Read}
use Rattle.cose_msg.specs.Message.{Decides, Setting, message, verifying}
use Rattle.cose_msg.specs.Sink.{AppendsFront}
use Rattle.cose_answers.specs.Printed.{setting_under}
use Rattle.cose_answers.specs.Under.{Under, under_of}
use Rattle.cose_answers.specs.Vouch.{vouching}
use Rattle.cose_answers.specs.declared.fault.Fault.{Fault}
use Rattle.cose_answers.specs.declared.fault.Fault.TheVariants as faults
use Rattle.cose_answers.specs.declared.request.Request.{Request}
use Rattle.cose_answers.specs.declared.request.Request.TheVariants as asks

-- The payload of the message that begins an input, in buckets of at most `header` bytes that nest at most `nesting` deep: of an
-- authentic message all of it, and of any other its bytes that are there.
abbrev pub payload_in : ℕ → ℕ → Setting → Decides → List ℕ → List ℕ
payload_in header nesting setting decides bytes = (message (verifying header nesting setting decides) bytes).so_far.payload

abbrev pub payload_where_read : Under → Read (List KeyValue) → List ℕ → List ℕ
payload_where_read under (Ok keys) bytes = payload_in under.room.header under.room.nesting (setting_under under keys) (vouching under.vouch) bytes
payload_where_read under (Err refusal) bytes = []

abbrev pub payload_under : Under → List ℕ → List ℕ
payload_under under bytes = payload_where_read under under.keys bytes

-- Where the bytes to come are known to the contract, exactly the payload of these was written, unless there is a fault.
abbrev pub PutsPayload : {A : Type 0} → Option (List ℕ) → (List ℕ → List ℕ) → Option (List ℕ) → Option (List ℕ) → Result A Fault → Type 0
PutsPayload come payload old new result = (bytes : List ℕ) → come ≡ Some bytes → IfOk result (λ _. Appends old new (payload bytes))

-- The fault of the new file, or of memory for it.
abbrev pub IsOfNewFile : Fault → Type 0
IsOfNewFile faults.Memory = ⊤
IsOfNewFile (faults.File option) = option.now ≡ codes "payload-to"
IsOfNewFile _ = ⊥

-- Its line was written, or a prefix of it where the output failed.
abbrev pub WritesFileFault : Option (List ℕ) → Option (List ℕ) → Type 0
WritesFileFault old new = AppendsFront old new (codes "fault file payload-to\n") ⊎ AppendsFront old new (codes "fault memory\n")

-- The new file of a request.
abbrev pub new_file_for : Request → Option (List ℕ)
new_file_for (asks.Keep checks name) = Some name.now
new_file_for (asks.Show limits wanted details) = None
new_file_for (asks.Message question checks payload) = None
new_file_for (asks.MessageSequence checks) = None
new_file_for (asks.Cwt words) = None
new_file_for (asks.TokenSequence words) = None
new_file_for (asks.Keys words) = None
new_file_for (asks.Make words) = None

-- What the message is verified under whose payload a request keeps.
abbrev pub kept_under : Request → Option Under
kept_under (asks.Keep checks name) = Some (under_of checks)
kept_under (asks.Show limits wanted details) = None
kept_under (asks.Message question checks payload) = None
kept_under (asks.MessageSequence checks) = None
kept_under (asks.Cwt words) = None
kept_under (asks.TokenSequence words) = None
kept_under (asks.Keys words) = None
kept_under (asks.Make words) = None

-- What a run that ends with this status has left of the file of this name: it is kept after an accepting answer alone. After a
-- fault it may be that none was made, or that the system doesn't remove it. Where the name exists, none is made.
pub record Settles (name : List ℕ) (old new : Made) (status : ℕ) : Type 0 where
  pub kept : status ≡ 0 → Stands name standings.Kept new
  pub refused : status ≡ 1 → Stands name standings.Gone new
  pub fault : status ≡ 2 → (new.file ≡ old.file) ⊎ (Stands name standings.Gone new ⊎ Stands name standings.Stuck new)
  pub taken : new.is_taken ≡ Some true → new.file ≡ old.file
