-- What is printed of a message whose payload comes from a reader, where the number of its bytes is stated.
use Rattle.std.specs.Prelude.{◌≡◌, ℕ, zero, suc, ◌<◌, ◌≤◌, Bool, true, List, length, take, Option, Some, Result, Ok, IfOk, codes, nat_lt, if◌then◌else◌}
use Rattle.std.specs.Io.KnownBytes.{Consumes, IsAtEnd}
use Rattle.cose_map.specs.Key.Value.{KeyValue}
use Rattle.cose_msg.specs.Message.{Decides, Setting, comparing, message}
use Rattle.cose_msg.specs.Source.{detached}
use Rattle.cose_answers.specs.declared.request.Question.{Question}
use Rattle.cose_answers.specs.declared.reply.Reply.{Reply}
use Rattle.cose_answers.specs.declared.reply.Status.TheVariants as statuses
use Rattle.cose_answers.specs.Printed.{Output, Says, answered_in, answered_under, setting_under, with_keys}
use Rattle.cose_answers.specs.Under.{Under}
use Rattle.cose_answers.specs.Vouch.{vouching}

-- The payload is detached: these bytes of it have come, and so many are stated.
abbrev pub stating : List ℕ → ℕ → Setting → Setting
stating came stated setting = record setting { source = detached came stated }

-- How many bytes of the payload the message of an input still wants, whatever decides on its signature.
abbrev pub payload_wanted_of : ℕ → ℕ → Setting → List ℕ → ℕ
payload_wanted_of header nesting setting bytes = (message (comparing header nesting setting) bytes).payload_wanted

abbrev pub fault_of_payload_file : Output
fault_of_payload_file = record { text = codes "fault file payload-file\n"; status = statuses.Fault }

abbrev pub unless_missing : ℕ → Output → Output
unless_missing zero output = output
unless_missing (suc missing) output = fault_of_payload_file

-- A reader has fewer bytes than are stated. A message that wants the missing ones has no answer: only one that is refused
-- before its nil, or that ends before it, has one.
abbrev pub answered_of_short : Question → ℕ → ℕ → Setting → Decides → List ℕ → Output
answered_of_short question header nesting setting decides bytes =
    unless_missing (payload_wanted_of header nesting setting bytes) (answered_in question header nesting setting decides bytes)

abbrev pub answered_short : Question → Under → ℕ → List ℕ → List ℕ → Output
answered_short question under stated content bytes =
    with_keys under.keys (λ keys. answered_of_short question under.room.header under.room.nesting (stating content stated (setting_under under keys)) (vouching under.vouch) bytes)

-- The payload is the first bytes of the reader, as many as are stated.
abbrev pub answered_from : Question → Under → ℕ → List ℕ → List ℕ → Output
answered_from question under stated content bytes =
    if nat_lt (length content) stated
    then answered_short question under stated content bytes
    else answered_under question under (Some (take stated content)) bytes

-- A reply to what is asked of the message of an input. These bytes came of what was to come of the payload, no more than are
-- stated; where the message wants more of them, the intake of the payload has ended.
pub record AnsweredOf (question : Question) (header nesting : ℕ) (setting : Setting) (decides : Decides) (stated : ℕ) (bytes : List ℕ) (come come_after : Option (List ℕ)) (ended : Bool) (reply : Reply) : Type 0 where
  pub came : List ℕ
  pub consumes : Consumes come come_after came
  pub within : length came ≤ stated
  pub ends : 0 < payload_wanted_of header nesting (stating came stated setting) bytes → (ended ≡ true) × IsAtEnd come_after
  pub says : Says (answered_in question header nesting (stating came stated setting) decides bytes) reply

-- A call answers so, where the bytes of the input are known to the contract, and the key set isn't refused.
abbrev pub RepliesWith : {F : Type 0} → Question → Under → ℕ → Option (List ℕ) → Option (List ℕ) → Option (List ℕ) → Bool → Result Reply F → Type 0
RepliesWith question under stated input come come_after ended result =
    (bytes : List ℕ) (keys : List KeyValue) → input ≡ Some bytes → under.keys ≡ Ok keys →
    IfOk result (AnsweredOf question under.room.header under.room.nesting (setting_under under keys) (vouching under.vouch) stated bytes come come_after ended)
