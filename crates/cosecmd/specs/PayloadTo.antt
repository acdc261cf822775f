-- The new file that the arguments name for the payload of a message, and what a run has left of it.
use Rattle.std.specs.Prelude.{◌≡◌, ℕ, ◌<◌, ◌⊎◌, true, false, List, Option, Some, None, codes, if◌then◌else◌}
use Rattle.std.specs.Str.{bytes_eq}
use Rattle.clap.specs.Simple.{subcommand_rows_of}
use Rattle.clap.specs.Walk.{Text}
use Rattle.clap.specs.declared.parser.matches.ArgMatches.{ArgMatches}
use Rattle.cose_files.specs.NewFile.{Made, content_of}
use Rattle.cosecmd.specs.CommandLine.{IsFoundIn, ask_for_help}
use Rattle.cosecmd.specs.Fields.{checks_in}
use Rattle.cosecmd.specs.InputForm.{input_bytes}
use Rattle.cosecmd.specs.Options.{Options, text_in}
use Rattle.cose_answers.specs.Payload.{detached_in}
use Rattle.cose_answers.specs.PayloadTo.{Settles, kept_under, new_file_for, payload_under}
use Rattle.cose_answers.specs.Printed.{verified_for}
use Rattle.cose_answers.specs.Under.{Under, under_of}
use Rattle.cose_answers.specs.Requests.{asked_for, is_sequence, makes, payload_for}
use Rattle.cose_answers.specs.declared.request.Checks.{Checks}
use Rattle.cose_answers.specs.declared.request.Payload.{Payload}
use Rattle.cose_answers.specs.declared.request.Request.{Request}

-- The name of the new file that the arguments of `verify` name.
abbrev pub new_file_of : Option (Text × Options) → Option Text
new_file_of None = None
new_file_of (Some command) = if bytes_eq command.0 (codes "verify") then text_in (codes "payload-to") command.1 else None

-- A request to verify a message under these checks, with this payload, and to print the header parameters of these labels.
pub record AsksToVerify (labels : List (List ℕ)) (checks : Checks) (payload : Payload) (request : Request) : Type 0 where
  pub payload_is : (content : List ℕ → Option (List ℕ)) → payload_for content request ≡ detached_in content payload
  pub asked : (detached : Option (List ℕ)) (bytes : List ℕ) → asked_for request detached bytes ≡ verified_for labels (under_of checks) detached bytes
  pub makes_none : makes request ≡ false
  pub one : is_sequence request ≡ false
  pub kept : (name : List ℕ) → new_file_for request ≡ Some name → kept_under request ≡ Some (under_of checks)

-- A request that keeps a payload verifies its message under what the options say, where each argument is in order and the bytes
-- of a file that is named are known.
abbrev pub KeepsUnder : Option Under → Request → Type 0
KeepsUnder said request = (name : List ℕ) (under : Under) → new_file_for request ≡ Some name → said ≡ Some under → kept_under request ≡ Some under

abbrev pub checks_named : (List ℕ → Option (List ℕ)) → Option (Text × Options) → Option Under
checks_named content None = None
checks_named content (Some command) = checks_in content command.1

-- The new file is the one that the arguments name. Where they name none, none is made.
abbrev pub SettlesNamed : Option Text → Made → Made → ℕ → Type 0
SettlesNamed None old new status = new ≡ old
SettlesNamed (Some name) old new status = Settles name old new status

abbrev pub EndsWithFile : List Text → Made → Made → ℕ → Type 0
EndsWithFile words old new status = ((new ≡ old) × (status < 2 → ask_for_help words ≡ true))
    ⊎ ((matches : ArgMatches) × IsFoundIn words matches × SettlesNamed (new_file_of (subcommand_rows_of matches)) old new status)

-- After an accepting answer the new file that the arguments name holds the payload of the message.
abbrev pub KeepsPayload : (List ℕ → Option (List ℕ)) → List Text → List ℕ → Made → ℕ → Type 0
KeepsPayload content words bytes new status = (status < 2 → ask_for_help words ≡ true)
    ⊎ ((matches : ArgMatches) × IsFoundIn words matches
    × ((name : Text) (under : Under) → new_file_of (subcommand_rows_of matches) ≡ Some name → checks_named content (subcommand_rows_of matches) ≡ Some under → status ≡ 0 →
    content_of new ≡ Some (payload_under under (input_bytes matches bytes))))

-- Where the arguments name a new file, and none is made, nothing of the input is read, and there is a fault.
abbrev pub ReadsNothingBefore : {R : Type 0} → List Text → Made → Made → R → R → ℕ → Type 0
ReadsNothingBefore words made made_after old new status = (new ≡ old)
    ⊎ ((matches : ArgMatches) × IsFoundIn words matches
    × ((name : Text) → new_file_of (subcommand_rows_of matches) ≡ Some name → made_after.file ≡ made.file → (new ≡ old) × (status ≡ 2)))
