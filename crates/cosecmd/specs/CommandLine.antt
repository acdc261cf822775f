-- What the program prints for the options of a command that clap found, and how it ends: where each argument is in order,
-- and the bytes of the files that are named are known.
use Rattle.std.specs.Prelude.{◌≡◌, ◌≢◌, ◌⊎◌, ◌<◌, ◌||◌, ℕ, Bool, true, false, List, [], ◌∷◌, length, take, Option, Some, None, codes, string_bytes, if◌then◌else◌}
use Rattle.std.specs.Str.{bytes_eq}
use Rattle.clap.specs.Built.{IsParsedFrom}
use Rattle.clap.specs.Matches.{subcommand_name_of}
use Rattle.clap.specs.Simple.{HasMatchesOf, app_of, subcommand_rows_of}
use Rattle.clap.specs.Walk.{Text}
use Rattle.clap.specs.declared.builder.command.Command.{Command}
use Rattle.clap.specs.declared.parser.matches.ArgMatches.{ArgMatches}
use Rattle.cose_map.specs.Key.{key_of}
use Rattle.cose_msg.specs.Sink.{AppendsFront}
use Rattle.cose_answers.specs.Admitted.{program_policy}
use Rattle.cose_answers.specs.Faults.{WritesLine}
use Rattle.cosecmd.specs.Options.{Options, ◌>>=◌, algorithm_in, bytes_in, details_in, flag_in, integer_in, key_in, key_set_in, kind_in, limits_in, message_in, number_in, optional_bytes_in, payload_in, printing_in, text_in}
use Rattle.cosecmd.specs.Fields.{checks_in, digest_checks_in}
use Rattle.cosecmd.specs.Headers.{labels_in}
use Rattle.cosecmd.specs.InputForm.{input_bytes}
use Rattle.cose_answers.specs.MakeStops.{StopsMaking}
use Rattle.cose_answers.specs.Printed.{Admits, EndsWith, Fails, Output, admitted_under, digested_under, keys_said, made_under, shown, verified_for}
use Rattle.cosecmd.specs.Requirements.{requirements_in}
use Rattle.cose_answers.specs.Sequence.{FailsInSequence, admitted_sequence, verified_sequence}
use Rattle.cose_answers.specs.Requests.{asked_for, is_sequence, makes, payload_for}
use Rattle.cose_answers.specs.declared.fault.Fault.{Fault}
use Rattle.cose_answers.specs.declared.reply.Status.TheVariants as statuses
use Rattle.cose_answers.specs.declared.request.Request.{Request}
use Rattle.cosecmd.specs.declared.arguments.Parsed.{Parsed}
use Rattle.cosecmd.specs.declared.arguments.Parsed.TheVariants.{Matches, Text as Reply}

abbrev pub message_prints : (List ℕ → Option (List ℕ)) → Options → List ℕ → Option Output
message_prints content options bytes = do
  under ← checks_in content options
  payload ← payload_in content options
  Some (verified_for (labels_in options) under payload bytes)

-- Each message of a sequence has its payload.
abbrev pub sequence_prints : (List ℕ → Option (List ℕ)) → Options → List ℕ → Option Output
sequence_prints content options bytes = do
  under ← checks_in content options
  Some (verified_sequence under bytes)

abbrev pub verify_prints : (List ℕ → Option (List ℕ)) → Options → List ℕ → Option Output
verify_prints content options bytes =
    if flag_in (codes "sequence") options then sequence_prints content options bytes else message_prints content options bytes

abbrev pub tokens_print : Admits → (List ℕ → Option (List ℕ)) → Options → List ℕ → Option Output
tokens_print admits content options bytes = do
  under ← checks_in content options
  now ← integer_in (codes "now") options
  leeway ← number_in (codes "leeway") options
  requirements ← requirements_in now leeway options
  Some (admits under (program_policy now leeway (text_in (codes "aud") options)) requirements (printing_in options) bytes)

abbrev pub cwt_prints : (List ℕ → Option (List ℕ)) → Options → List ℕ → Option Output
cwt_prints content options bytes =
    if flag_in (codes "sequence") options then tokens_print admitted_sequence content options bytes else tokens_print admitted_under content options bytes

abbrev pub digest_prints : (List ℕ → Option (List ℕ)) → Options → List ℕ → Option Output
digest_prints content options bytes = do
  under ← digest_checks_in content options
  payload ← payload_in content options
  Some (digested_under under payload bytes)

abbrev pub keys_prints : (List ℕ → Option (List ℕ)) → Options → List ℕ → Option Output
keys_prints content options bytes = do
  keys ← key_set_in content options
  Some (keys_said (message_in options) keys bytes)

abbrev pub make_prints : (List ℕ → Option (List ℕ)) → Options → List ℕ → Option Output
make_prints content options bytes = do
  alg ← algorithm_in options
  key ← key_in content options
  payload_length ← number_in (codes "length") options
  kid ← optional_bytes_in (codes "kid") options
  aad ← bytes_in (codes "aad") options
  Some (made_under (key_of (record { bytes = key; place = 0 })) alg payload_length kid aad bytes)

-- By the name of the command and its options.
abbrev pub command_prints : (List ℕ → Option (List ℕ)) → Text → Options → List ℕ → Option Output
command_prints content name options bytes =
    if bytes_eq name (codes "show") then Some (shown (limits_in options) (kind_in options) (details_in options) bytes)
    else if bytes_eq name (codes "verify") then verify_prints content options bytes
    else if bytes_eq name (codes "cwt") then cwt_prints content options bytes
    else if bytes_eq name (codes "digest") then digest_prints content options bytes
    else if bytes_eq name (codes "keys") then keys_prints content options bytes
    else if bytes_eq name (codes "make") then make_prints content options bytes
    else None

abbrev pub line_prints : (List ℕ → Option (List ℕ)) → Option (Text × Options) → List ℕ → Option Output
line_prints content None bytes = None
line_prints content (Some command) bytes = command_prints content command.0 command.1 bytes

-- What is printed for what clap found in a command line.
abbrev pub matches_print : (List ℕ → Option (List ℕ)) → ArgMatches → List ℕ → Option Output
matches_print content matches bytes = line_prints content (subcommand_rows_of matches) bytes

-- Whether the command has the option `--sequence`.
abbrev pub has_sequence : Option (Text × Options) → Bool
has_sequence None = false
has_sequence (Some command) = flag_in (codes "sequence") command.1

abbrev pub is_of_sequence : ArgMatches → Bool
is_of_sequence matches = has_sequence (subcommand_rows_of matches)

-- A request for which this is printed, with the payload that it names.
abbrev pub AsksFor : (List ℕ → Option (List ℕ)) → Request → List ℕ → Output → Type 0
AsksFor content request bytes said = (payload : Option (List ℕ)) × (payload_for content request ≡ Some payload) × (asked_for request payload bytes ≡ said)

-- What clap finds in these arguments: what its contract says of it, for the command that it is given.
abbrev pub IsFoundIn : List Text → ArgMatches → Type 0
IsFoundIn words matches = (command : Command) × IsParsedFrom command matches × HasMatchesOf (app_of command) words matches

abbrev pub begins_with : Text → Text → Bool
begins_with word text = bytes_eq word (take (length word) text)

-- An answer begins with one of these words. No text of clap's does.
abbrev pub begins_as_answer : Text → Bool
begins_as_answer text =
    begins_with (codes "authentic ") text || begins_with (codes "refused ") text || begins_with (codes "admitted") text || begins_with (codes "shape ") text || begins_with (codes "detached at ") text || begins_with (codes "vouch ") text || begins_with (codes "key at ") text || begins_with (codes "at ") text

-- A word that asks for help or for the version.
abbrev pub is_for_help : Text → Bool
is_for_help word =
    bytes_eq word (codes "help") || begins_with (codes "--help") word || begins_with (codes "--version") word || begins_with (codes "-h") word || begins_with (codes "-V") word

-- Whether one of these words does.
abbrev pub ask_for_help : List Text → Bool
ask_for_help [] = false
ask_for_help (word ∷ words) = is_for_help word || ask_for_help words

-- A text of clap's is help or the version, where the arguments ask for one of them, or says what is wrong with the arguments.
abbrev pub IsReadFrom : List Text → Parsed → Type 0
IsReadFrom words (Matches matches) = IsFoundIn words matches
IsReadFrom words (Reply reply) =
    (reply.status ≢ statuses.Refused) × (begins_as_answer (string_bytes reply.text) ≡ false) × (reply.status ≡ statuses.Done → ask_for_help words ≡ true)

-- The detached payload that the options name, as far as it is known. A message of a sequence has its own.
abbrev pub unless_sequence : Bool → Option (Option (List ℕ)) → Option (Option (List ℕ))
unless_sequence true payload = Some None
unless_sequence false payload = payload

abbrev pub verify_payload : (List ℕ → Option (List ℕ)) → Options → Option (Option (List ℕ))
verify_payload content options = unless_sequence (flag_in (codes "sequence") options) (payload_in content options)

abbrev pub command_payload : (List ℕ → Option (List ℕ)) → Text → Options → Option (Option (List ℕ))
command_payload content name options =
    if bytes_eq name (codes "verify") then verify_payload content options
    else if bytes_eq name (codes "digest") then payload_in content options
    else Some None

abbrev pub payload_named : (List ℕ → Option (List ℕ)) → Option (Text × Options) → Option (Option (List ℕ))
payload_named content None = Some None
payload_named content (Some command) = command_payload content command.0 command.1

-- A request that was read from what clap found, whatever the files have that it names.
pub record IsReadAs (content : List ℕ → Option (List ℕ)) (matches : ArgMatches) (request : Request) : Type 0 where
  pub payload : payload_for content request ≡ payload_named content (subcommand_rows_of matches)
  pub making : makes request ≡ true → subcommand_name_of matches ≡ Some (codes "make")
  pub sequence : is_sequence request ≡ true → is_of_sequence matches ≡ true

-- What a run answers that doesn't end with a fault: the arguments ask for help or for the version, or a request was read from what
-- clap finds in them.
abbrev pub IsAsked : (List ℕ → Option (List ℕ)) → List Text → Type 0
IsAsked content words = (ask_for_help words ≡ true) ⊎ ((matches : ArgMatches) × IsFoundIn words matches × (request : Request) × IsReadAs content matches request)

-- Unless there is a fault, what this request asks for was printed, with each payload that is known to be the one that it names.
abbrev pub AnswersRequest : (List ℕ → Option (List ℕ)) → Request → List ℕ → Option (List ℕ) → Option (List ℕ) → ℕ → Type 0
AnswersRequest content request bytes old new status = (payload : Option (List ℕ)) → payload_for content request ≡ Some payload → EndsWith (asked_for request payload bytes) old new status

-- A run with these arguments that ends with this status: unless there is a fault, it printed a text of clap's that the arguments
-- ask for and ended with status 0, or it read a request from what clap found, and printed what that asks for, for the bytes that
-- the input stands for, and ended with its status.
abbrev pub Answers : (List ℕ → Option (List ℕ)) → List Text → List ℕ → Option (List ℕ) → Option (List ℕ) → ℕ → Type 0
Answers content words bytes old new status =
    ((text : Text) × (begins_as_answer text ≡ false) × (status < 2 → ask_for_help words ≡ true) × EndsWith (record { text = text; status = statuses.Done }) old new status)
    ⊎ ((matches : ArgMatches) × IsFoundIn words matches
    × (status < 2 → (request : Request) × IsReadAs content matches request × AnswersRequest content request (input_bytes matches bytes) old new status)
    × ((said : Output) → matches_print content matches (input_bytes matches bytes) ≡ Some said → EndsWith said old new status))

-- What is printed for what clap found, for each input.
abbrev pub PrintsEach : (List ℕ → Option (List ℕ)) → ArgMatches → (List ℕ → Output) → Type 0
PrintsEach content matches said = (input : List ℕ) → matches_print content matches input ≡ Some (said input)

-- What a run has written that ends with status 2, by what clap found: a fault's line, or a part of what is printed for it. A
-- sequence may have lines before that of a fault: those of a prefix of the input. `make` may have begun its message, which no line
-- follows then.
pub record FailsAsFound (content : List ℕ → Option (List ℕ)) (matches : ArgMatches) (bytes : List ℕ) (old new : Option (List ℕ)) : Type 0 where
  pub one : (said : Output) → matches_print content matches bytes ≡ Some said → subcommand_name_of matches ≢ Some (codes "make") → is_of_sequence matches ≡ false → Fails said old new
  pub making : (said : List ℕ → Output) → PrintsEach content matches said → is_of_sequence matches ≡ false → Fails (said bytes) old new ⊎ StopsMaking said bytes old new
  pub sequence : (said : List ℕ → Output) → PrintsEach content matches said → subcommand_name_of matches ≢ Some (codes "make") → FailsInSequence said bytes old new

-- What a run with these arguments has written that ends with status 2: the line of a fault, or a text of clap's, or what is
-- written by what clap found. Any of them may be cut short where the output fails.
abbrev pub FailsOn : (List ℕ → Option (List ℕ)) → List Text → List ℕ → Option (List ℕ) → Option (List ℕ) → Type 0
FailsOn content words bytes old new =
    ((fault : Fault) × WritesLine fault old new)
    ⊎ (((text : Text) × (begins_as_answer text ≡ false) × AppendsFront old new text)
    ⊎ ((matches : ArgMatches) × IsFoundIn words matches × FailsAsFound content matches (input_bytes matches bytes) old new))
