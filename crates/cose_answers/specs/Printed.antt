-- What the program prints for an input by what is asked of it, and how it ends. A text of status Fault is what the program's
-- documents say; no clause requires a run that ends so to print all of it.
use Rattle.std.specs.Prelude.{◌≡◌, ◌≢◌, ◌⊎◌, ℕ, ◌<◌, ◌-◌, ◌^◌, Bool, true, false, ◌&&◌, List, [], ◌∷◌, ◌++◌, length, map, take, Option, Some, None, Result, Ok, Err, codes, string_bytes, nat_lt, if◌then◌else◌}
use Rattle.std.specs.List.{concat}
use Rattle.std.specs.Fmt.{decimal, signed_decimal}
use Rattle.std.specs.Io.KnownBytes.{Appends}
use Rattle.cose_head.specs.declared.kind.Kind.{Kind}
use Rattle.cose_head.specs.declared.kind.Kind.TheVariants.{Mac0, Sign1}
use Rattle.cose_head.specs.declared.reason.Reason.{Reason}
use Rattle.cose_head.specs.declared.reason.Reason.TheVariants.{Detached, Trailing}
use Rattle.cose_head.specs.declared.refusal.Refusal.{Refusal}
use Rattle.cose_head.specs.Placed.{Placed}
use Rattle.cose_head.specs.Refusal.{refusal_text}
use Rattle.cose_head.specs.declared.algorithm.Alg.{Alg}
use Rattle.cose_head.specs.Algorithm.{algorithm_number}
use Rattle.cose_map.specs.Choice.{Question as KeyQuestion}
use Rattle.cose_map.specs.Key.Value.{KeyValue}
use Rattle.cose_map.specs.KeySet.{items_in, keys_of}
use Rattle.cose_map.specs.Map.Pairs.{Pair}
use Rattle.cose_map.specs.Map.Read.{Read}
use Rattle.cose_msg.specs.declared.context.Wanted.{Wanted}
use Rattle.cose_msg.specs.declared.verdict.Verdict.{Verdict}
use Rattle.cose_msg.specs.declared.verdict.Verdict.TheVariants.{Authentic, Refused}
use Rattle.cose_msg.specs.Answer.{Answer, decided, complete, shaped, refused}
use Rattle.cose_msg.specs.declared.make.MakeFault.{MakeFault}
use Rattle.cose_msg.specs.declared.make.MakeFault.TheVariants as makes
use Rattle.cose_msg.specs.Make.{make_fault}
use Rattle.cose_msg.specs.Making.{made, protected_made}
use Rattle.cose_msg.specs.Message.{Decides, Setting, comparing, inspecting, message, secret_of, verdict_of, verifying}
use Rattle.cose_msg.specs.Source.{attached, detached}
use Rattle.cose_msg.specs.Reading.{Reading}
use Rattle.cose_msg.specs.Shown.{SignInput, sign_input_in}
use Rattle.cose_msg.specs.Writes.{front_of}
use Rattle.cose_cwt.specs.Admission.{PolicyValue}
use Rattle.cose_cwt.specs.Requirements.{RequirementsValue}
use Rattle.cose_answers.specs.Admitted.{Admission, input_token, outcome_status, outcome_text}
use Rattle.cose_answers.specs.AskedKeys.{asked}
use Rattle.cose_answers.specs.Faults.{WritesLine}
use Rattle.cose_answers.specs.Headers.{parameter_lines}
use Rattle.cose_answers.specs.KeysListed.{set_status, set_text}
use Rattle.cose_answers.specs.Limits.{room_of}
use Rattle.cose_answers.specs.declared.fault.Fault.{Fault}
use Rattle.cose_answers.specs.declared.request.Details.{Details}
use Rattle.cose_answers.specs.declared.request.Printing.{Printing}
use Rattle.cose_answers.specs.declared.request.Question.{Question}
use Rattle.cose_answers.specs.declared.request.Question.TheVariants as questions
use Rattle.cose_answers.specs.declared.limits.Limits.{Limits}
use Rattle.cose_answers.specs.declared.reply.Reply.{Reply}
use Rattle.cose_answers.specs.declared.reply.Status.{Status}
use Rattle.cose_answers.specs.declared.reply.Status.TheVariants as statuses
use Rattle.cose_answers.specs.Readable.{no_payload_shown, pair_notation, payload_shown}
use Rattle.cose_answers.specs.Under.{Under}
use Rattle.cose_answers.specs.Vouch.{vouch_word, vouching}
use Rattle.hex.specs.Hex.{encode_lower}

-- The text that is printed, and how the run ends.
pub record Output : Type 0 where
  pub text : List ℕ
  pub status : Status

-- The exit status of the process.
abbrev pub code_of : Status → ℕ
code_of statuses.Done = 0
code_of statuses.Refused = 1
code_of statuses.Fault = 2

abbrev pub word_of_kind : Kind → List ℕ
word_of_kind Mac0 = codes "mac0"
word_of_kind Sign1 = codes "sign1"

-- The line of a verdict, and how a run ends with it.
abbrev pub verdict_line : Verdict → List ℕ
verdict_line (Authentic kind alg payload taken) =
    codes "authentic " ++ word_of_kind kind ++ codes " alg " ++ signed_decimal (algorithm_number alg) ++ codes " payload " ++ decimal payload ++ codes " taken " ++ decimal taken
verdict_line (Refused refusal) = codes "refused " ++ refusal_text refusal

abbrev pub status_of : Verdict → Status
status_of (Authentic kind alg payload taken) = statuses.Done
status_of (Refused refusal) = statuses.Refused

abbrev pub said_of : Verdict → Output
said_of verdict = record { text = verdict_line verdict ++ codes "\n"; status = status_of verdict }

-- A key set that is refused is a fault.
abbrev pub fault_of_keys : Refusal → Output
fault_of_keys refusal = record { text = codes "fault keys " ++ refusal_text refusal ++ codes "\n"; status = statuses.Fault }

abbrev pub with_keys : Read (List KeyValue) → (List KeyValue → Output) → Output
with_keys (Ok keys) said = said keys
with_keys (Err refusal) said = fault_of_keys refusal

-- The setting that the program verifies a message under: it knows the CWT tag, understands no label in addition to the
-- standard's, has no payload limit of its own, and takes no detached payload.
abbrev pub program_setting : List KeyValue → List ℕ → Wanted → Setting
program_setting keys aad wanted = record {
  keys = keys;
  aad = aad;
  wanted = wanted;
  cwt = true;
  understood = [];
  payload_limit = 2 ^ 56 - 1;
  source = attached;
  elsewhere = false;
}

abbrev pub setting_under : Under → List KeyValue → Setting
setting_under under keys = program_setting keys under.aad under.wanted

-- The same, where the payload is detached: all its bytes are passed, and their number is stated.
abbrev pub with_payload : Option (List ℕ) → Setting → Setting
with_payload None setting = setting
with_payload (Some payload) setting = record setting { source = detached payload (length payload) }

-- The number of bytes of a message that isn't refused.
abbrev pub message_length : Answer → Option ℕ
message_length (decided (Authentic kind alg payload taken)) = Some taken
message_length (decided (Refused refusal)) = None
message_length (complete whole) = Some whole.taken
message_length (shaped kind payload auth taken) = Some taken

-- No byte may follow it: here the whole input has n bytes.
abbrev pub unless_longer : ℕ → Option ℕ → Answer → Answer
unless_longer n (Some taken) answer = if nat_lt taken n then refused Trailing taken else answer
unless_longer n None answer = answer

abbrev pub trailed : ℕ → Answer → Answer
trailed n answer = unless_longer n (message_length answer) answer

-- The refusal of the first of these bytes after a message, where there is one.
abbrev pub trailing_refusal : List ℕ → ℕ → Option Refusal
trailing_refusal [] taken = None
trailing_refusal (byte ∷ bytes) taken = Some (record { reason = Trailing; place = taken })

-- The same, where these bytes are left of the input after the message.
abbrev pub followed_by : List ℕ → Verdict → Verdict
followed_by (byte ∷ bytes) (Authentic kind alg payload taken) = Refused (record { reason = Trailing; place = taken })
followed_by rest verdict = verdict

-- The verdict of a whole input, in buckets of at most `header` bytes that nest at most `nesting` deep.
abbrev pub input_answer : ℕ → ℕ → Setting → Decides → List ℕ → Answer
input_answer header nesting setting decides bytes = trailed (length bytes) (verdict_of header nesting setting decides bytes)

-- The output for an answer that a command doesn't have.
abbrev pub none_said : Output
none_said = record { text = []; status = statuses.Fault }

-- Where a message is verified its answer is a verdict.
abbrev pub output_of : Answer → Output
output_of (decided verdict) = said_of verdict
output_of (complete whole) = none_said
output_of (shaped kind payload auth taken) = none_said

-- With this detached payload, where there is one.
abbrev pub verified_under : Under → Option (List ℕ) → List ℕ → Output
verified_under under payload bytes =
    with_keys under.keys (λ keys. output_of (input_answer under.room.header under.room.nesting (with_payload payload (setting_under under keys)) (vouching under.vouch) bytes))

-- After the line of an authentic message, those of its header parameters whose labels are asked for. These are the pairs of its
-- buckets. Of a message that is refused no parameter has a line.
abbrev pub said_with : List (List ℕ) → Option (List Pair) → Option (List Pair) → Verdict → Output
said_with labels protected unprotected (Authentic kind alg payload taken) = record {
  text = verdict_line (Authentic kind alg payload taken) ++ codes "\n" ++ parameter_lines labels protected unprotected;
  status = statuses.Done;
}
said_with labels protected unprotected (Refused refusal) = said_of (Refused refusal)

abbrev pub output_with : List (List ℕ) → Option (List Pair) → Option (List Pair) → Answer → Output
output_with labels protected unprotected (decided verdict) = said_with labels protected unprotected verdict
output_with labels protected unprotected (complete whole) = none_said
output_with labels protected unprotected (shaped kind payload auth taken) = none_said

-- By the reading of an input of n bytes.
abbrev pub headed_of : List (List ℕ) → ℕ → Reading → Output
headed_of labels n reading = output_with labels reading.so_far.protected reading.so_far.unprotected (trailed n reading.answer)

abbrev pub headed_in : List (List ℕ) → ℕ → ℕ → Setting → Decides → List ℕ → Output
headed_in labels header nesting setting decides bytes = headed_of labels (length bytes) (message (verifying header nesting setting decides) bytes)

-- With this detached payload, where there is one.
abbrev pub headed_under : List (List ℕ) → Under → Option (List ℕ) → List ℕ → Output
headed_under labels under payload bytes =
    with_keys under.keys (λ keys. headed_in labels under.room.header under.room.nesting (with_payload payload (setting_under under keys)) (vouching under.vouch) bytes)

-- Where no label is asked for, the verdict alone.
abbrev pub verified_for : List (List ℕ) → Under → Option (List ℕ) → List ℕ → Output
verified_for [] under payload bytes = verified_under under payload bytes
verified_for (label ∷ labels) under payload bytes = headed_under (label ∷ labels) under payload bytes

-- A token is verified as a message is, with a payload of at most this many bytes.
abbrev pub token_setting : ℕ → List KeyValue → List ℕ → Wanted → Setting
token_setting claims keys aad wanted = record (program_setting keys aad wanted) { payload_limit = claims }

-- The outcome for a whole input as a token under these keys.
abbrev pub token_under : Under → PolicyValue → RequirementsValue → List ℕ → List KeyValue → Admission
token_under under policy requirements bytes keys =
    input_token under.room.header under.room.nesting (token_setting under.room.claims keys under.aad under.wanted) (vouching under.vouch) policy requirements bytes

abbrev pub outcome_said : Printing → Admission → Output
outcome_said printing outcome = record { text = outcome_text printing outcome; status = outcome_status outcome }

abbrev pub admitted_under : Under → PolicyValue → RequirementsValue → Printing → List ℕ → Output
admitted_under under policy requirements printing bytes =
    with_keys under.keys (λ keys. outcome_said printing (token_under under policy requirements bytes keys))

-- What `cwt` prints for an input: under these checks, by this policy, with what is required beyond it, and how claims are
-- printed. It is that of the one token that the input is, or of each of a sequence.
abbrev pub Admits : Type 0
Admits = Under → PolicyValue → RequirementsValue → Printing → List ℕ → Output

-- The shape of a message: its kind, and the numbers of bytes of its payload, of its tag or signature, and of the whole.
abbrev pub shape_line : Kind → ℕ → ℕ → ℕ → List ℕ
shape_line kind payload auth taken =
    codes "shape " ++ word_of_kind kind ++ codes " payload " ++ decimal payload ++ codes " auth " ++ decimal auth ++ codes " taken " ++ decimal taken ++ codes "\n"

-- A line for each pair of a bucket, in the order of the message: the bytes of its label and of its value as they were
-- received, and their notation where it is asked for.
abbrev pub item_line : Bool → List ℕ → Placed → Placed → List ℕ
item_line diagnostic bucket label value =
    bucket ++ codes " " ++ encode_lower label.bytes ++ codes " " ++ encode_lower value.bytes ++ pair_notation diagnostic label value ++ codes "\n"

abbrev pub pair_line : Bool → List ℕ → Pair → List ℕ
pair_line diagnostic bucket pair = item_line diagnostic bucket pair.label pair.value

abbrev pub bucket_lines : Bool → List ℕ → Option (List Pair) → List ℕ
bucket_lines diagnostic bucket None = []
bucket_lines diagnostic bucket (Some pairs) = concat (map (pair_line diagnostic bucket) pairs)

-- The pairs of the protected bucket, then those of the unprotected one.
abbrev pub header_lines : Bool → Option (List Pair) → Option (List Pair) → List ℕ
header_lines diagnostic protected unprotected = bucket_lines diagnostic (codes "protected") protected ++ bucket_lines diagnostic (codes "unprotected") unprotected

-- The shape, then the pairs, then the payload, where it is asked for.
abbrev pub shape_said : Details → ℕ → Kind → ℕ → ℕ → ℕ → Option (List Pair) → Option (List Pair) → List ℕ → Output
shape_said details nesting kind payload auth taken protected unprotected content = record {
  text = shape_line kind payload auth taken ++ header_lines details.diagnostic protected unprotected ++ payload_shown details.payload nesting content;
  status = statuses.Done;
}

-- The place of the nil that a message has instead of its payload, which is elsewhere (RFC 9052 section 2).
abbrev pub detached_line : ℕ → List ℕ
detached_line place = codes "detached at " ++ decimal place ++ codes "\n"

-- This line, then the pairs as those of a shape.
abbrev pub detached_said : Details → ℕ → Option (List Pair) → Option (List Pair) → Output
detached_said details place protected unprotected = record {
  text = detached_line place ++ header_lines details.diagnostic protected unprotected ++ no_payload_shown details.payload;
  status = statuses.Done;
}

abbrev pub is_for_nil : Reason → Bool
is_for_nil Detached = true
is_for_nil _ = false

-- Where a message without its payload is to be shown, its refusal for that says where the nil is.
abbrev pub refusal_shown : Details → Option (List Pair) → Option (List Pair) → Refusal → Output
refusal_shown details protected unprotected refusal =
    if is_for_nil refusal.reason && details.detached then detached_said details refusal.place protected unprotected else said_of (Refused refusal)

abbrev pub verdict_shown : Details → Option (List Pair) → Option (List Pair) → Verdict → Output
verdict_shown details protected unprotected (Refused refusal) = refusal_shown details protected unprotected refusal
verdict_shown details protected unprotected (Authentic kind alg payload taken) = said_of (Authentic kind alg payload taken)

-- The answer for a message that has these pairs and this payload.
abbrev pub shown_as : Details → ℕ → Option (List Pair) → Option (List Pair) → List ℕ → Answer → Output
shown_as details nesting protected unprotected content (shaped kind payload auth taken) = shape_said details nesting kind payload auth taken protected unprotected content
shown_as details nesting protected unprotected content (decided verdict) = verdict_shown details protected unprotected verdict
shown_as details nesting protected unprotected content (complete whole) = none_said

abbrev pub shown_of : Details → ℕ → ℕ → Reading → Output
shown_of details nesting n reading = shown_as details nesting reading.so_far.protected reading.so_far.unprotected reading.so_far.payload (trailed n reading.answer)

-- A message is shown as it is when it is only inspected: under no key. A payload that is asked for is at most as long as claims.
abbrev pub show_setting : Bool → ℕ → List KeyValue → List ℕ → Wanted → Setting
show_setting payload claims keys aad wanted = if payload then token_setting claims keys aad wanted else program_setting keys aad wanted

abbrev pub shown_in : ℕ → ℕ → ℕ → Wanted → Details → List ℕ → Output
shown_in header nesting claims wanted details bytes =
    shown_of details nesting (length bytes) (message (inspecting header nesting (show_setting details.payload claims [] [] wanted)) bytes)

abbrev pub shown : Limits → Wanted → Details → List ℕ → Output
shown limits wanted details bytes = shown_in (room_of limits).header (room_of limits).nesting (room_of limits).claims wanted details bytes

-- The line that prints the argument of `--vouch`, with which a signature passes `verify`.
abbrev pub vouched : List ℕ → Output
vouched word = record { text = codes "vouch " ++ encode_lower word ++ codes "\n"; status = statuses.Done }

-- Where there is a signature to verify, what it is verified with is printed; otherwise the output for the answer.
abbrev pub digested : Option SignInput → Answer → Output
digested (Some input) answer = vouched (vouch_word input)
digested None answer = output_of answer

abbrev pub digested_as : List ℕ → Answer → Output
digested_as aad answer = digested (sign_input_in aad answer) answer

-- A message, all of whose bytes are there, before its signature is decided on.
abbrev pub input_compared : ℕ → ℕ → Setting → List ℕ → Answer
input_compared header nesting setting bytes = trailed (length bytes) (message (comparing header nesting setting) bytes).answer

abbrev pub digested_in : ℕ → ℕ → Setting → List ℕ → Output
digested_in header nesting setting bytes = digested_as setting.aad (input_compared header nesting setting bytes)

abbrev pub digested_under : Under → Option (List ℕ) → List ℕ → Output
digested_under under payload bytes = with_keys under.keys (λ keys. digested_in under.room.header under.room.nesting (with_payload payload (setting_under under keys)) bytes)

-- What is printed by what is asked of a message.
abbrev pub by_question : Question → Output → Output → (List (List ℕ) → Output) → Output
by_question questions.Verdict verdict digest headed = verdict
by_question questions.Digest verdict digest headed = digest
by_question (questions.Headers labels) verdict digest headed = headed (map string_bytes labels.items)

abbrev pub answered_in : Question → ℕ → ℕ → Setting → Decides → List ℕ → Output
answered_in question header nesting setting decides bytes =
    by_question question (output_of (input_answer header nesting setting decides bytes)) (digested_in header nesting setting bytes)
    (λ labels. headed_in labels header nesting setting decides bytes)

-- With this detached payload, where there is one.
abbrev pub answered_under : Question → Under → Option (List ℕ) → List ℕ → Output
answered_under question under payload bytes =
    with_keys under.keys (λ keys. answered_in question under.room.header under.room.nesting (with_payload payload (setting_under under keys)) (vouching under.vouch) bytes)

-- The output after a message that ends at this place, of which a signature was found, or this verdict, where these bytes
-- are left of the input.
abbrev pub digested_before : List ℕ → Option SignInput → ℕ → Verdict → Output
digested_before rest None taken verdict = said_of (followed_by rest verdict)
digested_before [] (Some input) taken verdict = vouched (vouch_word input)
digested_before (byte ∷ rest) (Some input) taken verdict = said_of (Refused (record { reason = Trailing; place = taken }))

-- The output by what is asked, where these are the pairs of the message's buckets.
abbrev pub said_before : Question → List ℕ → Option SignInput → ℕ → Option (List Pair) → Option (List Pair) → Verdict → Output
said_before questions.Verdict rest input taken protected unprotected verdict = said_of (followed_by rest verdict)
said_before questions.Digest rest input taken protected unprotected verdict = digested_before rest input taken verdict
said_before (questions.Headers labels) rest input taken protected unprotected verdict =
    said_with (map string_bytes labels.items) protected unprotected (followed_by rest verdict)

-- A message that isn't made.
abbrev pub fault_of_key : Refusal → Output
fault_of_key refusal = record { text = codes "fault key " ++ refusal_text refusal ++ codes "\n"; status = statuses.Fault }

-- Only a fault of a request has a line.
abbrev pub making_line : MakeFault → List ℕ
making_line makes.WrongKey = codes "fault make WrongKey\n"
making_line makes.TooLong = codes "fault make TooLong\n"
making_line makes.ShortPayload = []
making_line makes.Intake = []
making_line makes.Sink = []

-- The message of the first bytes of the input. Where these are fewer than the payload's length, they are written with
-- what precedes them.
abbrev pub message_made : KeyValue → Alg → ℕ → Option (List ℕ) → List ℕ → List ℕ → Output
message_made key alg payload_length kid aad bytes =
    if nat_lt (length bytes) payload_length
    then record { text = front_of (protected_made alg) kid payload_length ++ bytes; status = statuses.Fault }
    else record { text = made alg (secret_of key.material) kid aad (take payload_length bytes); status = statuses.Done }

abbrev pub unless_faulty : Option MakeFault → Output → Output
unless_faulty (Some fault) output = record { text = making_line fault; status = statuses.Fault }
unless_faulty None output = output

abbrev pub made_under : Read KeyValue → Alg → ℕ → Option (List ℕ) → List ℕ → List ℕ → Output
made_under (Ok key) alg payload_length kid aad bytes =
    unless_faulty (make_fault alg key kid aad payload_length) (message_made key alg payload_length kid aad bytes)
made_under (Err refusal) alg payload_length kid aad bytes = fault_of_key refusal

-- What is printed for the items of a key set, so many of which are usable keys. One that is refused as a whole has none.
abbrev pub ItemsPrint : Type 0
ItemsPrint = List Placed → ℕ → Output

abbrev pub set_prints : ItemsPrint → Placed → Read (List KeyValue) → Output
set_prints said set (Ok usable) = said (items_in set) (length usable)
set_prints said set (Err refusal) = fault_of_keys refusal

abbrev pub keys_print : ItemsPrint → List ℕ → Output
keys_print said bytes = set_prints said (record { bytes = bytes; place = 0 }) (keys_of bytes)

-- Their lines, with what a message asks for, if there is one.
abbrev pub items_listed : Option KeyQuestion → ItemsPrint
items_listed question items usable = record { text = set_text question items usable; status = set_status usable }

abbrev pub keys_listed : List ℕ → Output
keys_listed keys = keys_print (items_listed None) keys

-- A message whose headers are refused is refused as by the other commands, and nothing is listed for it.
abbrev pub items_listed_for : Result KeyQuestion Answer → ItemsPrint
items_listed_for (Ok question) items usable = items_listed (Some question) items usable
items_listed_for (Err answer) items usable = output_of answer

-- The lines of a key set for the message that the input begins with.
abbrev pub keys_listed_for : Wanted → List ℕ → List ℕ → Output
keys_listed_for wanted keys bytes = keys_print (items_listed_for (asked wanted bytes)) keys

-- By whether a message of the kinds that are wanted is on the input.
abbrev pub keys_said : Option Wanted → List ℕ → List ℕ → Output
keys_said None keys bytes = keys_listed keys
keys_said (Some wanted) keys bytes = keys_listed_for wanted keys bytes

-- A reply with this output.
pub record Says (output : Output) (reply : Reply) : Type 0 where
  pub text : string_bytes reply.text ≡ output.text
  pub status : reply.status ≡ output.status

-- Unless there is a fault, a run wrote this output and ended with its status.
abbrev pub Prints : Output → Option (List ℕ) → Option (List ℕ) → Status → Type 0
Prints output old new status = status ≢ statuses.Fault → (status ≡ output.status) × Appends old new output.text

-- A run that ends with this exit status: unless there is a fault, it wrote this output, and ended with its status.
abbrev pub EndsWith : Output → Option (List ℕ) → Option (List ℕ) → ℕ → Type 0
EndsWith output old new status = status < 2 → (status ≡ code_of output.status) × Appends old new output.text

-- A prefix of these bytes was written, and not all of them.
pub record WritesPart (bytes : List ℕ) (old new : Option (List ℕ)) : Type 0 where
  pub front : List ℕ
  pub rest : List ℕ
  pub whole : bytes ≡ front ++ rest
  pub some : rest ≢ []
  pub grown : Appends old new front

-- What a run has written that ends with status Fault, where this is its output unless there is a fault: the line of a
-- fault, or a part of the output. All of the output only where its own status is Fault.
abbrev pub Fails : Output → Option (List ℕ) → Option (List ℕ) → Type 0
Fails output old new =
    ((fault : Fault) × WritesLine fault old new) ⊎ (WritesPart output.text old new ⊎ ((output.status ≡ statuses.Fault) × Appends old new output.text))
