-- A sequence whose messages are verified, or whose tokens are admitted, under a key set.
use Rattle.std.proofs.Common.{◌≡◌, ℕ, List, [], Option, Some, Ok, refl, subst}
use Rattle.std.specs.Io.Buffered.{reader_buffer, reader_capacity, reader_inner, reader_remaining}
use Rattle.std.specs.declared.io.buffered.BufReader.{BufReader}
use Rattle.cose_cwt.specs.Admission.{PolicyValue}
use Rattle.cose_cwt.specs.Requirements.{RequirementsValue}
use Rattle.cose_cwt.specs.Token.{read_as}
use Rattle.cose_map.specs.Key.Value.{KeyValue}
use Rattle.cose_msg.specs.Message.{Setting}
use Rattle.cose_answers.specs.Admitted.{input_token}
use Rattle.cose_answers.specs.declared.reply.Status.{Status}
use Rattle.cose_answers.specs.declared.request.Printing.{Printing}
use Rattle.cose_answers.specs.Printed.{Output, Prints, input_answer, outcome_said, output_of, setting_under, token_setting}
use Rattle.cose_answers.specs.Sequence.{admitted_sequence, sequence_said, verified_sequence}
use Rattle.cose_answers.specs.Under.{Under}
use Rattle.cose_answers.specs.Vouch.{vouching}

-- What is printed in a setting that is that of these checks.
abbrev pub verified_in : Setting → Under → List ℕ → Output
verified_in setting under bytes =
    sequence_said (read_as under.room.header under.room.nesting setting (vouching under.vouch)) (λ message. output_of (input_answer under.room.header under.room.nesting setting (vouching under.vouch) message)) bytes

pub verified_as : (under : Under) (keys : List KeyValue) (setting : Setting) (bytes : List ℕ) → under.keys ≡ Ok keys → setting ≡ setting_under under keys → verified_in setting under bytes ≡ verified_sequence under bytes
verified_as under keys setting bytes set same = rw (same, set) refl

abbrev pub admitted_in : Setting → Under → PolicyValue → RequirementsValue → Printing → List ℕ → Output
admitted_in setting under policy requirements printing bytes =
    sequence_said (read_as under.room.header under.room.nesting setting (vouching under.vouch))
    (λ message. outcome_said printing (input_token under.room.header under.room.nesting setting (vouching under.vouch) policy requirements message)) bytes

pub admitted_as : (under : Under) (policy : PolicyValue) (requirements : RequirementsValue) (printing : Printing) (keys : List KeyValue) (setting : Setting) (bytes : List ℕ) → under.keys ≡ Ok keys → setting ≡ token_setting under.room.claims keys under.aad under.wanted →
    admitted_in setting under policy requirements printing bytes ≡ admitted_sequence under policy requirements printing bytes
admitted_as under policy requirements printing keys setting bytes set same = rw (same, set) refl

-- What was printed is what is printed for equal outputs.
pub prints_as : (said wanted : List ℕ → Output) (bytes : List ℕ) (old new : Option (List ℕ)) (status : Status) → ((input : List ℕ) → said input ≡ wanted input) → Prints (said bytes) old new status → Prints (wanted bytes) old new status
prints_as said wanted bytes old new status same prints = subst (λ (o : Output). Prints o old new status) (same bytes) prints

-- A reader through a buffer that is empty yet.
pub through_buffer : {T A : Type 0} (remaining : T → Option (List ℕ)) (reader : BufReader T A) (inner : T) (bytes : List ℕ) → reader_inner reader ≡ inner → reader_buffer reader ≡ [] → reader_capacity reader ≡ 4096 →
    remaining inner ≡ Some bytes → reader_remaining remaining reader ≡ Some bytes
through_buffer remaining reader inner bytes same empty capacity known = rw (capacity, empty, same, known) refl
