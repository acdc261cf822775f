-- A reply with the verdict of an input.
use Rattle.std.proofs.Common.{◌≡◌, ◌≢◌, ℕ, ◌<◌, List, Option, Some, Result, Ok, ◌⊎◌, inl, inr, refl, sym, ap, subst, ◌∙◌, arith}
use Rattle.std.specs.Prelude.{IfOk}
use Rattle.std.specs.Io.KnownBytes.{Appends}
use Rattle.cose_map.specs.Key.Value.{KeyValue}
use Rattle.cose_map.specs.Map.Read.{Read}
use Rattle.cose_msg.specs.declared.verdict.Verdict.{Verdict}
use Rattle.cose_msg.specs.Answer.{decided}
use Rattle.cose_msg.specs.Message.{Setting}
use Rattle.cose_answers.specs.declared.request.Question.{Question}
use Rattle.cose_answers.specs.declared.reply.Reply.{Reply}
use Rattle.cose_answers.specs.declared.reply.Status.{Status}
use Rattle.cose_answers.specs.declared.reply.Status.TheVariants as statuses
use Rattle.cose_answers.specs.declared.fault.Fault.{Fault}
use Rattle.cose_answers.specs.declared.fault.Fault.TheVariants as faults
use Rattle.cose_answers.specs.Faults.{WritesLine}
use Rattle.cose_answers.specs.Printed.{EndsWith, Fails, Output, Prints, Says, WritesPart, answered_in, answered_under, code_of, input_answer, output_of, said_of, setting_under, verified_under, with_keys, with_payload}
use Rattle.cose_answers.specs.Under.{Under}
use Rattle.cose_answers.specs.Vouch.{vouching}

-- What is said under keys, where the key set has these.
pub said_with_keys : (set : Read (List KeyValue)) (keys : List KeyValue) (said : List KeyValue → Output) → set ≡ Ok keys → with_keys set said ≡ said keys
said_with_keys set keys said read = ap (λ (t : Read (List KeyValue)). with_keys t said) read

pub says_verified : {F : Type 0} (under : Under) (keys : List KeyValue) (payload : Option (List ℕ)) (bytes : List ℕ) (verdict : Verdict) (reply : Result Reply F) →
    under.keys ≡ Ok keys → input_answer under.room.header under.room.nesting (with_payload payload (setting_under under keys)) (vouching under.vouch) bytes ≡ decided verdict → IfOk reply (Says (said_of verdict)) →
    IfOk reply (Says (verified_under under payload bytes))
says_verified under keys payload bytes verdict reply read answered said =
    let e : verified_under under payload bytes ≡ said_of verdict = said_with_keys under.keys keys _ read ∙ ap output_of answered in
    subst (λ (o : Output). IfOk reply (Says o)) (sym e) said

-- A reply to what is asked of a message under the keys of a set.
pub says_under : {F : Type 0} (question : Question) (under : Under) (keys : List KeyValue) (payload : Option (List ℕ)) (setting : Setting) (bytes : List ℕ) (reply : Result Reply F) →
    under.keys ≡ Ok keys → setting ≡ setting_under under keys →
    IfOk reply (Says (answered_in question under.room.header under.room.nesting (with_payload payload setting) (vouching under.vouch) bytes)) → IfOk reply (Says (answered_under question under payload bytes))
says_under question under keys payload setting bytes reply read program says =
    let e : answered_under question under payload bytes ≡ answered_in question under.room.header under.room.nesting (with_payload payload setting) (vouching under.vouch) bytes =
    said_with_keys under.keys keys _ read ∙ ap (λ (x : Setting). answered_in question under.room.header under.room.nesting (with_payload payload x) (vouching under.vouch) bytes) (sym program) in
    subst (λ (o : Output). IfOk reply (Says o)) (sym e) says

-- Unless there is a fault, a run ends with the output's status.
pub ends_so : (old new : Option (List ℕ)) (output : Output) (status : Status) → Prints output old new status → code_of status < 2 →
    (code_of status ≡ code_of output.status) × Appends old new output.text
ends_so old new output statuses.Done prints well = let done = prints (λ e. absurd cc) in (ap code_of done.0, done.1)
ends_so old new output statuses.Refused prints well = let done = prints (λ e. absurd cc) in (ap code_of done.0, done.1)
ends_so old new output statuses.Fault prints well = absurd (omega (arith, well))

pub is_fault : (status : Status) → code_of status ≡ 2 → status ≡ statuses.Fault
is_fault statuses.Done e = absurd cc
is_fault statuses.Refused e = absurd cc
is_fault statuses.Fault e = refl

-- What is written of a text is written of an equal output.
pub part_fails : (old new : Option (List ℕ)) (text : List ℕ) (status : Status) (said : Output) → text ≡ said.text → status ≡ said.status →
    WritesPart text old new ⊎ ((status ≡ statuses.Fault) × Appends old new text) → Fails said old new
part_fails old new text status said same_text same_status (inl part) = inr (inl (subst (λ (t : List ℕ). WritesPart t old new) same_text part))
part_fails old new text status said same_text same_status (inr (is, grown)) = inr (inr (sym same_status ∙ is, subst (λ (t : List ℕ). Appends old new t) same_text grown))

pub line_fails : (old new : Option (List ℕ)) (fault : Fault) (said : Output) → WritesLine fault old new ⊎ WritesLine faults.Memory old new → Fails said old new
line_fails old new fault said (inl line) = inl (fault, line)
line_fails old new fault said (inr line) = inl (faults.Memory, line)

-- A text of clap's ends a run with status 0, or with a fault.
pub ends_with_text : (old new : Option (List ℕ)) (text : List ℕ) (given status : Status) → given ≢ statuses.Refused → (status ≢ statuses.Fault → status ≡ given) → (status ≢ statuses.Fault → Appends old new text) →
    EndsWith (record { text = text; status = statuses.Done }) old new (code_of status)
ends_with_text old new text given statuses.Done other same written = λ well. (refl, written (λ e. absurd cc))
ends_with_text old new text given statuses.Refused other same written = λ well. absurd (other (sym (same (λ e. absurd cc))))
ends_with_text old new text given statuses.Fault other same written = λ well. absurd (omega (arith, well))

-- What a text that ends a run well has asked for was asked for.
pub asked_where_well : (A : Type 0) (given status : Status) → given ≢ statuses.Refused → (status ≢ statuses.Fault → status ≡ given) → (given ≡ statuses.Done → A) → code_of status < 2 → A
asked_where_well A given statuses.Done other same asks well = asks (sym (same (λ e. absurd cc)))
asked_where_well A given statuses.Refused other same asks well = absurd (other (sym (same (λ e. absurd cc))))
asked_where_well A given statuses.Fault other same asks well = absurd (omega (arith, well))

pub some_line : (old new : Option (List ℕ)) (fault : Fault) → WritesLine fault old new ⊎ WritesLine faults.Memory old new → (fault : Fault) × WritesLine fault old new
some_line old new fault (inl line) = (fault, line)
some_line old new fault (inr line) = (faults.Memory, line)

-- The fault of the arguments of `make` is the one that is printed, before which nothing was written.
pub made_line : (old mid new : Option (List ℕ)) (made fault : Fault) (status : Status) → Some made ≡ Some fault → mid ≡ old → status ≡ statuses.Fault →
    WritesLine made mid new ⊎ WritesLine faults.Memory mid new → (status ≡ statuses.Fault) × (WritesLine fault old new ⊎ WritesLine faults.Memory old new)
made_line old mid new made fault status same kept is line =
    let one : made ≡ fault = cc in
    (is, subst (λ (f : Fault). WritesLine f old new ⊎ WritesLine faults.Memory old new) one (subst (λ (o : Option (List ℕ)). WritesLine made o new ⊎ WritesLine faults.Memory o new) kept line))
