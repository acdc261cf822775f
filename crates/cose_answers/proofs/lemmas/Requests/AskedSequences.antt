-- What a request for a sequence asks for, and what a run over it leaves where it fails.
use Rattle.std.proofs.Common.{◌≡◌, ◌⊎◌, ℕ, List, [], ◌++◌, Option, inl, inr, refl, ap, subst, sym, ◌∙◌, append-nil, append_assoc}
use Rattle.std.specs.Prelude.{codes}
use Rattle.cose_msg.specs.Sink.{AppendsFront}
use Rattle.cose_answers.specs.Requests.{admitted_each_for, asked_for}
use Rattle.cose_answers.specs.Faults.{WritesLine, fault_text}
use Rattle.cose_answers.specs.Printed.{Fails, Output}
use Rattle.cose_answers.specs.Sequence.{FailsInSequence, verified_sequence}
use Rattle.cose_answers.specs.Under.{under_of}
use Rattle.cose_answers.specs.declared.fault.Fault.{Fault}
use Rattle.cose_answers.specs.declared.fault.Fault.TheVariants as faults
use Rattle.cose_answers.specs.declared.request.Cwt.{Cwt}
use Rattle.cose_answers.specs.declared.request.Checks.{Checks}
use Rattle.cose_answers.specs.declared.request.Request.{Request}
use Rattle.cose_answers.specs.declared.request.Request.TheVariants as asks

-- The request for a sequence asks for what is printed for it.
pub message_sequence_words : (request : Request) (checks : Checks) (payload : Option (List ℕ)) (bytes : List ℕ) → request ≡ asks.MessageSequence checks → verified_sequence (under_of checks) bytes ≡ asked_for request payload bytes
message_sequence_words request checks payload bytes is = rw is refl

pub token_sequence_words : (request : Request) (words : Cwt) (payload : Option (List ℕ)) (bytes : List ℕ) → request ≡ asks.TokenSequence words → admitted_each_for words bytes ≡ asked_for request payload bytes
token_sequence_words request words payload bytes is = rw is refl

-- ---- what is left of a run that fails

pub fails_as : (said asked : List ℕ → Output) (bytes : List ℕ) (old new : Option (List ℕ)) → ((input : List ℕ) → said input ≡ asked input) → FailsInSequence said bytes old new → FailsInSequence asked bytes old new
fails_as said asked bytes old new same (inl line) = inl line
fails_as said asked bytes old new same (inr (fault, first, rest, split, front)) =
    inr (fault, first, rest, split, subst (λ (o : Output). AppendsFront old new (o.text ++ (fault_text fault ++ codes "\n"))) (same first) front)

-- The line of a fault, or a part of the output, is left of a run over a sequence too.
pub fails_in_sequence : (said : List ℕ → Output) (bytes : List ℕ) (old new : Option (List ℕ)) → Fails (said bytes) old new → FailsInSequence said bytes old new
fails_in_sequence said bytes old new (inl line) = inl line
fails_in_sequence said bytes old new (inr (inl part)) =
    let line : List ℕ = fault_text faults.Memory ++ codes "\n" in
    inr (faults.Memory, bytes, [], sym (append-nil bytes), (part.front, (part.rest ++ line, ap (λ (t : List ℕ). t ++ line) part.whole ∙ append_assoc part.front part.rest line), part.grown))
fails_in_sequence said bytes old new (inr (inr (is, grown))) =
    inr (faults.Memory, bytes, [], sym (append-nil bytes), ((said bytes).text, (fault_text faults.Memory ++ codes "\n", refl), grown))

-- The line of a fault alone.
pub line_alone : (said : List ℕ → Output) (bytes : List ℕ) (old new : Option (List ℕ)) (fault : Fault) → WritesLine fault old new ⊎ WritesLine faults.Memory old new → FailsInSequence said bytes old new
line_alone said bytes old new fault (inl line) = inl (fault, line)
line_alone said bytes old new fault (inr line) = inl (faults.Memory, line)
