-- What the arguments of a sequence ask for, and what a run over it leaves where it fails.
use Rattle.std.proofs.Common.{◌≡◌, ℕ, Bool, true, false, List, Option, Some, None, refl, ap, sym, ◌∙◌}
use Rattle.cose_answers.specs.Requests.{asked_for, is_sequence}
use Rattle.cosecmd.specs.CommandLine.{AsksFor}
use Rattle.cosecmd.specs.Fields.{AreChecks}
use Rattle.cosecmd.specs.Options.{◌>>=◌}
use Rattle.cose_answers.proofs.lemmas.Requests.AskedSequences.{fails_as, fails_in_sequence}
use Rattle.cose_answers.specs.Printed.{Fails, Output}
use Rattle.cose_answers.specs.Sequence.{FailsInSequence, verified_sequence}
use Rattle.cose_answers.specs.Under.{Under, under_of}
use Rattle.cose_answers.specs.declared.request.Checks.{Checks}
use Rattle.cose_answers.specs.declared.request.Request.{Request}
use Rattle.cose_answers.specs.declared.request.Request.TheVariants as asks

-- A sequence is asked for only by its option.
pub not_of_sequence : (request : Request) (by_option : Bool) → (is_sequence request ≡ true → by_option ≡ true) → by_option ≡ false → is_sequence request ≡ false
not_of_sequence request by_option only other = go (is_sequence request) refl
  where
    go : (is : Bool) → is_sequence request ≡ is → is_sequence request ≡ false
    go true is =
        let clash : true ≡ false = sym (only is) ∙ other in
        absurd cc
    go false is = is

-- The checks that the options state are those that they ask for.
pub sequence_asks : (under : Option Under) (checks : Checks) (bytes : List ℕ) (said : Output) → AreChecks under checks → (do under ← under; Some (verified_sequence under bytes)) ≡ Some said →
    verified_sequence (under_of checks) bytes ≡ said
sequence_asks None checks bytes said are e = cc
sequence_asks (Some under) checks bytes said are e =
    let same : verified_sequence under bytes ≡ said = cc in
    ap (λ (u : Under). verified_sequence u bytes) (are under refl) ∙ same

-- What is printed for a sequence depends on no payload.
of_no_payload : (request : Request) (payload : Option (List ℕ)) (input : List ℕ) → is_sequence request ≡ true → asked_for request None input ≡ asked_for request payload input
of_no_payload (asks.MessageSequence checks) payload input is = refl
of_no_payload (asks.TokenSequence words) payload input is = refl
of_no_payload (asks.Show limits wanted details) payload input is = absurd cc
of_no_payload (asks.Message question checks from) payload input is = absurd cc
of_no_payload (asks.Keep checks name) payload input is = absurd cc
of_no_payload (asks.Cwt words) payload input is = absurd cc
of_no_payload (asks.Keys words) payload input is = absurd cc
of_no_payload (asks.Make words) payload input is = absurd cc

-- ---- what is left of a run that fails

-- By what the request asks for, which is what is printed for what clap found.
pub found_fails : (content : List ℕ → Option (List ℕ)) (request : Request) (said : List ℕ → Output) (bytes : List ℕ) (old new : Option (List ℕ)) →
    ((input : List ℕ) → AsksFor content request input (said input)) →
    (is_sequence request ≡ false → Fails (said bytes) old new) →
    (is_sequence request ≡ true → FailsInSequence (asked_for request None) bytes old new) → FailsInSequence said bytes old new
found_fails content request said bytes old new each one sequence = go (is_sequence request) refl
  where
    go : (is : Bool) → is_sequence request ≡ is → FailsInSequence said bytes old new
    go true is = fails_as (asked_for request None) said bytes old new (λ input. of_no_payload request (each input).0 input is ∙ (each input).2) (sequence is)
    go false is = fails_in_sequence said bytes old new (one is)
