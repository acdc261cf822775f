-- What the arguments of `make` ask for, and what a run leaves that stops.
use Rattle.std.proofs.Common.{◌≡◌, ◌⊎◌, Bool, true, false, ℕ, List, Option, None, inl, inr, refl, ◌∙◌}
use Rattle.cose_answers.specs.Requests.{asked_for, makes}
use Rattle.cosecmd.specs.CommandLine.{AsksFor}
use Rattle.cose_answers.specs.MakeStops.{StopsMaking}
use Rattle.cose_answers.specs.Printed.{Fails, Output}
use Rattle.cose_answers.specs.declared.request.Request.{Request}
use Rattle.cose_answers.specs.declared.request.Request.TheVariants as asks
use Rattle.cose_answers.proofs.lemmas.Making.MakeStops.{stops_same}

-- A message is made only by the command of this name.
pub not_made : (request : Request) (A : Type 0) → (makes request ≡ true → A) → (A → ⊥) → makes request ≡ false
not_made (asks.Make words) A by_name other = absurd (other (by_name refl))
not_made (asks.Show limits wanted details) A by_name other = refl
not_made (asks.Message question checks from) A by_name other = refl
not_made (asks.Keep checks name) A by_name other = refl
not_made (asks.MessageSequence checks) A by_name other = refl
not_made (asks.Cwt words) A by_name other = refl
not_made (asks.TokenSequence words) A by_name other = refl
not_made (asks.Keys words) A by_name other = refl

-- What is made depends on no payload that the arguments name.
of_no_payload : (request : Request) (payload : Option (List ℕ)) (input : List ℕ) → makes request ≡ true → asked_for request None input ≡ asked_for request payload input
of_no_payload (asks.Make words) payload input is = refl
of_no_payload (asks.Show limits wanted details) payload input is = absurd cc
of_no_payload (asks.Message question checks from) payload input is = absurd cc
of_no_payload (asks.Keep checks name) payload input is = absurd cc
of_no_payload (asks.MessageSequence checks) payload input is = absurd cc
of_no_payload (asks.Cwt words) payload input is = absurd cc
of_no_payload (asks.TokenSequence words) payload input is = absurd cc
of_no_payload (asks.Keys words) payload input is = absurd cc

-- By what the request asks for, which is what is printed for what clap found.
pub stops_or_fails : (content : List ℕ → Option (List ℕ)) (request : Request) (said : List ℕ → Output) (bytes : List ℕ) (old new : Option (List ℕ)) →
    ((input : List ℕ) → AsksFor content request input (said input)) →
    (makes request ≡ false → Fails (said bytes) old new) →
    (makes request ≡ true → StopsMaking (asked_for request None) bytes old new) → Fails (said bytes) old new ⊎ StopsMaking said bytes old new
stops_or_fails content request said bytes old new each fails stops = go (makes request) refl
  where
    go : (is : Bool) → makes request ≡ is → Fails (said bytes) old new ⊎ StopsMaking said bytes old new
    go true is = inr (stops_same (asked_for request None) said bytes old new (λ input. of_no_payload request (each input).0 input is ∙ (each input).2) (stops is))
    go false is = inl (fails is)
