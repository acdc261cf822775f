-- The key of a message that is whole stands at the place that is given for what its buckets ask.
use Rattle.std.proofs.Common.{◌≡◌, ◌∙◌, ℤ, Option, Some, None, Result, Ok, Err, ap}
use Rattle.cose_head.specs.declared.algorithm.Alg.{Alg}
use Rattle.cose_head.specs.declared.reason.Reason.{Reason}
use Rattle.cose_head.specs.Algorithm.{algorithm_numbered}
use Rattle.cose_map.specs.Choice.{chosen}
use Rattle.cose_map.specs.Key.Value.{KeyValue}
use Rattle.cose_map.specs.Laws.Place as map
use Rattle.cose_msg.specs.Answer.{Chosen}
use Rattle.cose_msg.specs.Message.{as_choice, past_chosen, question_of, with_algorithm}
use Rattle.cose_msg.specs.Naming.{ChosenStandsThere}

same_key : (key : KeyValue) (alg : Option Alg) (found : Chosen) → as_choice (with_algorithm key alg) ≡ Ok (Some found) → key ≡ found.key
same_key key (Some alg) found e =
    let same : ◌≡◌ {A = Chosen} (record { key = key; alg = alg }) found = cc in ap (λ (c : Chosen). c.key) same
same_key key None found e = absurd cc

-- The choice, with the number of the algorithm.
abbrev Numbered : Result (KeyValue × ℤ) Reason → Chosen → Type 0
Numbered choice found = (n : ℤ) × (choice ≡ Ok (found.key, n))

numbered : (choice : Result (KeyValue × ℤ) Reason) (found : Chosen) → as_choice (past_chosen choice) ≡ Ok (Some found) → Numbered choice found
numbered (Ok (key, n)) found e = (n, ap (λ k. Ok (k, n)) (same_key key (algorithm_numbered n) found e))
numbered (Err reason) found e = absurd cc

pub key_stands_there : map.ChosenStandsThere → ChosenStandsThere
key_stands_there law room nesting setting bytes whole found message is =
    let choice = numbered (chosen (question_of whole.headers) setting.keys) found (message.chosen ∙ ap Ok is) in
    law (question_of whole.headers) setting.keys found.key choice.0 choice.1
