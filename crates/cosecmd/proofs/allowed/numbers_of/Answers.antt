use Rattle.std.proofs.Common.{◌≡◌, ◌∙◌, ◌++◌, ◌∷◌, [], ◌<◌, ◌+◌, Bor, List, None, SFits, Some, drop, get_or, length, map, option_map, refl, rules, sym, ℕ}
use Rattle.std.specs.Int.{w128}
use Rattle.std.proofs.lemmas.Int.{to_z-of_z}
use Rattle.std.proofs.lemmas.List.{at_drop_more}
use Rattle.cosecmd.specs.Allowed.{algorithm_written, algorithms_written, and_number}
use Rattle.cosecmd.proofs.lemmas.Keys.AllowedKeys.{one_more}
use Rattle.cosecmd.proofs.allowed.numbers_of.Goals as goal

pub words-preserved : goal.words-preserved
words-preserved c =
    let words = c.args.words.now in
    let at = c.words.word-index in
    let so_far = c.words.numbers.items in
    let number = c.in-Some.number in
    let in_range : SFits w128 number = search rules in
    let none : Bor (List ℕ) = record { ref_ptr = (0, 0); now = [] } in
    let word : List ℕ = (get_or words at none).now in
    let within : at < length words = search rules in
    let pushed : c.push.new.self.items ≡ so_far ++ (number ∷ []) = rw (to_z-of_z w128 number in_range) at c.in_ok-push-in-Some.ensures.items in
    let written : algorithm_written word ≡ Some number = sym c.number_of.ensures ∙ c.in-Some.is in
    let opened = at_drop_more (λ (left : List (Bor (List ℕ))). option_map (λ others. so_far ++ others) (algorithms_written (map (λ it. it.now) left))) words at none within in
    rw pushed (one_more so_far (algorithm_written word) number (algorithms_written (map (λ it. it.now) (drop (at + 1) words))) written ∙ sym opened ∙ c.words.invariant)

pub returns-in-None : goal.returns-in-None
returns-in-None c =
    let words = c.args.words.now in
    let at = c.words.word-index in
    let so_far = c.words.numbers.items in
    let none : Bor (List ℕ) = record { ref_ptr = (0, 0); now = [] } in
    let word : List ℕ = (get_or words at none).now in
    let within : at < length words = search rules in
    let written : algorithm_written word ≡ None = sym c.number_of.ensures ∙ c.in-None.is in
    let ended : option_map (λ others. so_far ++ others) (and_number (algorithm_written word) (algorithms_written (map (λ it. it.now) (drop (at + 1) words)))) ≡ None = rw written refl in
    let opened = at_drop_more (λ (left : List (Bor (List ℕ))). option_map (λ others. so_far ++ others) (algorithms_written (map (λ it. it.now) left))) words at none within in
    sym ended ∙ sym opened ∙ c.words.invariant
