use Rattle.std.proofs.Common.{◌≡◌, ◌∙◌, [], ◌<◌, ◌+◌, Bool, Bor, List, ap, drop, false, get_or, length, map, rules, sym, ℕ}
use Rattle.std.specs.Prelude.{◌||◌}
use Rattle.std.proofs.lemmas.List.{at_drop_more}
use Rattle.cosecmd.specs.CommandLine.{ask_for_help, is_for_help}
use Rattle.cosecmd.proofs.arguments.asks_for_help.Goals as goal

pub words-preserved : goal.words-preserved
words-preserved c =
    let words = c.args.words.now in
    let at = c.words.word-index in
    let none : Bor (List ℕ) = record { ref_ptr = (0, 0); now = [] } in
    let word : List ℕ = (get_or words at none).now in
    let within : at < length words = search rules in
    let no : is_for_help word ≡ false = sym c.is_for_help.ensures ∙ c.if-is_for_help.false in
    let opened = at_drop_more (λ (left : List (Bor (List ℕ))). ask_for_help (map (λ it. it.now) left)) words at none within in
    sym (ap (λ (first : Bool). first || ask_for_help (map (λ it. it.now) (drop (at + 1) words))) no) ∙ sym opened ∙ c.words.invariant
