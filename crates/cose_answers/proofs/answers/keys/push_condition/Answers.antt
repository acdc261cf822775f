use Rattle.std.proofs.Common.{◌≡◌, ◌∙◌, ◌++◌, ℕ, List, ap, codes, string_bytes}
use Rattle.cose_answers.specs.KeysListed.{condition_word}
use Rattle.cose_answers.proofs.lemmas.Keys.Listings.{two_more}
use Rattle.cose_answers.proofs.answers.keys.push_condition.Goals as goal

pub returns-clause-words : goal.returns-clause-words
returns-clause-words c =
    let first : string_bytes c.push_str.new.self ≡ string_bytes c.args.line.now ++ codes " usable fails " = c.in_ok-push_str.ensures.bytes in
    let second : string_bytes c.push_str-2.new.self ≡ string_bytes c.push_str.new.self ++ c.condition_word.result.now = c.in_ok-push_str-2.ensures.bytes in
    two_more (string_bytes c.args.line.now) (string_bytes c.push_str.new.self) (string_bytes c.push_str-2.new.self) (codes " usable fails ") (condition_word c.args.condition) first
    (second ∙ ap (λ (word : List ℕ). string_bytes c.push_str.new.self ++ word) c.condition_word.ensures)
