use Rattle.std.proofs.Common.{◌≡◌, ◌∙◌, ◌++◌, List, ap, codes, string_bytes, ℕ}
use Rattle.std.proofs.lemmas.List.{append_assoc}
use Rattle.cose_answers.proofs.answers.show.push_pair.Goals as goal

-- A text that had grown so far, and has by a piece more.
more : (text so_far old new piece : List ℕ) → new ≡ old ++ piece → old ≡ text ++ so_far → new ≡ text ++ (so_far ++ piece)
more text so_far old new piece is was = is ∙ ap (λ it. it ++ piece) was ∙ append_assoc text so_far piece

pub returns-clause-line : goal.returns-clause-line
returns-clause-line c =
    let text = string_bytes c.args.text.now in
    let name = c.args.name.now in
    let named = more text (name ++ codes " ") _ _ _ c.in_ok-push_named_hex.ensures.words (append_assoc text name (codes " ")) in
    more text _ _ _ _ c.in_ok-push_str-2.ensures.bytes (more text _ _ _ _ c.in_ok-push_notation.ensures.text (more text _ _ _ _ c.in_ok-push_hex.ensures.digits (more text _ _ _ _ c.in_ok-push_str.ensures.bytes named)))
