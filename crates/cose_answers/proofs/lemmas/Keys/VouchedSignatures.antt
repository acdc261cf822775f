-- An argument of `--vouch` that is compared piece by piece.
use Rattle.std.proofs.Common.{◌≡◌, ℕ, List, ◌++◌, Option, Some, None, option_map, Bor, sym, ap, ◌∙◌}
use Rattle.std.specs.Prelude.{◌≢◌, MatchOption}
use Rattle.std.specs.Str.{bytes_eq}
use Rattle.std.proofs.lemmas.Bool.{false_from_ne_true}
use Rattle.std.proofs.lemmas.Bool.Decides.{Decides-like, same_from_decides}
use Rattle.std.proofs.lemmas.List.{append_cancel_left}
use Rattle.std.proofs.lemmas.Slice.Eq.{bytes_eq-Decides}
use Rattle.cose_map.specs.Key.View.{contents}
use Rattle.cose_answers.specs.Vouch.{is_then}

-- An argument is a piece and the rest exactly where it begins with the piece and what is left is the rest.
pub same_rest : (word piece rest : List ℕ) (left : Option (Bor (List ℕ))) → MatchOption left ((rest : List ℕ) → word ≢ piece ++ rest) (λ x. word ≡ piece ++ x.now)
    → bytes_eq word (piece ++ rest) ≡ is_then (option_map contents left) rest
same_rest word piece rest None m = false_from_ne_true _ (λ e. m rest ((bytes_eq-Decides word (piece ++ rest)).0 e))
same_rest word piece rest (Some x) m =
    same_from_decides _ _ (bytes_eq-Decides word (piece ++ rest))
    (Decides-like (bytes_eq x.now rest) (λ e. m ∙ ap (λ (t : List ℕ). piece ++ t) e) (λ e. append_cancel_left piece x.now rest (sym m ∙ e)) (bytes_eq-Decides x.now rest))
