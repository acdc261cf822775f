-- A payload from a reader that has fewer bytes than are stated.
use Rattle.std.proofs.Common.{◌≡◌, ℕ, zero, suc, ◌<◌, ◌≤◌, ◌+◌, ◌^◌, Bool, true, false, List, ◌++◌, take, length, Option, Some, None, refl, sym, ap, ◌∙◌, arith, append_assoc, length-append}
use Rattle.std.specs.Prelude.{nat_lt}
use Rattle.std.specs.Io.KnownBytes.{Consumes}
use Rattle.std.proofs.lemmas.Bool.{ltb-true, ltb-false}
use Rattle.std.proofs.lemmas.List.{append_cancel_right, length-replicate, length-take-le}
use Rattle.cose_answers.specs.PayloadFile.{counted, never}

length_of_never : (count : ℕ) → length (never count) ≡ count
unfolding never
length_of_never count = length-replicate count 0

-- What came is of the reader's bytes, since the others are more than may be left.
came_first : (n left : ℕ) (content after came : List ℕ) (short : Bool) → nat_lt (length after) left ≡ short → length content < n → n < 2 ^ 64 → left < 2 ^ 64 → length came ≤ n →
    Consumes (Some (content ++ never (2 ^ 65))) (counted left (Some after)) came → (rest : List ℕ) × (content ≡ came ++ rest) × (0 < left)
came_first n left content after came true e fewer small small_left within consumes =
    let split : content ++ never (2 ^ 65) ≡ came ++ (after ++ never (2 ^ 65)) = rw e at consumes in
    let less : length after < left = ltb-true (length after) left e in
    (after, append_cancel_right content (came ++ after) (never (2 ^ 65)) (split ∙ sym (append_assoc came after (never (2 ^ 65)))), omega (arith, less))
came_first n left content after came false e fewer small small_left within consumes =
    let split : content ++ never (2 ^ 65) ≡ came ++ take left after = rw e at consumes in
    let enough : left ≤ length after = let f = ltb-false (length after) left e in omega (arith, f) in
    let first : length (take left after) ≡ left = length-take-le left after enough in
    let total : length content + length (never (2 ^ 65)) ≡ length came + length (take left after) =
    sym (length-append content (never (2 ^ 65))) ∙ ap (λ (b : List ℕ). length b) split ∙ length-append came (take left after) in
    absurd (omega (arith, total, length_of_never (2 ^ 65), first, within, small, small_left))

pub came_of_short : (n left : ℕ) (content : List ℕ) (after : Option (List ℕ)) (came : List ℕ) → length content < n → n < 2 ^ 64 → left < 2 ^ 64 → length came ≤ n →
    Consumes (Some (content ++ never (2 ^ 65))) (counted left after) came → (rest : List ℕ) × (content ≡ came ++ rest) × (0 < left)
came_of_short n left content None came fewer small small_left within consumes = absurd consumes
came_of_short n left content (Some after) came fewer small small_left within consumes = came_first n left content after came (nat_lt (length after) left) refl fewer small small_left within consumes

pub none_of : (n : ℕ) → (0 < n → ⊥) → n ≡ 0
none_of zero none = refl
none_of (suc n) none = absurd (none (omega arith))
