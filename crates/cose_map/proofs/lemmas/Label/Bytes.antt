-- Two texts, compared one byte after the other.
use Rattle.std.proofs.Common.{◌≡◌, ◌∙◌, ℕ, zero, suc, ◌+◌, ◌<◌, min, Bool, true, false, cond, List, [], ◌∷◌, length, drop, refl, sym, ap, arith, add-one}
use Rattle.std.specs.Prelude.{nat_lt, ◌==◌, slice_index}
use Rattle.std.specs.Ordering.{nat_cmp, is_lt, ordering_then}
use Rattle.std.specs.declared.cmp.Ordering.{Ordering}
use Rattle.std.specs.declared.cmp.Ordering.TheVariants.{Less, Equal, Greater}
use Rattle.std.specs.Cmp.Lexicographic.{slice_cmp}
use Rattle.std.proofs.lemmas.Bool.Decides.{nat_tests}

abbrev pub before : List ℕ → List ℕ → Bool
before a b = is_lt (slice_cmp nat_cmp a b)

-- bytes that differ decide, and equal ones leave it to those that follow
decided : (less same : Bool) (rest : Ordering) → same ≡ false → is_lt (ordering_then (cond less Less (cond same Equal Greater)) rest) ≡ less
decided true same rest e = refl
decided false false rest e = refl
decided false true rest e = cc

passed : (less same : Bool) (rest : Ordering) → less ≡ false → same ≡ true → is_lt (ordering_then (cond less Less (cond same Equal Greater)) rest) ≡ is_lt rest
passed false true rest p q = refl
passed true same rest p q = cc
passed false false rest p q = cc

not_less : (x y : ℕ) → (x == y) ≡ true → nat_lt x y ≡ false
not_less x y e = grind (arith, nat_tests)

pub decided_at : (a b : List ℕ) (i : ℕ) → i < length a → i < length b → (slice_index a i == slice_index b i) ≡ false → before (drop i a) (drop i b) ≡ nat_lt (slice_index a i) (slice_index b i)
decided_at [] b i p q e = absurd (omega (arith, p))
decided_at (x ∷ xs) [] i p q e = absurd (omega (arith, q))
decided_at (x ∷ xs) (y ∷ ys) zero p q e = decided (nat_lt x y) (x == y) (slice_cmp nat_cmp xs ys) e
decided_at (x ∷ xs) (y ∷ ys) (suc i) p q e = decided_at xs ys i (omega (arith, p)) (omega (arith, q)) e

passed_on : (a b : List ℕ) (i : ℕ) → i < length a → i < length b → (slice_index a i == slice_index b i) ≡ true → before (drop i a) (drop i b) ≡ before (drop (suc i) a) (drop (suc i) b)
passed_on [] b i p q e = absurd (omega (arith, p))
passed_on (x ∷ xs) [] i p q e = absurd (omega (arith, q))
passed_on (x ∷ xs) (y ∷ ys) zero p q e = passed (nat_lt x y) (x == y) (slice_cmp nat_cmp xs ys) (not_less x y e) e
passed_on (x ∷ xs) (y ∷ ys) (suc i) p q e = passed_on xs ys i (omega (arith, p)) (omega (arith, q)) e

pub passed_at : (a b : List ℕ) (i : ℕ) → i < length a → i < length b → (slice_index a i == slice_index b i) ≡ true → before (drop (i + 1) a) (drop (i + 1) b) ≡ before (drop i a) (drop i b)
passed_at a b i p q e = ap (λ n. before (drop n a) (drop n b)) (add-one i) ∙ sym (passed_on a b i p q e)

some_more : (n : ℕ) → nat_lt zero (suc n) ≡ true
some_more n = grind (arith, nat_tests)

no_more : (n : ℕ) → nat_lt (suc n) zero ≡ false
no_more n = grind (arith, nat_tests)

-- where one ends, the shorter one comes before the other
pub ended_at : (a b : List ℕ) (i : ℕ) → i ≡ min (length a) (length b) → before (drop i a) (drop i b) ≡ nat_lt (length a) (length b)
ended_at [] [] zero e = refl
ended_at [] [] (suc i) e = absurd (omega (arith, e))
ended_at [] (y ∷ ys) zero e = sym (some_more (length ys))
ended_at [] (y ∷ ys) (suc i) e = absurd (omega (arith, e))
ended_at (x ∷ xs) [] zero e = sym (no_more (length xs))
ended_at (x ∷ xs) [] (suc i) e = absurd (omega (arith, e))
ended_at (x ∷ xs) (y ∷ ys) zero e = absurd (omega (arith, e))
ended_at (x ∷ xs) (y ∷ ys) (suc i) e = ended_at xs ys i (omega (arith, e)) ∙ one_more (length xs) (length ys)
  where
    one_more : (m n : ℕ) → nat_lt m n ≡ nat_lt (suc m) (suc n)
    one_more m n = grind (arith, nat_tests)
