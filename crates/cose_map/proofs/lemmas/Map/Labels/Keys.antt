-- A set of numbers in increasing order.
use Rattle.std.proofs.Common.{◌≡◌, ℕ, zero, suc, ◌<◌, ◌≤◌, Bool, true, false, not, List, [], ◌∷◌, ◌++◌, length, take, drop, Result, Ok, Err, refl, sym, arith, ⊎_elim}
use Rattle.std.specs.Prelude.{nat_lt, ◌==◌, ◌&&◌, ◌||◌, is_ok, slice_index}
use Rattle.std.proofs.lemmas.Bool.{cases_Bool}
use Rattle.std.proofs.lemmas.Bool.Decides.{nat_tests}
use Rattle.cose_map.specs.Map.Labels.{rises_after, rises, is_in, IsPlace}

both : (a b : Bool) → (a && b) ≡ true → (a ≡ true) × (b ≡ true)
both true b e = (refl, e)
both false b e = cc

-- each number is above what comes before it
raised : (before key : ℕ) (keys : List ℕ) → before ≤ key → rises_after key keys ≡ true → rises_after before keys ≡ true
raised before key [] le up = refl
raised before key (next ∷ keys) le up =
    let parts = both (nat_lt key next) (rises_after next keys) up in
    rw (lower (nat_lt key next) parts.0) parts.1
  where
    lower : (b : Bool) → nat_lt key next ≡ true → nat_lt before next ≡ true
    lower b p = grind (arith, nat_tests)

later : (before : ℕ) (keys : List ℕ) → rises_after before keys ≡ true → rises keys ≡ true
later before [] up = refl
later before (key ∷ keys) up = (both (nat_lt before key) (rises_after key keys) up).1

above : (before : ℕ) (keys : List ℕ) (i : ℕ) → rises_after before keys ≡ true → i < length keys → before < slice_index keys i
above before [] i up l = absurd (omega (arith, l))
above before (key ∷ keys) zero up l = let parts = both (nat_lt before key) (rises_after key keys) up in grind (arith, nat_tests)
above before (key ∷ keys) (suc i) up l =
    let parts = both (nat_lt before key) (rises_after key keys) up in
    let first : before < key = grind (arith, nat_tests) in
    omega (arith, first, above key keys i parts.1 (omega (arith, l)))

pub sorted : (keys : List ℕ) (i j : ℕ) → rises keys ≡ true → i ≤ j → j < length keys → slice_index keys i ≤ slice_index keys j
sorted [] i j up le l = absurd (omega (arith, l))
sorted (key ∷ keys) zero zero up le l = omega arith
sorted (key ∷ keys) zero (suc j) up le l = omega (arith, above key keys j up (omega (arith, l)))
sorted (key ∷ keys) (suc i) zero up le l = absurd (omega (arith, le))
sorted (key ∷ keys) (suc i) (suc j) up le l = sorted keys i j (later key keys up) (omega (arith, le)) (omega (arith, l))

-- whether a number is there
not_equal : (a b : ℕ) → a < b → (a == b) ≡ false
not_equal a b l = grind (arith, nat_tests)

not_equal_above : (a b : ℕ) → b < a → (a == b) ≡ false
not_equal_above a b l = grind (arith, nat_tests)

none_above : (key before : ℕ) (keys : List ℕ) → key ≤ before → rises_after before keys ≡ true → is_in key keys ≡ false
none_above key before [] le up = refl
none_above key before (next ∷ keys) le up =
    let parts = both (nat_lt before next) (rises_after next keys) up in
    let first : before < next = grind (arith, nat_tests) in
    rw (not_equal key next (omega (arith, le, first))) (none_above key next keys (omega (arith, le, first)) parts.1)

here : (key : ℕ) (keys : List ℕ) (i : ℕ) → i < length keys → slice_index keys i ≡ key → is_in key keys ≡ true
here key [] i l e = absurd (omega (arith, l))
here key (first ∷ keys) zero l e = let same : (key == first) ≡ true = grind (arith, nat_tests) in rw same refl
here key (first ∷ keys) (suc i) l e = rw (here key keys i (omega (arith, l)) e) (or_true (key == first))
  where
    or_true : (b : Bool) → (b || true) ≡ true
    or_true true = refl
    or_true false = refl

absent : (key : ℕ) (keys : List ℕ) (i : ℕ) → ((k : ℕ) → k < i → slice_index keys k < key) → ((k : ℕ) → i ≤ k → k < length keys → key < slice_index keys k) → is_in key keys ≡ false
absent key [] i below up = refl
absent key (first ∷ keys) zero below up =
    rw (not_equal key first (up zero (omega arith) (omega arith))) (absent key keys zero (λ k l. absurd (omega (arith, l))) (λ k le l. up (suc k) (omega arith) (omega (arith, l))))
absent key (first ∷ keys) (suc i) below up =
    rw (not_equal_above key first (below zero (omega arith))) (absent key keys i (λ k l. below (suc k) (omega (arith, l))) (λ k le l. up (suc k) (omega (arith, le)) (omega (arith, l))))

pub placed_in : (key : ℕ) (keys : List ℕ) (place : Result ℕ ℕ) → IsPlace key keys place → is_ok place ≡ is_in key keys
placed_in key keys (Ok i) p = sym (here key keys i p.0 p.1)
placed_in key keys (Err i) p = sym (absent key keys i p.1 p.2)

-- one more number, where it belongs
pub inserted : (key : ℕ) (keys : List ℕ) (i : ℕ) (other : ℕ) → is_in other (take i keys ++ key ∷ drop i keys) ≡ ((other == key) || is_in other keys)
inserted key keys zero other = refl
inserted key [] (suc i) other = refl
inserted key (first ∷ keys) (suc i) other = rw (inserted key keys i other) (swap (other == first) (other == key) (is_in other keys))
  where
    swap : (a b c : Bool) → (a || (b || c)) ≡ (b || (a || c))
    swap true true c = refl
    swap true false c = refl
    swap false true c = refl
    swap false false c = refl

still_rises_after : (before key : ℕ) (keys : List ℕ) (i : ℕ) → rises_after before keys ≡ true → before < key → i ≤ length keys → ((k : ℕ) → k < i → slice_index keys k < key) → ((k : ℕ) → i ≤ k → k < length keys → key < slice_index keys k) →
    rises_after before (take i keys ++ key ∷ drop i keys) ≡ true
still_rises_after before key [] zero up l le below high = let first : nat_lt before key ≡ true = grind (arith, nat_tests) in rw first refl
still_rises_after before key (next ∷ keys) zero up l le below high =
    let first : nat_lt before key ≡ true = grind (arith, nat_tests) in
    let parts = both (nat_lt before next) (rises_after next keys) up in
    let second : nat_lt key next ≡ true = less key next (high zero (omega arith) (omega arith)) in
    rw (first, second) parts.1
  where
    less : (a b : ℕ) → a < b → nat_lt a b ≡ true
    less a b p = grind (arith, nat_tests)
still_rises_after before key [] (suc i) up l le below high = absurd (omega (arith, le))
still_rises_after before key (next ∷ keys) (suc i) up l le below high =
    let parts = both (nat_lt before next) (rises_after next keys) up in
    rw parts.0 (still_rises_after next key keys i parts.1 (below zero (omega arith)) (omega (arith, le)) (λ k p. below (suc k) (omega (arith, p))) (λ k p q. high (suc k) (omega (arith, p)) (omega (arith, q))))

pub still_rises : (key : ℕ) (keys : List ℕ) (i : ℕ) → rises keys ≡ true → i ≤ length keys → ((k : ℕ) → k < i → slice_index keys k < key) → ((k : ℕ) → i ≤ k → k < length keys → key < slice_index keys k) →
    rises (take i keys ++ key ∷ drop i keys) ≡ true
still_rises key [] zero up le below high = refl
still_rises key (first ∷ keys) zero up le below high = rw (less key first (high zero (omega arith) (omega arith))) up
  where
    less : (a b : ℕ) → a < b → nat_lt a b ≡ true
    less a b p = grind (arith, nat_tests)
still_rises key [] (suc i) up le below high = absurd (omega (arith, le))
still_rises key (first ∷ keys) (suc i) up le below high =
    still_rises_after first key keys i up (below zero (omega arith)) (omega (arith, le)) (λ k p. below (suc k) (omega (arith, p))) (λ k p q. high (suc k) (omega (arith, p)) (omega (arith, q)))

-- one number less
rises_without_after : (before : ℕ) (keys : List ℕ) (i : ℕ) → rises_after before keys ≡ true → rises_after before (take i keys ++ drop (suc i) keys) ≡ true
rises_without_after before [] zero up = refl
rises_without_after before [] (suc i) up = refl
rises_without_after before (key ∷ keys) zero up =
    let parts = both (nat_lt before key) (rises_after key keys) up in
    let first : before < key = grind (arith, nat_tests) in
    raised before key keys (omega (arith, first)) parts.1
rises_without_after before (key ∷ keys) (suc i) up =
    let parts = both (nat_lt before key) (rises_after key keys) up in
    rw parts.0 (rises_without_after key keys i parts.1)

pub rises_without : (keys : List ℕ) (i : ℕ) → rises keys ≡ true → rises (take i keys ++ drop (suc i) keys) ≡ true
rises_without [] zero up = refl
rises_without [] (suc i) up = refl
rises_without (key ∷ keys) zero up = later key keys up
rises_without (key ∷ keys) (suc i) up = rises_without_after key keys i up

removed_first : (key other : ℕ) (keys : List ℕ) → rises_after key keys ≡ true → is_in other keys ≡ (((other == key) || is_in other keys) && not (other == key))
removed_first key other keys up = ⊎_elim
    (λ same. let equal : other ≡ key = grind (arith, nat_tests) in rw (same, none_above other key keys (omega (arith, equal)) up) refl)
    (λ same. rw same (only (is_in other keys)))
    (cases_Bool (other == key))
  where
    only : (b : Bool) → b ≡ (b && true)
    only true = refl
    only false = refl

pub removed : (key other : ℕ) (keys : List ℕ) (i : ℕ) → rises keys ≡ true → i < length keys → slice_index keys i ≡ key →
    is_in other (take i keys ++ drop (suc i) keys) ≡ (is_in other keys && not (other == key))
removed key other [] i up l e = absurd (omega (arith, l))
removed key other (first ∷ keys) zero up l e = rw (← e) (removed_first first other keys up)
removed key other (first ∷ keys) (suc i) up l e =
    let first_below : first < key = rw (← e) (above first keys i up (omega (arith, l))) in
    rw (removed key other keys i (later first keys up) (omega (arith, l)) e) (apart (other == first) (other == key) (is_in other keys) (λ p q. absurd (both_equal p q first_below)))
  where
    both_equal : (other == first) ≡ true → (other == key) ≡ true → first < key → ⊥
    both_equal p q l = grind (arith, nat_tests)

    apart : (a b c : Bool) → (a ≡ true → b ≡ true → ⊥) → (a || (c && not b)) ≡ ((a || c) && not b)
    apart true true c f = absurd (f refl refl)
    apart true false c f = refl
    apart false b c f = refl

-- a number that isn't there
none_lost : (a b : Bool) → (a ≡ true → b ≡ false) → b ≡ (b && not a)
none_lost true b f = rw (f refl) refl
none_lost false true f = refl
none_lost false false f = refl

pub not_in : (key : ℕ) (keys : List ℕ) → is_in key keys ≡ false → (other : ℕ) → is_in other keys ≡ (is_in other keys && not (other == key))
not_in key keys none other = none_lost (other == key) (is_in other keys) (λ same. let equal : other ≡ key = grind (arith, nat_tests) in rw equal none)
