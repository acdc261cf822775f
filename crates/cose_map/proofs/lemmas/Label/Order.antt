-- A label after the greatest so far is new.
use Rattle.std.proofs.Common.{◌≡◌, ◌∙◌, ℕ, Bool, true, false, not, List, [], ◌∷◌, ◌++◌, Option, Some, None, refl, sym, ap, subst, arith, ⊎_elim}
use Rattle.std.specs.Prelude.{nat_lt, ◌==◌, ◌&&◌, ◌||◌}
use Rattle.std.specs.Ordering.{nat_cmp, is_lt}
use Rattle.std.specs.declared.cmp.Ordering.{Ordering}
use Rattle.std.specs.declared.cmp.Ordering.TheVariants.{Less, Equal, Greater}
use Rattle.std.specs.Cmp.Lexicographic.{slice_cmp}
use Rattle.std.specs.List.{list_any}
use Rattle.std.proofs.lemmas.Bool.{cases_Bool}
use Rattle.std.proofs.lemmas.Bool.Decides.{Decides-int_eq, nat_tests}
use Rattle.std.proofs.lemmas.Slice.Eq.{bytes_eq-Decides}
use Rattle.std.proofs.lemmas.Cmp.{nat_list_cmp_total, tied_itself}
use Rattle.cose_map.specs.Label.{LabelValue, number, words, same_label}
use Rattle.cose_map.specs.Label.Order.{rank, text_of, precedes, passes, greater, is_greatest}
use Rattle.cose_map.specs.Map.Pairs.{Pair, has_label}

-- the order
abbrev before : List ℕ → List ℕ → Bool
before a b = is_lt (slice_cmp nat_cmp a b)

not_before_itself : (a : List ℕ) → before a a ≡ false
not_before_itself a = ap is_lt (tied_itself nat_list_cmp_total a)

less_that : (o : Ordering) → is_lt o ≡ true → o ≡ Less
less_that Less e = refl
less_that Equal e = cc
less_that Greater e = cc

before_trans : (a b c : List ℕ) → before a b ≡ true → before b c ≡ true → before a c ≡ true
before_trans a b c p q = ap is_lt (nat_list_cmp_total.trans a b c (less_that _ p) (less_that _ q))

not_own : (n : ℕ) (t : Bool) → t ≡ false → (nat_lt n n || (n == n && t)) ≡ false
not_own n t e = rw e (grind (arith, nat_tests))

ranked_trans : (a b c : ℕ) (t u v : Bool) → (t ≡ true → u ≡ true → v ≡ true) → (nat_lt a b || (a == b && t)) ≡ true → (nat_lt b c || (b == c && u)) ≡ true → (nat_lt a c || (a == c && v)) ≡ true
ranked_trans a b c true true v f p q = rw (f refl refl) (grind (arith, nat_tests))
ranked_trans a b c true false v f p q = grind (arith, nat_tests)
ranked_trans a b c false true v f p q = grind (arith, nat_tests)
ranked_trans a b c false false v f p q = grind (arith, nat_tests)

pub irreflexive : (a : LabelValue) → precedes a a ≡ false
irreflexive a = not_own (rank a) (before (text_of a) (text_of a)) (not_before_itself (text_of a))

pub transitive : (a b c : LabelValue) → precedes a b ≡ true → precedes b c ≡ true → precedes a c ≡ true
transitive a b c = ranked_trans (rank a) (rank b) (rank c) (before (text_of a) (text_of b)) (before (text_of b) (text_of c)) (before (text_of a) (text_of c)) (before_trans (text_of a) (text_of b) (text_of c))

pub passes_on : (greatest : Option LabelValue) (name later : LabelValue) → passes greatest name ≡ true → precedes name later ≡ true → passes greatest later ≡ true
passes_on None name later p q = refl
passes_on (Some greatest) name later p q = transitive greatest name later p q

-- equal labels are the same
pub is_same : (a b : LabelValue) → same_label a b ≡ true → a ≡ b
is_same (number a) (number b) e = ap number ((Decides-int_eq a b).0 e)
is_same (words a) (words b) e = ap words ((bytes_eq-Decides a b).0 e)
is_same (number a) (words b) e = cc
is_same (words a) (number b) e = cc

-- tests
neither : (a b : Bool) → not (a || b) ≡ true → (a ≡ false) × (not b ≡ true)
neither true b e = cc
neither false b e = (refl, e)

pub not_same : (b : Bool) → (b ≡ true → ⊥) → b ≡ false
not_same true f = absurd (f refl)
not_same false f = refl

pub true_false : (b : Bool) → b ≡ true → b ≡ false → ⊥
true_false true p q = cc
true_false false p q = cc

pub none_passed : (greatest : Option LabelValue) (name : LabelValue) (pairs : List Pair) → is_greatest greatest pairs ≡ true → passes greatest name ≡ true → has_label name pairs ≡ false
none_passed greatest name [] all p = refl
none_passed greatest name (pair ∷ others) all p =
    let parts = neither (passes greatest pair.name) (list_any (λ pair. passes greatest pair.name) others) all in
    let other : same_label name pair.name ≡ false = not_same _ (λ same. true_false (passes greatest pair.name) (sym (ap (passes greatest) (is_same name pair.name same)) ∙ p) parts.0) in
    rw other (none_passed greatest name others parts.1 p)

-- the greatest, with one more label
none_after : (greatest : Option LabelValue) (name : LabelValue) (pairs : List Pair) → is_greatest greatest pairs ≡ true → passes greatest name ≡ true → is_greatest (Some name) pairs ≡ true
none_after greatest name [] all p = refl
none_after greatest name (pair ∷ others) all p =
    let parts = neither (passes greatest pair.name) (list_any (λ pair. passes greatest pair.name) others) all in
    let not_after : precedes name pair.name ≡ false = not_same _ (λ after. true_false (passes greatest pair.name) (passes_on greatest name pair.name p after) parts.0) in
    rw not_after (none_after greatest name others parts.1 p)

one_more : (greatest : Option LabelValue) (pair : Pair) (pairs : List Pair) → is_greatest greatest pairs ≡ true → passes greatest pair.name ≡ false → is_greatest greatest (pairs ++ pair ∷ []) ≡ true
one_more greatest pair [] all p = rw p refl
one_more greatest pair (first ∷ others) all p =
    let parts = neither (passes greatest first.name) (list_any (λ pair. passes greatest pair.name) others) all in
    rw parts.0 (one_more greatest pair others parts.1 p)

pub still_greatest : (greatest : Option LabelValue) (pair : Pair) (pairs : List Pair) → is_greatest greatest pairs ≡ true → is_greatest (greater greatest pair.name) (pairs ++ pair ∷ []) ≡ true
still_greatest greatest pair pairs all = ⊎_elim
    (λ p. rw p (one_more (Some pair.name) pair pairs (none_after greatest pair.name pairs all p) (irreflexive pair.name)))
    (λ p. rw p (one_more greatest pair pairs all p))
    (cases_Bool (passes greatest pair.name))

-- a label that passes the greatest is the greatest then
pub greatest_now : (greatest : Option LabelValue) (pair : Pair) (pairs : List Pair) → is_greatest greatest pairs ≡ true → passes greatest pair.name ≡ true → is_greatest (Some pair.name) (pairs ++ pair ∷ []) ≡ true
greatest_now greatest pair pairs all passed =
    let is : greater greatest pair.name ≡ Some pair.name = rw passed refl in
    subst (λ (g : Option LabelValue). is_greatest g (pairs ++ pair ∷ []) ≡ true) is (still_greatest greatest pair pairs all)
