-- Labels that are read ahead, and those of earlier pairs.
use Rattle.std.proofs.Common.{◌≡◌, ◌∙◌, ℕ, zero, suc, ◌+◌, ◌-◌, ◌<◌, ◌≤◌, Bool, true, false, not, List, [], ◌∷◌, ◌++◌, take, drop, Option, refl, sym, ap, arith, add-one}
use Rattle.std.specs.Prelude.{◌&&◌, ◌||◌}
use Rattle.cose_map.specs.Label.{LabelValue, same_label}
use Rattle.cose_map.specs.Label.Order.{greater, is_greatest}
use Rattle.cose_map.specs.Map.Pairs.{Pair, has_label}
use Rattle.cose_map.specs.Map.Search.{is_first}
use Rattle.cose_map.proofs.lemmas.Label.Order.{is_same, still_greatest}
use Rattle.cose_map.proofs.lemmas.Map.Read.{one_more, one_less}

has_more : (name : LabelValue) (pairs : List Pair) (pair : Pair) → has_label name (pairs ++ pair ∷ []) ≡ (same_label name pair.name || has_label name pairs)
has_more name [] pair = refl
has_more name (next ∷ pairs) pair = rw (has_more name pairs pair) (swap (same_label name next.name) (same_label name pair.name) (has_label name pairs))
  where
    swap : (a b c : Bool) → (a || (b || c)) ≡ (b || (a || c))
    swap true true c = refl
    swap true false c = refl
    swap false true c = refl
    swap false false c = refl

-- the labels of the first pairs, with one pair more
pub more_labels : (name : LabelValue) (count : ℕ) (all : List Pair) (pair : Pair) (others : List Pair) → drop count all ≡ pair ∷ others → has_label name (take (count + 1) all) ≡ (same_label name pair.name || has_label name (take count all))
more_labels name count all pair others e =
    ap (λ n. has_label name (take n all)) (add-one count) ∙ ap (has_label name) (one_more count all pair others e) ∙ has_more name (take count all) pair

pub one_further : (count : ℕ) (all : List Pair) (pair : Pair) (others : List Pair) → drop count all ≡ pair ∷ others → drop (count + 1) all ≡ others
one_further count all pair others e = ap (λ n. drop n all) (add-one count) ∙ one_less count all pair others e

pub not_most : (n : ℕ) → n ≤ 118 → (n ≡ 118 → ⊥) → n + 1 ≤ 118
not_most n le other = grind arith

-- what is left of a set without the labels of the first pairs
pub less_labels : (name : LabelValue) (left : ℕ) (pairs : List Pair) (pair : Pair) (others : List Pair) (held now : Bool) → pairs ≡ pair ∷ others → (left ≡ 0 → ⊥) → now ≡ (held && not (same_label name pair.name)) →
    (now && not (has_label name (take (left - 1) others))) ≡ (held && not (has_label name (take left pairs)))
less_labels name zero pairs pair others held now e more is = absurd (more refl)
less_labels name (suc left) pairs pair others held now e more is =
    let one : suc left - 1 ≡ left = omega arith in
    rw (e, one, is) (joined held (same_label name pair.name) (has_label name (take left others)))
  where
    joined : (a b c : Bool) → ((a && not b) && not c) ≡ (a && not (b || c))
    joined false b c = refl
    joined true true c = refl
    joined true false c = refl

-- the first of the pairs ahead
pub first_ahead : (name : LabelValue) (pairs : List Pair) → is_first name pairs ≡ true → (pair : Pair) × (others : List Pair) × (pairs ≡ pair ∷ others) × (name ≡ pair.name)
first_ahead name [] e = cc
first_ahead name (pair ∷ others) e = (pair, others, refl, is_same name pair.name e)

pub first_known : (name : LabelValue) (left : ℕ) (pairs : List Pair) → 0 < left → is_first name pairs ≡ true → has_label name (take left pairs) ≡ true
first_known name zero pairs l e = absurd (omega (arith, l))
first_known name (suc left) [] l e = cc
first_known name (suc left) (pair ∷ others) l e = rw e refl

pub greatest_next : (greatest : Option LabelValue) (name : LabelValue) (count : ℕ) (all ahead : List Pair) → is_greatest greatest (take count all) ≡ true → drop count all ≡ ahead → is_first name ahead ≡ true →
    is_greatest (greater greatest name) (take (count + 1) all) ≡ true
greatest_next greatest name count all ahead most e here =
    let first = first_ahead name ahead here in
    let longer : take (count + 1) all ≡ take count all ++ first.0 ∷ [] = ap (λ n. take n all) (add-one count) ∙ one_more count all first.0 first.1 (e ∙ first.2) in
    ap (λ n. is_greatest (greater greatest n) (take (count + 1) all)) first.3 ∙ ap (is_greatest (greater greatest first.0.name)) longer ∙ still_greatest greatest first.0 (take count all) most

-- what is settled of the pairs ahead, after the first of them
pub still_settled : (known new : LabelValue → Bool) (name : LabelValue) (left count next : ℕ) (all pairs ahead : List Pair) → pairs ≡ all → next ≡ count + 1 → 0 < left → drop count all ≡ ahead → is_first name ahead ≡ true →
    ((n : LabelValue) → has_label n (take left (drop count all)) ≡ true → known n ≡ not (has_label n (take count all))) → ((n : LabelValue) → new n ≡ (known n && not (same_label n name))) →
    (n : LabelValue) → has_label n (take (left - 1) (drop next pairs)) ≡ true → new n ≡ not (has_label n (take next pairs))
still_settled known new name zero count next all pairs ahead same on some e here settled less n has = absurd (omega (arith, some))
still_settled known new name (suc left) count next all pairs ahead same on some e here settled less n has =
    let first = first_ahead name ahead here in
    let step : drop count all ≡ first.0 ∷ first.1 = e ∙ first.2 in
    let one : suc left - 1 ≡ left = omega arith in
    let further : drop next pairs ≡ first.1 = ap (drop next) same ∙ ap (λ k. drop k all) on ∙ one_further count all first.0 first.1 step in
    let later : has_label n (take left first.1) ≡ true = sym (ap (λ k. has_label n (take k (drop next pairs))) one ∙ ap (λ l. has_label n (take left l)) further) ∙ has in
    let among : has_label n (take (suc left) (drop count all)) ≡ true = ap (λ l. has_label n (take (suc left) l)) step ∙ ap (λ b. same_label n first.0.name || b) later ∙ or_true (same_label n first.0.name) in
    let earlier : has_label n (take next pairs) ≡ (same_label n first.0.name || has_label n (take count all)) = ap (λ l. has_label n (take next l)) same ∙ ap (λ k. has_label n (take k all)) on ∙ more_labels n count all first.0 first.1 step in
    less n ∙ ap (λ b. b && not (same_label n name)) (settled n among) ∙ ap (λ m. not (has_label n (take count all)) && not (same_label n m)) first.3 ∙ neither (same_label n first.0.name) (has_label n (take count all)) ∙ ap not (sym earlier)
  where
    or_true : (b : Bool) → (b || true) ≡ true
    or_true true = refl
    or_true false = refl

    neither : (a b : Bool) → (not b && not a) ≡ not (a || b)
    neither true true = refl
    neither true false = refl
    neither false true = refl
    neither false false = refl
