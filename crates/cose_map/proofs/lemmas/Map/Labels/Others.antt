-- A set of a few labels.
use Rattle.std.proofs.Common.{◌≡◌, ◌∙◌, ℕ, zero, suc, ◌<◌, Bool, true, false, not, List, [], ◌∷◌, ◌++◌, length, take, drop, map, Option, Some, None, refl, sym, ap, arith}
use Rattle.std.specs.Prelude.{◌&&◌, ◌||◌, is_some, slice_index_or}
use Rattle.std.proofs.lemmas.Bool.Decides.{Decides-int_eq}
use Rattle.std.proofs.lemmas.Slice.Eq.{bytes_eq-Decides}
use Rattle.cose_map.specs.Label.{LabelValue, number, words, same_label}
use Rattle.cose_map.specs.Map.Labels.{is_among, differ, IsFirst}
use Rattle.cose_map.proofs.lemmas.Label.Order.{is_same, not_same, true_false}

both : (a b : Bool) → (a && b) ≡ true → (a ≡ true) × (b ≡ true)
both true b e = (refl, e)
both false b e = cc

-- a label is the same as itself, and so are two that are the same as a third
pub itself : (a : LabelValue) → same_label a a ≡ true
itself (number a) = (Decides-int_eq a a).1 refl
itself (words a) = (bytes_eq-Decides a a).1 refl

pub in_turn : (a b : LabelValue) → a ≡ b → same_label a b ≡ true
in_turn a b e = rw e (itself b)

-- the first of some labels
first_in : (name found : LabelValue) (before after : List LabelValue) → same_label name found ≡ true → is_among name (before ++ found ∷ after) ≡ true
first_in name found [] after same = rw same refl
first_in name found (next ∷ before) after same = rw (first_in name found before after same) (or_true (same_label name next))
  where
    or_true : (b : Bool) → (b || true) ≡ true
    or_true true = refl
    or_true false = refl

pub place_is_there : (name : LabelValue) (names : List LabelValue) (place : Option ℕ) → IsFirst name names place → is_some place ≡ is_among name names
place_is_there name names None p = sym p
place_is_there name names (Some i) (before, found, after, is, counted, same) = rw is (sym (first_in name found before after same))

-- one more label
pub added : (name other : LabelValue) (names : List LabelValue) → is_among other (names ++ name ∷ []) ≡ (same_label other name || is_among other names)
added name other [] = refl
added name other (next ∷ names) = rw (added name other names) (swap (same_label other next) (same_label other name) (is_among other names))
  where
    swap : (a b c : Bool) → (a || (b || c)) ≡ (b || (a || c))
    swap true true c = refl
    swap true false c = refl
    swap false true c = refl
    swap false false c = refl

symmetric : (a b : LabelValue) → same_label a b ≡ false → same_label b a ≡ false
symmetric a b e = not_same (same_label b a) (λ same. true_false (same_label a b) (in_turn a b (sym (is_same b a same))) e)

pub differ_more : (name : LabelValue) (names : List LabelValue) → differ names ≡ true → is_among name names ≡ false → differ (names ++ name ∷ []) ≡ true
differ_more name [] all new = refl
differ_more name (next ∷ names) all new =
    let parts = both (not (is_among next names)) (differ names) all in
    let others = first_false (same_label name next) (is_among name names) new in
    rw (added name next names, symmetric name next others.0) (joined (is_among next names) (differ (names ++ name ∷ [])) parts.0 (differ_more name names parts.1 others.1))
  where
    first_false : (a b : Bool) → (a || b) ≡ false → (a ≡ false) × (b ≡ false)
    first_false true b e = cc
    first_false false b e = (refl, e)

    joined : (a b : Bool) → not a ≡ true → b ≡ true → (not a && b) ≡ true
    joined a b p q = rw (p, q) refl

-- one label less
none_of_equal : (name other : LabelValue) (names : List LabelValue) → same_label other name ≡ true → is_among name names ≡ false → is_among other names ≡ false
none_of_equal name other names same none = rw (is_same other name same) none

pub removed : (name found other : LabelValue) (before after : List LabelValue) → differ (before ++ found ∷ after) ≡ true → same_label name found ≡ true →
    is_among other (before ++ after) ≡ (is_among other (before ++ found ∷ after) && not (same_label other name))
removed name found other [] after all same =
    let parts = both (not (is_among found after)) (differ after) all in
    rw (is_same name found same) (at (same_label other found) (is_among other after) (λ equal. none_of_equal found other after equal (not_true (is_among found after) parts.0)))
  where
    not_true : (a : Bool) → not a ≡ true → a ≡ false
    not_true true e = cc
    not_true false e = refl

    at : (a b : Bool) → (a ≡ true → b ≡ false) → b ≡ ((a || b) && not a)
    at true b f = f refl
    at false true f = refl
    at false false f = refl
removed name found other (next ∷ before) after all same =
    let parts = both (not (is_among next (before ++ found ∷ after))) (differ (before ++ found ∷ after)) all in
    rw (removed name found other before after parts.1 same)
    (apart (same_label other next) (same_label other name) (is_among other (before ++ found ∷ after))
    (λ p q. absurd (true_false (is_among next (before ++ found ∷ after))
    (first_in next found before after (in_turn next found (sym (is_same other next p) ∙ is_same other name q ∙ is_same name found same)))
    (not_true (is_among next (before ++ found ∷ after)) parts.0))))
  where
    not_true : (a : Bool) → not a ≡ true → a ≡ false
    not_true true e = cc
    not_true false e = refl

    apart : (a b c : Bool) → (a ≡ true → b ≡ true → ⊥) → (a || (c && not b)) ≡ ((a || c) && not b)
    apart true true c f = absurd (f refl refl)
    apart true false c f = refl
    apart false b c f = refl

fewer : (name found : LabelValue) (before after : List LabelValue) → is_among name (before ++ found ∷ after) ≡ false → is_among name (before ++ after) ≡ false
fewer name found [] after none = second (same_label name found) (is_among name after) none
  where
    second : (a b : Bool) → (a || b) ≡ false → b ≡ false
    second true b e = cc
    second false b e = e
fewer name found (next ∷ before) after none =
    let parts = parted (same_label name next) (is_among name (before ++ found ∷ after)) none in
    rw parts.0 (fewer name found before after parts.1)
  where
    parted : (a b : Bool) → (a || b) ≡ false → (a ≡ false) × (b ≡ false)
    parted true b e = cc
    parted false b e = (refl, e)

pub differ_less : (found : LabelValue) (before after : List LabelValue) → differ (before ++ found ∷ after) ≡ true → differ (before ++ after) ≡ true
differ_less found [] after all = (both (not (is_among found after)) (differ after) all).1
differ_less found (next ∷ before) after all =
    let parts = both (not (is_among next (before ++ found ∷ after))) (differ (before ++ found ∷ after)) all in
    rw (fewer next found before after (not_true (is_among next (before ++ found ∷ after)) parts.0)) (differ_less found before after parts.1)
  where
    not_true : (a : Bool) → not a ≡ true → a ≡ false
    not_true true e = cc
    not_true false e = refl

-- what is left of a list without one of its elements
pub cut : {A : Type 0} (before : List A) (found : A) (after : List A) → take (length before) (before ++ found ∷ after) ++ drop (suc (length before)) (before ++ found ∷ after) ≡ before ++ after
cut [] found after = refl
cut (next ∷ before) found after = ap (λ l. next ∷ l) (cut before found after)

-- the same of a list that is seen through a function
pub cut_map : {A B : Type 0} (f : A → B) (xs : List A) (i : ℕ) → map f (take i xs ++ drop (suc i) xs) ≡ take i (map f xs) ++ drop (suc i) (map f xs)
cut_map f xs zero = drops f xs
  where
    drops : {A B : Type 0} (f : A → B) (xs : List A) → map f (drop (suc zero) xs) ≡ drop (suc zero) (map f xs)
    drops f [] = refl
    drops f (x ∷ xs) = refl
cut_map f [] (suc i) = refl
cut_map f (x ∷ xs) (suc i) = ap (λ l. f x ∷ l) (cut_map f xs i)

pub map_more : {A B : Type 0} (f : A → B) (xs : List A) (x : A) → map f (xs ++ x ∷ []) ≡ map f xs ++ f x ∷ []
map_more f [] x = refl
map_more f (y ∷ xs) x = ap (λ l. f y ∷ l) (map_more f xs x)

-- the place of an element that is the label
pub found_at : {A : Type 0} (view : A → LabelValue) (name : LabelValue) (xs : List A) (place index : ℕ) (d : A) → place ≡ index → index < length xs → same_label name (view (slice_index_or xs index d)) ≡ true → IsFirst name (map view xs) (Some place)
found_at view name [] place index d e l same = absurd (omega (arith, l))
found_at view name (x ∷ xs) place zero d e l same = ([], view x, map view xs, refl, sym e, same)
found_at view name (x ∷ xs) place (suc index) d e l same =
    let rest = found_at view name xs index index d refl (omega (arith, l)) same in
    (view x ∷ rest.0, rest.1, rest.2, ap (λ l. view x ∷ l) rest.3, ap suc rest.4 ∙ sym e, rest.5)

-- a list without the element at the place of a label
pub removed_at : {A : Type 0} (view : A → LabelValue) (name : LabelValue) (xs new : List A) (i : ℕ) → IsFirst name (map view xs) (Some i) → differ (map view xs) ≡ true → new ≡ take i xs ++ drop (suc i) xs →
    (differ (map view new) ≡ true) × ((other : LabelValue) → is_among other (map view new) ≡ (is_among other (map view xs) && not (same_label other name)))
removed_at view name xs new i (before, found, after, is, counted, same) all e =
    let left : map view new ≡ before ++ after =
    ap (map view) e ∙ cut_map view xs i ∙ ap (λ l. take i l ++ drop (suc i) l) is ∙ ap (λ n. take n (before ++ found ∷ after) ++ drop (suc n) (before ++ found ∷ after)) (sym counted) ∙ cut before found after in
    let distinct : differ (before ++ found ∷ after) ≡ true = sym (ap differ is) ∙ all in
    (ap differ left ∙ differ_less found before after distinct, λ other. ap (is_among other) left ∙ removed name found other before after distinct same ∙ ap (λ l. is_among other l && not (same_label other name)) (sym is))

-- a list with one more element
pub added_at : {A : Type 0} (view : A → LabelValue) (x : A) (xs new : List A) → differ (map view xs) ≡ true → is_among (view x) (map view xs) ≡ false → new ≡ xs ++ x ∷ [] →
    (differ (map view new) ≡ true) × ((other : LabelValue) → is_among other (map view new) ≡ (same_label other (view x) || is_among other (map view xs)))
added_at view x xs new all none e =
    let more : map view new ≡ map view xs ++ view x ∷ [] = ap (map view) e ∙ map_more view xs x in
    (ap differ more ∙ differ_more (view x) (map view xs) all none, λ other. ap (is_among other) more ∙ added (view x) other (map view xs))
