-- The pairs of a map, checked one after another.
use Rattle.std.proofs.Common.{◌≡◌, ◌∙◌, ℕ, zero, suc, ◌+◌, ◌<◌, Bool, true, false, not, List, [], ◌∷◌, ◌++◌, length, take, drop, Option, Some, None, Ok, Err, refl, sym, ap, arith, add-one, append-nil}
use Rattle.std.proofs.lemmas.List.{take-append-drop}
use Rattle.cose_head.specs.declared.reason.Reason.{Reason}
use Rattle.cose_head.specs.declared.refusal.Refusal.{Refusal}
use Rattle.cose_head.specs.Placed.{Placed}
use Rattle.cose_map.specs.Label.{LabelValue, label_of}
use Rattle.cose_map.specs.Map.Read.{Read, ◌>>=◌, name_at, new_name, new_pair, value_at, pair_after, check_pairs}
use Rattle.cose_map.specs.Map.Search.{is_first}
use Rattle.cose_map.proofs.lemmas.Map.Labels.Others.{in_turn}
use Rattle.cose_map.specs.Map.Form.{Table}
use Rattle.cose_map.specs.Map.Pairs.{Pair, has_label, pairs_of, pairs_from}

-- the first elements of a list, with one more
pub one_more : {A : Type 0} (n : ℕ) (all : List A) (x : A) (others : List A) → drop n all ≡ x ∷ others → take (suc n) all ≡ take n all ++ x ∷ []
one_more zero [] x others e = cc
one_more zero (y ∷ ys) x others e = let same : y ≡ x = cc in rw same refl
one_more (suc n) [] x others e = cc
one_more (suc n) (y ∷ ys) x others e = ap (λ l. y ∷ l) (one_more n ys x others e)

pub one_less : {A : Type 0} (n : ℕ) (all : List A) (x : A) (others : List A) → drop n all ≡ x ∷ others → drop (suc n) all ≡ others
one_less zero [] x others e = cc
one_less zero (y ∷ ys) x others e = let same : ys ≡ others = cc in same
one_less (suc n) [] x others e = cc
one_less (suc n) (y ∷ ys) x others e = one_less n ys x others e

pub all_taken : {A : Type 0} (n : ℕ) (all : List A) → drop n all ≡ [] → take n all ≡ all
all_taken n all e = sym (append-nil (take n all)) ∙ ap (λ l. take n all ++ l) (sym e) ∙ take-append-drop n all

-- a pair that was checked is the next one that has a name
checked_value : (o : Option Reason) (name : LabelValue) (label value : Placed) (pair : Pair) (others : List Pair) → value_at label o name value ≡ Ok pair →
    ◌≡◌ {A = List Pair} (record { name = name; label = label; value = value } ∷ others) (pair ∷ others)
checked_value None name label value pair others e = let same : record { name = name; label = label; value = value } ≡ pair = cc in rw same refl
checked_value (Some reason) name label value pair others e = cc

checked_new : (taken : Bool) (table : Table) (name : LabelValue) (label value : Placed) (pair : Pair) (others : List Pair) →
    (new_name label taken name >>= λ n. value_at label (table n value) n value) ≡ Ok pair →
    ◌≡◌ {A = List Pair} (record { name = name; label = label; value = value } ∷ others) (pair ∷ others)
checked_new true table name label value pair others e = cc
checked_new false table name label value pair others e = checked_value (table name value) name label value pair others e

checked_name : (o : Option LabelValue) (table : Table) (earlier : List Pair) (label value : Placed) (pair : Pair) (others : List Pair) →
    ((name_at label o >>= λ n. new_name label (has_label n earlier) n) >>= λ n. value_at label (table n value) n value) ≡ Ok pair →
    pairs_from o label value others ≡ pair ∷ others
checked_name None table earlier label value pair others e = cc
checked_name (Some name) table earlier label value pair others e = checked_new (has_label name earlier) table name label value pair others e

pub checked_named : (table : Table) (earlier : List Pair) (label value : Placed) (pair : Pair) (others : List Placed) →
    pair_after table earlier label value ≡ Ok pair → pairs_of (label ∷ value ∷ others) ≡ pair ∷ pairs_of others
unfolding pairs_of
checked_named table earlier label value pair others e = checked_name (label_of label) table earlier label value pair (pairs_of others) e

-- the check continues after a pair without a fault, and ends at one with a fault
check_on : (table : Table) (earlier : List Pair) (label value : Placed) (others : List Placed) (pair : Pair) → pair_after table earlier label value ≡ Ok pair →
    check_pairs table earlier (label ∷ value ∷ others) ≡ check_pairs table (earlier ++ pair ∷ []) others
unfolding check_pairs
check_on table earlier label value others pair e = rw e refl

check_off : (table : Table) (earlier : List Pair) (label value : Placed) (others : List Placed) (refusal : Refusal) → pair_after table earlier label value ≡ Err refusal →
    check_pairs table earlier (label ∷ value ∷ others) ≡ Err refusal
unfolding check_pairs
check_off table earlier label value others refusal e = rw e refl

pub pairs_on : (table : Table) (all : List Pair) (count : ℕ) (rest : List Placed) (label value : Placed) (others : List Placed) (answer : Read (List Pair)) (pair : Pair) →
    rest ≡ label ∷ value ∷ others → drop count all ≡ pairs_of rest → check_pairs table (take count all) rest ≡ answer → Ok pair ≡ pair_after table (take count all) label value →
    (take (count + 1) all ≡ take count all ++ pair ∷ []) × (check_pairs table (take (count + 1) all) others ≡ answer) × (drop (count + 1) all ≡ pairs_of others)
pairs_on table all count rest label value others answer pair e left same pass =
    let next : drop count all ≡ pair ∷ pairs_of others = left ∙ ap pairs_of e ∙ checked_named table (take count all) label value pair others (sym pass) in
    let more : take (count + 1) all ≡ take count all ++ pair ∷ [] = rw (add-one count) (one_more count all pair (pairs_of others) next) in
    let less : drop (count + 1) all ≡ pairs_of others = rw (add-one count) (one_less count all pair (pairs_of others) next) in
    (more, rw more (sym (check_on table (take count all) label value others pair (sym pass)) ∙ ap (check_pairs table (take count all)) (sym e) ∙ same), less)

pub pairs_off : (table : Table) (all : List Pair) (count : ℕ) (rest : List Placed) (label value : Placed) (others : List Placed) (answer : Read (List Pair)) (refusal : Refusal) →
    rest ≡ label ∷ value ∷ others → check_pairs table (take count all) rest ≡ answer → Err refusal ≡ pair_after table (take count all) label value → Err refusal ≡ answer
pairs_off table all count rest label value others answer refusal e same stop =
    sym (check_off table (take count all) label value others refusal (sym stop)) ∙ ap (check_pairs table (take count all)) (sym e) ∙ same

few_named : (rest : List Placed) → length rest < 2 → pairs_of rest ≡ []
unfolding pairs_of
few_named [] few = refl
few_named (label ∷ []) few = refl
few_named (label ∷ value ∷ others) few = absurd (omega (arith, few))

few_checked : (table : Table) (earlier : List Pair) (rest : List Placed) → length rest < 2 → check_pairs table earlier rest ≡ Ok earlier
unfolding check_pairs
few_checked table earlier [] few = refl
few_checked table earlier (label ∷ []) few = refl
few_checked table earlier (label ∷ value ∷ others) few = absurd (omega (arith, few))

pub pairs_done : (table : Table) (all : List Pair) (count : ℕ) (rest : List Placed) (answer : Read (List Pair)) →
    length rest < 2 → drop count all ≡ pairs_of rest → check_pairs table (take count all) rest ≡ answer → Ok all ≡ answer
pairs_done table all count rest answer few left same =
    let every : take count all ≡ all = all_taken count all (left ∙ few_named rest few) in
    ap Ok (sym every) ∙ sym (few_checked table (take count all) rest few) ∙ same

-- a pair by its parts: the item that isn't a label, and a label that is new or not
pub no_label_after : (table : Table) (earlier : List Pair) (label value : Placed) (refusal : Refusal) → Err refusal ≡ name_at label (label_of label) → Err refusal ≡ pair_after table earlier label value
no_label_after table earlier label value refusal e = ap (λ (x : Read LabelValue). (x >>= λ name. new_name label (has_label name earlier) name) >>= λ name. value_at label (table name value) name value) e

pub pair_checked : (table : Table) (earlier : List Pair) (label value : Placed) (name : LabelValue) (new : Bool) (answer : Read Pair) → Ok name ≡ name_at label (label_of label) → new ≡ not (has_label name earlier) →
    answer ≡ new_pair table (not new) label name value → answer ≡ pair_after table earlier label value
pair_checked table earlier label value name new answer e is checked =
    checked ∙ ap (λ b. new_pair table (not b) label name value) is ∙ ap (λ b. new_pair table b label name value) (twice (has_label name earlier)) ∙
    ap (λ (x : Read LabelValue). (x >>= λ name. new_name label (has_label name earlier) name) >>= λ name. value_at label (table name value) name value) e
  where
    twice : (b : Bool) → not (not b) ≡ b
    twice true = refl
    twice false = refl

-- a pair that was checked has the name that it was checked under
named : (o : Option Reason) (name : LabelValue) (label value : Placed) (pair : Pair) → value_at label o name value ≡ Ok pair → pair.name ≡ name
named None name label value pair e = let same : record { name = name; label = label; value = value } ≡ pair = cc in sym (ap (λ (p : Pair). p.name) same)
named (Some reason) name label value pair e = absurd cc

pub checked_label : (table : Table) (label value : Placed) (name : LabelValue) (pair : Pair) → Ok pair ≡ new_pair table false label name value → pair.name ≡ name
checked_label table label value name pair e = named (table name value) name label value pair (sym e)

-- the label of the first pair of those that are left
pub named_first : (label value : Placed) (others : List Placed) (rest : List Placed) (name : LabelValue) → rest ≡ label ∷ value ∷ others → Ok name ≡ name_at label (label_of label) → is_first name (pairs_of rest) ≡ true
unfolding pairs_of
named_first label value others rest name e is = ap (λ l. is_first name (pairs_of l)) e ∙ at (label_of label) is
  where
    at : (o : Option LabelValue) → Ok name ≡ name_at label o → is_first name (pairs_from o label value (pairs_of others)) ≡ true
    at None same = cc
    at (Some found) same = let equal : name ≡ found = cc in in_turn name found equal
