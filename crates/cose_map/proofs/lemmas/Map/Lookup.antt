-- The search for the next labels among pairs.
use Rattle.std.proofs.Common.{◌≡◌, ◌∙◌, ℕ, zero, suc, ◌+◌, ◌-◌, ◌<◌, Bool, true, false, not, List, [], ◌∷◌, ◌++◌, take, drop, refl, sym, ap, arith, add-one}
use Rattle.std.specs.Prelude.{◌&&◌, ◌||◌}
use Rattle.cose_map.specs.Label.{LabelValue, same_label}
use Rattle.cose_map.specs.Map.Labels.{is_among}
use Rattle.cose_map.specs.Map.Names.{names_of}
use Rattle.cose_map.specs.Map.Pairs.{Pair, has_label}
use Rattle.cose_map.proofs.lemmas.Map.Labels.Others.{itself}
use Rattle.cose_map.proofs.lemmas.Map.Read.{one_more, one_less}

pub twice : (b : Bool) → not (not b) ≡ b
twice true = refl
twice false = refl

-- the next label is among those that are settled, and so is a later one
pub next_known : (name : LabelValue) (names : List LabelValue) (settled : ℕ) → 0 < settled → is_among name (take settled (name ∷ names)) ≡ true
next_known name names zero some = absurd (omega (arith, some))
next_known name names (suc settled) some = rw (itself name) refl

pub later_known : (name later : LabelValue) (names : List LabelValue) (settled : ℕ) → 0 < settled → is_among later (take (settled - 1) names) ≡ true → is_among later (take settled (name ∷ names)) ≡ true
later_known name later names zero some among = absurd (omega (arith, some))
later_known name later names (suc settled) some among =
    let one : suc settled - 1 ≡ settled = omega arith in
    ap (λ b. same_label later name || b) (sym (ap (λ n. is_among later (take n names)) one) ∙ among) ∙ or_true (same_label later name)
  where
    or_true : (b : Bool) → (b || true) ≡ true
    or_true true = refl
    or_true false = refl

-- the labels of the first pairs
pub named_among : (name : LabelValue) (n : ℕ) (pairs : List Pair) → has_label name (take n pairs) ≡ is_among name (take n (names_of pairs))
named_among name zero pairs = refl
named_among name (suc n) [] = refl
named_among name (suc n) (pair ∷ pairs) = ap (λ b. same_label name pair.name || b) (named_among name n pairs)

-- a set of the labels ahead, without those of pairs
pub settled_of : (held now among here : Bool) → held ≡ among → now ≡ (held && not here) → among ≡ true → now ≡ not here
settled_of held now among here e less is = less ∙ ap (λ b. b && not here) (e ∙ is)

-- one label more
among_more : (name next : LabelValue) (names : List LabelValue) → is_among name (names ++ next ∷ []) ≡ (same_label name next || is_among name names)
among_more name next [] = refl
among_more name next (first ∷ names) = rw (among_more name next names) (swap (same_label name first) (same_label name next) (is_among name names))
  where
    swap : (a b c : Bool) → (a || (b || c)) ≡ (b || (a || c))
    swap true true c = refl
    swap true false c = refl
    swap false true c = refl
    swap false false c = refl

pub more_names : (name next : LabelValue) (count : ℕ) (all others : List LabelValue) → drop count all ≡ next ∷ others → is_among name (take (count + 1) all) ≡ (same_label name next || is_among name (take count all))
more_names name next count all others e =
    ap (λ n. is_among name (take n all)) (add-one count) ∙ ap (is_among name) (one_more count all next others e) ∙ among_more name next (take count all)

pub one_further_name : (count : ℕ) (all : List LabelValue) (next : LabelValue) (others : List LabelValue) → drop count all ≡ next ∷ others → drop (count + 1) all ≡ others
one_further_name count all next others e = ap (λ n. drop n all) (add-one count) ∙ one_less count all next others e
