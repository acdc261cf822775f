-- A label among pairs whose labels come in increasing order.
use Rattle.std.proofs.Common.{◌≡◌, ◌∙◌, Bool, true, false, not, List, [], ◌∷◌, Option, Some, None, refl, sym, ap, ⊎_elim}
use Rattle.std.specs.Prelude.{cond, ◌&&◌, ◌||◌}
use Rattle.std.proofs.lemmas.Bool.{cases_Bool}
use Rattle.cose_map.specs.Label.{LabelValue, same_label}
use Rattle.cose_map.specs.Label.Order.{precedes, passes}
use Rattle.cose_map.specs.Map.Search.{rise_after, from, is_first, IsAhead}
use Rattle.cose_map.specs.Map.Pairs.{Pair, has_label}
use Rattle.cose_map.proofs.lemmas.Label.Order.{irreflexive, transitive, passes_on, is_same, not_same, true_false}

-- tests
both : (a b : Bool) → (a && b) ≡ true → (a ≡ true) × (b ≡ true)
both true b e = (refl, e)
both false b e = cc

second_false : (a b : Bool) → (a || b) ≡ false → b ≡ false
second_false true b e = cc
second_false false b e = e

-- a label that comes before another isn't it
not_later : (name later : LabelValue) → precedes name later ≡ true → same_label name later ≡ false
not_later name later p = not_same _ (λ same. true_false (precedes name later) p (ap (precedes name) (sym (is_same name later same)) ∙ irreflexive name))

rise_from_any : (before : Option LabelValue) (pairs : List Pair) → rise_after before pairs ≡ true → rise_after None pairs ≡ true
rise_from_any before [] e = refl
rise_from_any before (pair ∷ others) e = (both (passes before pair.name) (rise_after (Some pair.name) others) e).1

-- the first label that comes after one ends the search for it
none_rising : (name after : LabelValue) (pairs : List Pair) → precedes name after ≡ true → rise_after (Some after) pairs ≡ true → has_label name pairs ≡ false
none_rising name after [] p e = refl
none_rising name after (pair ∷ others) p e =
    let parts = both (precedes after pair.name) (rise_after (Some pair.name) others) e in
    let further : precedes name pair.name ≡ true = transitive name after pair.name p parts.0 in
    rw (not_later name pair.name further) (none_rising name pair.name others further parts.1)

pub found_first : (name : LabelValue) (pairs : List Pair) → rise_after None pairs ≡ true → is_first name (from name pairs) ≡ has_label name pairs
found_first name [] e = refl
found_first name (pair ∷ others) e = at (same_label name pair.name) (precedes name pair.name) refl refl (found_first name others (rise_from_any (Some pair.name) others e))
  where
    at : (same before : Bool) → same_label name pair.name ≡ same → precedes name pair.name ≡ before → is_first name (from name others) ≡ has_label name others →
        is_first name (cond (same || before) (pair ∷ others) (from name others)) ≡ (same || has_label name others)
    at true before s p later = s
    at false true s p later = s ∙ sym (none_rising name pair.name others p e)
    at false false s p later = later

from_rises : (name : LabelValue) (pairs : List Pair) → rise_after None pairs ≡ true → rise_after None (from name pairs) ≡ true
from_rises name [] e = refl
from_rises name (pair ∷ others) e = ⊎_elim (λ t. rw t e) (λ t. rw t (from_rises name others (rise_from_any (Some pair.name) others e)))
    (cases_Bool (same_label name pair.name || precedes name pair.name))

pub still_rising : (name : LabelValue) (rising : Bool) (pairs : List Pair) → (not rising || rise_after None pairs) ≡ true → (not rising || rise_after None (from name pairs)) ≡ true
still_rising name true pairs e = from_rises name pairs e
still_rising name false pairs e = refl

-- labels that come after the one that was searched are none of those that were skipped
from_keeps : (name later : LabelValue) (pairs : List Pair) → precedes name later ≡ true → has_label later (from name pairs) ≡ has_label later pairs
from_keeps name later [] p = refl
from_keeps name later (pair ∷ others) p = ⊎_elim (λ t. rw t refl)
    (λ t. let other : same_label later pair.name ≡ false = not_same _ (λ same. true_false (precedes name pair.name)
    (sym (ap (precedes name) (is_same later pair.name same)) ∙ p) (second_false (same_label name pair.name) (precedes name pair.name) t)) in
    rw (t, other) (from_keeps name later others p))
    (cases_Bool (same_label name pair.name || precedes name pair.name))

pub from_ahead : (last : Option LabelValue) (name : LabelValue) (ahead all : List Pair) → passes last name ≡ true → IsAhead last ahead all → IsAhead (Some name) (from name ahead) all
from_ahead last name ahead all p others later q = from_keeps name later ahead q ∙ others later (passes_on last name later p q)
