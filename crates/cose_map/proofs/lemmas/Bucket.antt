-- Whether a bucket has a label.
pub mod Both
pub mod EachFault
use Rattle.std.proofs.Common.{◌≡◌, ◌∙◌, ap, Option, None, List, [], ◌∷◌, refl}
use Rattle.cose_head.specs.Placed.{Placed}
use Rattle.std.specs.Prelude.{is_some, option_map, cond, ◌||◌, Bool, true, false, Some}
use Rattle.cose_map.specs.Label.{LabelValue, same_label}
use Rattle.cose_map.specs.Map.Pairs.{value_of, Pair, has_label, pair_of}

has_value : (name : LabelValue) (pairs : List Pair) → is_some (value_of name pairs) ≡ has_label name pairs
has_value name [] = refl
has_value name (pair ∷ others) = found (same_label name pair.name) (has_value name others)
  where
    found : (b : Bool) → is_some (value_of name others) ≡ has_label name others →
        is_some (option_map (λ p. p.value) (cond b (Some pair) (pair_of name others))) ≡ (b || has_label name others)
    found true e = refl
    found false e = e

mapped : {A B : Type 0} (f : A → B) (o : Option A) → is_some o ≡ is_some (option_map f o)
mapped f None = refl
mapped f (Some a) = refl

pub is_there : {A : Type 0} (f : A → Placed) (o : Option A) (name : LabelValue) (pairs : List Pair) → option_map f o ≡ value_of name pairs → is_some o ≡ has_label name pairs
is_there f o name pairs e = mapped f o ∙ ap is_some e ∙ has_value name pairs
