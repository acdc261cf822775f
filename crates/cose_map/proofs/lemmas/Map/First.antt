-- The first value of a label, pair by pair.
use Rattle.std.proofs.Common.{◌≡◌, true, false, List, ◌∷◌, Some, refl}
use Rattle.cose_map.specs.Label.{LabelValue, same_label}
use Rattle.cose_map.specs.Map.Pairs.{Pair, value_of}

-- the value of a pair that has the label, and of one that hasn't
pub value_found : (name : LabelValue) (pair : Pair) (others : List Pair) → same_label name pair.name ≡ true → value_of name (pair ∷ others) ≡ Some pair.value
value_found name pair others same = rw same refl

pub value_passed : (name : LabelValue) (pair : Pair) (others : List Pair) → same_label name pair.name ≡ false → value_of name (pair ∷ others) ≡ value_of name others
value_passed name pair others other = rw other refl
