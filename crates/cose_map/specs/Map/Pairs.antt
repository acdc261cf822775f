-- The pairs of a map.
use Rattle.std.specs.Prelude.{Bool, List, [], ◌∷◌, Option, Some, None, option_map, find}
use Rattle.std.specs.List.{list_any}
use Rattle.cose_head.specs.Placed.{Placed}
use Rattle.cose_map.specs.Label.{LabelValue, same_label, label_of}

-- A pair: the value of its label, the label's item, and the value's item.
pub record Pair : Type 0 where
  pub name : LabelValue
  pub label : Placed
  pub value : Placed

abbrev pub is_named : LabelValue → Pair → Bool
is_named name pair = same_label name pair.name

-- One of the pairs has the label; and the first that has it.
abbrev pub has_label : LabelValue → List Pair → Bool
has_label name pairs = list_any (is_named name) pairs

abbrev pub pair_of : LabelValue → List Pair → Option Pair
pair_of name pairs = find (is_named name) pairs

-- The value of a label.
abbrev pub value_of : LabelValue → List Pair → Option Placed
value_of name pairs = option_map (λ pair. pair.value) (pair_of name pairs)

-- The children of a map as pairs: two by two, each first one a label. They end before a child that should be a label
-- and isn't one, which the children of a map that was read don't have.
abbrev pub pairs_from : Option LabelValue → Placed → Placed → List Pair → List Pair
pairs_from None label value others = []
pairs_from (Some name) label value others = record { name = name; label = label; value = value } ∷ others

unfoldable pub pairs_of : List Placed → List Pair
pairs_of [] = []
pairs_of (label ∷ []) = []
pairs_of (label ∷ value ∷ others) = pairs_from (label_of label) label value (pairs_of others)
