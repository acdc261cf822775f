-- The labels of pairs, and those that items are.
use Rattle.std.specs.Prelude.{List, [], ◌∷◌, map, Option, Some, None}
use Rattle.cose_head.specs.Placed.{Placed}
use Rattle.cose_map.specs.Label.{LabelValue, label_of}
use Rattle.cose_map.specs.Map.Pairs.{Pair}

abbrev pub names_of : List Pair → List LabelValue
names_of pairs = map (λ pair. pair.name) pairs

abbrev pub with_name : Option LabelValue → List LabelValue → List LabelValue
with_name None names = names
with_name (Some name) names = name ∷ names

abbrev pub element_names : List Placed → List LabelValue
element_names [] = []
element_names (element ∷ elements) = with_name (label_of element) (element_names elements)
