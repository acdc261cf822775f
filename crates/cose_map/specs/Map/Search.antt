-- Searching labels among the pairs of a map, where both are in increasing order (RFC 8949 section 4.2.1).
use Rattle.std.specs.Prelude.{◌≡◌, Bool, true, false, List, [], ◌∷◌, Option, Some, ◌&&◌, ◌||◌, if◌then◌else◌}
use Rattle.cose_map.specs.Label.{LabelValue, same_label}
use Rattle.cose_map.specs.Label.Order.{precedes, passes}
use Rattle.cose_map.specs.Map.Pairs.{Pair, has_label}

-- A label that comes after the last is among these pairs, if it is among all.
abbrev pub IsAhead : Option LabelValue → List Pair → List Pair → Type 0
IsAhead last ahead all = (name : LabelValue) → passes last name ≡ true → has_label name ahead ≡ has_label name all

-- Each label of these pairs comes after the one before it, and the first after this one.
abbrev pub rise_after : Option LabelValue → List Pair → Bool
rise_after before [] = true
rise_after before (pair ∷ others) = passes before pair.name && rise_after (Some pair.name) others

-- The pairs from the first one whose label is the name or comes after it.
abbrev pub from : LabelValue → List Pair → List Pair
from name [] = []
from name (pair ∷ others) = if same_label name pair.name || precedes name pair.name then pair ∷ others else from name others

-- The first of these pairs has the label.
abbrev pub is_first : LabelValue → List Pair → Bool
is_first name [] = false
is_first name (pair ∷ others) = same_label name pair.name
