-- The search for labels among the pairs of a map, where both come in any order.
use Rattle.std.specs.Prelude.{◌≡◌, not, true, List, take}
use Rattle.cose_map.specs.declared.map.lookup.Lookup.{Lookup}
use Rattle.cose_map.specs.Label.{LabelValue}
use Rattle.cose_map.specs.Map.Labels.{is_among}
use Rattle.cose_map.specs.Map.Labels.View.{holds}
use Rattle.cose_map.specs.Map.Pairs.{has_label}
use Rattle.cose_map.specs.Map.View.{pairs_left}

-- Of the next labels, as many as are settled, those in the set are the ones that no pair has.
abbrev pub IsSettled : List LabelValue → Lookup → Type 0
IsSettled names lookup = (name : LabelValue) → is_among name (take lookup.settled names) ≡ true → holds lookup.absent name ≡ not (has_label name (pairs_left lookup.pairs))
