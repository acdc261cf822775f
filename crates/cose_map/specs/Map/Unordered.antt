-- The pairs of a map before the current one, where the labels come in any order.
use Rattle.std.specs.Prelude.{◌≡◌, not, true, take, drop}
use Rattle.cose_map.specs.declared.map.unordered.Unordered.{Unordered}
use Rattle.cose_map.specs.Label.{LabelValue}
use Rattle.cose_map.specs.Map.Earlier.{earlier_pairs}
use Rattle.cose_map.specs.Map.Labels.View.{holds}
use Rattle.cose_map.specs.Map.Pairs.{has_label}
use Rattle.cose_map.specs.Map.View.{pairs_left}

-- Of the labels of the next pairs, as many as are settled, those in the set are the ones that no earlier pair has.
abbrev pub IsSettled : Unordered → Type 0
IsSettled unordered = (name : LabelValue) →
    has_label name (take unordered.settled (drop unordered.earlier.count (pairs_left unordered.earlier.pairs))) ≡ true →
    holds unordered.absent name ≡ not (has_label name (earlier_pairs unordered.earlier))
