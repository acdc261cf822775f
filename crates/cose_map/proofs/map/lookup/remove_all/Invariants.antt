use Rattle.std.proofs.Common.{◌≡◌, not}
use Rattle.std.specs.Prelude.{◌&&◌}
use Rattle.cose_map.specs.Label.{LabelValue}
use Rattle.cose_map.specs.Map.Labels.View.{holds}
use Rattle.cose_map.specs.Map.Pairs.{has_label}
use Rattle.cose_map.specs.Map.View.{pairs_left}
use Rattle.cose_map.proofs.map.lookup.remove_all.Given as goal

-- what is left without the labels to come is the set without all
abbrev pub invariant-pairs : goal.invariant-pairs
invariant-pairs l = (name : LabelValue) →
    (holds l.labels name && not (has_label name (pairs_left l.name-iterator))) ≡ (holds l.initial.labels name && not (has_label name (pairs_left l.fn.pairs)))
