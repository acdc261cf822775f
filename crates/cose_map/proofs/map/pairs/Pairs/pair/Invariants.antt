-- The pair found among the pairs that are left is the one found among all.
use Rattle.std.proofs.Common.{◌≡◌}
use Rattle.cose_map.specs.Map.Pairs.{pair_of}
use Rattle.cose_map.specs.Map.View.{pairs_left}
use Rattle.cose_map.specs.Label.View.{label_value}
use Rattle.cose_map.proofs.map.pairs.Pairs.pair.Given as goal

abbrev pub invariant-pairs : goal.invariant-pairs
invariant-pairs l = pair_of (label_value l.label) (pairs_left l.name-iterator) ≡ pair_of (label_value l.label) (pairs_left l.self)
