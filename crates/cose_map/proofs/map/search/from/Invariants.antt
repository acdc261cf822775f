-- the pairs from the label on are among those that are left
use Rattle.std.proofs.Common.{◌≡◌}
use Rattle.cose_map.specs.Map.Search as spec
use Rattle.cose_map.specs.Map.View.{pairs_left}
use Rattle.cose_map.specs.Label.View.{label_value}
use Rattle.cose_map.proofs.map.search.from.Given as goal

abbrev pub invariant-pairs : goal.invariant-pairs
invariant-pairs l = record {
  left : pairs_left l.rest ≡ pairs_left l.label-iterator;
  same : spec.from (label_value l.name) (pairs_left l.label-iterator) ≡ spec.from (label_value l.name) (pairs_left l.fn.pairs);
}
