-- those that are left rise after the last one, if all rise
use Rattle.std.proofs.Common.{◌≡◌, None}
use Rattle.std.specs.Prelude.{option_map}
use Rattle.cose_map.specs.Map.Search as spec
use Rattle.cose_map.specs.Map.View.{pairs_left}
use Rattle.cose_map.specs.Label.View.{label_value}
use Rattle.cose_map.proofs.map.search.is_rising.Given as goal

abbrev pub invariant-pairs : goal.invariant-pairs
invariant-pairs l = spec.rise_after (option_map label_value l.before) (pairs_left l.name-iterator) ≡ spec.rise_after None (pairs_left l.fn.pairs)
