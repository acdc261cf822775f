-- The pairs of a map before the current one.
use Rattle.std.specs.Prelude.{List, take}
use Rattle.cose_map.specs.declared.map.earlier.Earlier.{Earlier}
use Rattle.cose_map.specs.Map.Pairs.{Pair}
use Rattle.cose_map.specs.Map.View.{pairs_left}

abbrev pub earlier_pairs : Earlier → List Pair
earlier_pairs earlier = take earlier.count (pairs_left earlier.pairs)
