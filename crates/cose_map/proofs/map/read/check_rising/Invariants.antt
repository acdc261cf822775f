use Rattle.std.proofs.Common.{◌≡◌, ◌+◌, ◌≤◌, [], length, drop}
use Rattle.cose_head.specs.Items.{items_left}
use Rattle.cose_map.specs.Map.Earlier.{earlier_pairs}
use Rattle.cose_map.specs.Map.Pairs.{pairs_of}
use Rattle.cose_map.specs.Map.Read.{check_pairs}
use Rattle.cose_map.specs.Map.View.{pairs_left}
use Rattle.cose_map.proofs.map.read.check_rising.Given as goal

-- the pairs before this one are the first of all, and the others are left
abbrev pub invariant-pairs : goal.invariant-pairs
invariant-pairs g l = record {
  all : pairs_left l.earlier.pairs ≡ pairs_of (items_left l.initial.items);
  onward : check_pairs (g.F.Form.table l.form) (earlier_pairs l.earlier) (items_left l.rest) ≡ check_pairs (g.F.Form.table l.form) [] (items_left l.initial.items);
  to_come : drop l.earlier.count (pairs_left l.earlier.pairs) ≡ pairs_of (items_left l.rest);
  few : l.earlier.count + length (items_left l.rest) ≤ length (items_left l.initial.items);
}

abbrev pub decreases-pairs : goal.decreases-pairs
decreases-pairs g l = length (items_left l.rest)
