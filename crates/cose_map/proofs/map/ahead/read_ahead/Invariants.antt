use Rattle.std.proofs.Common.{◌≡◌, ◌≤◌, true, take, drop}
use Rattle.cose_map.specs.Label.{LabelValue}
use Rattle.cose_map.specs.Map.Labels.View.{holds, has_room}
use Rattle.cose_map.specs.Map.Pairs.{has_label}
use Rattle.cose_map.specs.Map.View.{pairs_left}
use Rattle.cose_map.proofs.map.ahead.read_ahead.Given as goal

-- the set is that of the labels so far
abbrev pub invariant-pairs : goal.invariant-pairs
invariant-pairs l = record {
  held : (name : LabelValue) → holds l.labels name ≡ has_label name (take l.count (pairs_left l.fn.pairs));
  left : drop l.count (pairs_left l.fn.pairs) ≡ pairs_left l.name-iterator;
  few : l.count ≤ 118;
  room : l.count ≡ 0 → has_room l.labels ≡ true;
}
