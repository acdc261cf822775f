use Rattle.std.proofs.Common.{◌≡◌, ◌≤◌, true, take, drop}
use Rattle.cose_head.specs.Items.{items_left}
use Rattle.cose_map.specs.Label.{LabelValue}
use Rattle.cose_map.specs.Map.Labels.{is_among}
use Rattle.cose_map.specs.Map.Labels.View.{holds, has_room}
use Rattle.cose_map.specs.Map.Names.{element_names}
use Rattle.cose_map.proofs.map.ahead.read_elements.Given as goal

-- the set is that of the labels so far
abbrev pub invariant-elements : goal.invariant-elements
invariant-elements l = record {
  held : (name : LabelValue) → holds l.labels name ≡ is_among name (take l.count (element_names (items_left l.fn.elements)));
  left : drop l.count (element_names (items_left l.fn.elements)) ≡ element_names (items_left l.element-iterator);
  few : l.count ≤ 118;
  room : l.count ≡ 0 → has_room l.labels ≡ true;
}
