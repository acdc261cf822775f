-- It is among those that are left exactly where it is among all.
use Rattle.std.proofs.Common.{◌≡◌}
use Rattle.std.specs.List.{list_any}
use Rattle.std.specs.Ordering.{int_eq}
use Rattle.cose_head.specs.Items.{items_left}
use Rattle.cose_map.specs.Key.{integers_of}
use Rattle.cose_map.specs.Key.View.{operations_of}
use Rattle.cose_map.proofs.key.operations.Ops.holds.Given as goal

abbrev pub invariant-loop-element : goal.invariant-loop-element
invariant-loop-element l =
    list_any (int_eq l.operation) (integers_of (items_left l.element-iterator)) ≡ list_any (int_eq l.operation) (operations_of l.self)
