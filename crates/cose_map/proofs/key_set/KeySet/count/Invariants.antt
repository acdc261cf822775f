-- The count so far and the usable keys among the items left are all usable keys.
use Rattle.std.proofs.Common.{◌≡◌, ◌+◌, ◌<◌, ◌^◌, length}
use Rattle.std.specs.Prelude.{filter_map}
use Rattle.cose_map.specs.KeySet.Items.{key_items_left}
use Rattle.cose_map.specs.KeySet.{usable}
use Rattle.cose_map.specs.KeySet.View.{keys}
use Rattle.cose_map.proofs.key_set.KeySet.count.Given as goal

abbrev pub invariant-loop-item : goal.invariant-loop-item
invariant-loop-item l =
    (l.count + length (filter_map usable (key_items_left l.item-iterator)) ≡ length (keys l.self))
    × (length (keys l.self) < 2 ^ 64)
