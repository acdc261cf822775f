-- The keys that are kept, and the permitted ones among the items that are left, are those of the set.
use Rattle.std.proofs.Common.{◌≡◌, ◌++◌, map, filter, Ok}
use Rattle.std.specs.Prelude.{filter_map}
use Rattle.cose_map.specs.KeySet.Items.{key_items_left}
use Rattle.cose_map.specs.KeySet.{keys_of, usable}
use Rattle.cose_map.specs.KeyTable.{slot_value}
use Rattle.cose_map.specs.Restrictions.{permitted_in}
use Rattle.cose_map.proofs.key_table.KeyTable.fill_permitted.Given as goal

abbrev pub invariant-loop-item : goal.invariant-loop-item
invariant-loop-item g l =
    Ok (map slot_value l.self.slots.items ++ filter (g.P.Permits.permitted l.rule) (filter_map usable (key_items_left l.item-iterator)))
    ≡ permitted_in (g.P.Permits.permitted l.rule) (keys_of l.fn.bytes)
