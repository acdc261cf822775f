-- The items that an iterator over children still gives.
use Rattle.std.specs.Prelude.{List}
use Rattle.cose_head.specs.declared.items.Items.{Items}
use Rattle.cose_head.specs.Placed.{Placed, items_from}

abbrev pub items_left : Items → List Placed
items_left items = items_from items.left (record { bytes = items.rest.now; place = items.place })
