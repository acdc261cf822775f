-- The items that an iterator over a key set still gives.
use Rattle.std.specs.Prelude.{List, [], ◌∷◌}
use Rattle.cose_head.specs.ItemRef.{placed}
use Rattle.cose_head.specs.Items.{items_left}
use Rattle.cose_head.specs.Placed.{Placed}
use Rattle.cose_map.specs.declared.key_set.items.KeyItems.{KeyItems}
use Rattle.cose_map.specs.declared.key_set.items.KeyItems.TheVariants.{None, One, Several}

abbrev pub key_items_left : KeyItems → List Placed
key_items_left None = []
key_items_left (One item) = placed item ∷ []
key_items_left (Several items) = items_left items
