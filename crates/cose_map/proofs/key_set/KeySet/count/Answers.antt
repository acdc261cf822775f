-- There are at most as many usable keys as items.
use Rattle.std.proofs.Common.{ap}
use Rattle.cose_map.proofs.lemmas.KeySet.Items.{none_counted}
use Rattle.cose_map.specs.KeySet.Items.{key_items_left}
use Rattle.cose_map.specs.KeySet.{usable}
use Rattle.cose_map.proofs.key_set.KeySet.count.Goals as goal

pub loop-item-init : goal.loop-item-init
loop-item-init c =
    none_counted usable _ _ _ (ap key_items_left c.into_iter-item-iterator.ensures.into_iter_gives) c.of-item-items.ensures.exact c.of-item-items.ensures.few
