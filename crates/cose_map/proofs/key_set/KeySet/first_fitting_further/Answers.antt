-- At first the keys that are left are all keys, and there are at most as many as items.
use Rattle.std.proofs.Common.{◌≡◌, ◌∙◌, ap, refl}
use Rattle.cose_head.specs.ItemRef.{placed}
use Rattle.cose_map.proofs.lemmas.KeySet.Items.{none_counted}
use Rattle.cose_map.specs.KeySet.Items.{key_items_left}
use Rattle.cose_map.specs.KeySet.{items_in}
use Rattle.cose_map.specs.KeySet.Okp.{usable_okp}
use Rattle.cose_map.proofs.key_set.KeySet.first_fitting_further.Goals as goal

pub loop-item-init : goal.loop-item-init
loop-item-init c =
    let begun = ap key_items_left c.into_iter-item-iterator.ensures.into_iter_gives in
    let all : key_items_left c.into_iter-item-iterator.result ≡ items_in (placed c.args.self.now.set) = begun ∙ c.of-item-items.ensures.exact in
    let counted = none_counted usable_okp _ _ _ begun c.of-item-items.ensures.exact c.of-item-items.ensures.few in
    (rw all refl, counted.0, counted.1)
