-- The first of the keys that are left that fits is the first of all, and no more are counted than there are.
use Rattle.std.proofs.Common.{◌≡◌, ◌+◌, ◌<◌, ◌^◌, length}
use Rattle.std.specs.Prelude.{filter_map}
use Rattle.cose_map.specs.Choice.Further.{first_fitting}
use Rattle.cose_map.specs.Choice.View.{question}
use Rattle.cose_map.specs.KeySet.Items.{key_items_left}
use Rattle.cose_map.specs.KeySet.Okp.{okp_keys, usable_okp}
use Rattle.cose_map.proofs.key_set.KeySet.first_fitting_further.Given as goal

abbrev pub invariant-loop-item : goal.invariant-loop-item
invariant-loop-item l =
    (first_fitting (question l.query) l.place (filter_map usable_okp (key_items_left l.item-iterator)) ≡ first_fitting (question l.query) 0 (okp_keys l.self))
    × (l.place + length (filter_map usable_okp (key_items_left l.item-iterator)) ≡ length (okp_keys l.self))
    × (length (okp_keys l.self) < 2 ^ 64)
