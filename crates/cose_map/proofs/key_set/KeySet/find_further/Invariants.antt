-- The answer for the keys that are left, after those that were met, is the answer for all.
use Rattle.std.proofs.Common.{◌≡◌}
use Rattle.std.specs.Prelude.{filter_map}
use Rattle.cose_map.specs.Choice.Further.{fitting, only_one, with_rest}
use Rattle.cose_map.specs.Choice.View.{question}
use Rattle.cose_map.specs.KeySet.Items.{key_items_left}
use Rattle.cose_map.specs.KeySet.Okp.{okp_keys, usable_okp}
use Rattle.cose_map.proofs.key_set.KeySet.find_further.Given as goal

abbrev pub invariant-loop-item : goal.invariant-loop-item
invariant-loop-item l =
    with_rest (question l.query) l.found (filter_map (fitting (question l.query)) (filter_map usable_okp (key_items_left l.item-iterator)))
    ≡ only_one (question l.query) (filter_map (fitting (question l.query)) (okp_keys l.self))
