-- The answer for the permitted keys that are left, after those that were checked, is the answer for all that are permitted.
use Rattle.std.proofs.Common.{◌≡◌, filter}
use Rattle.std.specs.Prelude.{filter_map}
use Rattle.cose_map.specs.Choice.{fitting, only_one}
use Rattle.cose_map.specs.Choice.View.{question, with_rest}
use Rattle.cose_map.specs.KeySet.Items.{key_items_left}
use Rattle.cose_map.specs.KeySet.{usable}
use Rattle.cose_map.specs.KeySet.View.{keys}
use Rattle.cose_map.proofs.key_set.KeySet.find_permitted.Given as goal

abbrev pub invariant-loop-item : goal.invariant-loop-item
invariant-loop-item g l =
    with_rest (question l.query) l.fitting
    (filter_map (fitting (question l.query)) (filter (g.P.Permits.permitted l.rule) (filter_map usable (key_items_left l.item-iterator))))
    ≡ only_one (question l.query) (filter_map (fitting (question l.query)) (filter (g.P.Permits.permitted l.rule) (keys l.self)))
