-- The answer for the keys that are left, after those that were checked, is the answer for all.
use Rattle.std.proofs.Common.{◌≡◌, drop, map}
use Rattle.std.specs.Prelude.{filter_map}
use Rattle.cose_map.specs.Choice.{fitting, only_one}
use Rattle.cose_map.specs.Choice.View.{question, with_rest}
use Rattle.cose_map.specs.KeyTable.{keys, slot_value}
use Rattle.cose_map.proofs.key_table.KeyTable.find.Given as goal

abbrev pub invariant-loop-slot : goal.invariant-loop-slot
invariant-loop-slot g l =
    with_rest (question l.query) l.fitting (filter_map (fitting (question l.query)) (map slot_value (drop l.slot-index l.self.slots.items)))
    ≡ only_one (question l.query) (filter_map (fitting (question l.query)) (keys l.self))
