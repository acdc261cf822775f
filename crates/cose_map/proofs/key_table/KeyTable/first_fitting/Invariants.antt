-- The first of the keys that are left that fits is the first of all.
use Rattle.std.proofs.Common.{◌≡◌, drop, map}
use Rattle.cose_map.specs.Choice.Place.{first_fitting}
use Rattle.cose_map.specs.Choice.View.{question}
use Rattle.cose_map.specs.KeyTable.{keys, slot_value}
use Rattle.cose_map.proofs.key_table.KeyTable.first_fitting.Given as goal

abbrev pub invariant-loop-slot : goal.invariant-loop-slot
invariant-loop-slot g l =
    (first_fitting (question l.query) l.place (map slot_value (drop l.slot-index l.self.slots.items)) ≡ first_fitting (question l.query) 0 (keys l.self))
    × (l.place ≡ l.slot-index)
