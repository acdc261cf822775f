-- Tables of keys: the result for a key set where there is room for a given number of usable keys.
use Rattle.std.specs.Prelude.{ℕ, List, [], ◌∷◌, None, length, map, Ok, Err, nat_lt, if◌then◌else◌}
use Rattle.cose_head.specs.declared.reason.Reason.TheVariants.{BadKeySet}
use Rattle.cose_map.specs.declared.key_table.KeyTable.{KeyTable}
use Rattle.cose_map.specs.declared.key_table.slot.Slot.{Slot}
use Rattle.cose_map.specs.declared.key_table.slot.Slot.TheVariants.{Empty, Taken}
use Rattle.cose_map.specs.Key.Value.{KeyValue, symmetric}
use Rattle.cose_map.specs.Key.View.{key_value}
use Rattle.cose_map.specs.Map.Read.{Read}

abbrev pub too_many_keys : Read (List KeyValue)
too_many_keys = Err (record { reason = BadKeySet; place = 0 })

-- The usable keys of a set, where there is room for n of them. The set's own fault has precedence.
abbrev pub table_of : ℕ → Read (List KeyValue) → Read (List KeyValue)
table_of n (Ok usable) = if nat_lt n (length usable) then too_many_keys else Ok usable
table_of n (Err refusal) = Err refusal

-- The key of a place that is empty.
abbrev pub blank_key : KeyValue
blank_key = record { kid = None; alg = None; operations = None; material = symmetric (0 ∷ []) }

-- The key of a place of the code, without where it is in memory.
abbrev pub slot_value : Slot → KeyValue
slot_value Empty = blank_key
slot_value (Taken key) = key_value key

-- The keys of a table of the code. No place among its items is empty: only what is read is added to them.
abbrev pub keys : {N : ℕ} → KeyTable N → List KeyValue
keys table = map slot_value table.slots.items
