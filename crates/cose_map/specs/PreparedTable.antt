-- Tables of prepared keys.
use Rattle.std.specs.Prelude.{ℕ, List}
use Rattle.cose_map.specs.declared.prepared_table.PreparedTable.{PreparedTable}
use Rattle.cose_map.specs.Key.Value.{KeyValue}
use Rattle.cose_map.specs.KeyTable.{keys}

-- Its keys, without where they are in memory.
abbrev pub prepared_keys : {N : ℕ} → PreparedTable N → List KeyValue
prepared_keys table = keys table.table
