-- A table of keys in a block, which is there once it is read.
use Rattle.std.specs.Borrow.{Bor}
use Rattle.std.specs.Prelude.{ℕ, List, Option, Some, None, Result, Ok, Err, option_map}
use Rattle.cose_map.specs.Key.Value.{KeyValue}
use Rattle.cose_map.specs.KeySet.{keys_of}
use Rattle.cose_map.specs.KeyTable.{keys as keys_of_table, table_of}
use Rattle.cose_map.specs.Map.Read.{Read}
use Rattle.cose_map.specs.PreparedTable.{prepared_keys}
use Rattle.cose_msg.specs.declared.context.Context.{Context}
use Rattle.cose_msg.specs.Message.{Setting}
use Rattle.cose_msg.specs.Verifier.{setting_of}
use Rattle.cose_c.specs.declared.numbers.CoseStatus.{CoseStatus}
use Rattle.cose_c.specs.declared.table.keys.TableKeys.{TableKeys}
use Rattle.cose_c.specs.declared.table.keys.TableKeys.TheVariants.{Few, Many}
use Rattle.cose_c.specs.Numbers.{plain_status}
use Rattle.cose_c.specs.Permitted.{PermissionValue, permitted_in}
use Rattle.cose_c.specs.Terms.{kinds_given, setting_with}

-- The keys of the table, whether they are prepared or not.
abbrev pub keys_held : TableKeys → List KeyValue
keys_held (Few table) = prepared_keys table
keys_held (Many table) = keys_of_table table

-- How many keys there is room for.
abbrev pub room_of : TableKeys → ℕ
room_of (Few table) = 8
room_of (Many table) = 64

abbrev pub room_in : Option TableKeys → Option ℕ
room_in content = option_map room_of content

-- None where the block isn't read.
abbrev pub keys_in : Option TableKeys → Option (List KeyValue)
keys_in content = option_map keys_held content

-- The keys that are permitted, of which a table has room for 64, and 8 are few.
abbrev pub permitted_table : PermissionValue → List ℕ → Read (List KeyValue)
permitted_table p bytes = table_of 64 (permitted_in p (keys_of bytes))

abbrev pub few_permitted : PermissionValue → List ℕ → Read (List KeyValue)
few_permitted p bytes = table_of 8 (permitted_in p (keys_of bytes))

-- Those that a reading leaves in a block: none where the key set is refused.
abbrev pub keys_read : Read (List KeyValue) → Option (List KeyValue)
keys_read (Ok found) = Some found
keys_read (Err refusal) = None

-- What a message is verified under: a block that isn't read has no keys (10).
abbrev pub setting_under_table : Option (List KeyValue) → List ℕ → ℕ → Result Setting CoseStatus
setting_under_table None aad wanted = Err (plain_status 10)
setting_under_table (Some found) aad wanted = setting_with (Ok found) aad (kinds_given aad wanted)

-- The same, as the code has it.
abbrev pub table_settings : Result (Context (Bor TableKeys)) CoseStatus → Result Setting CoseStatus
table_settings (Ok context) = Ok (setting_of (λ keys. keys_held keys.now) context)
table_settings (Err status) = Err status
