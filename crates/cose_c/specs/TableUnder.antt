-- A table that is read under terms: its keys, and what a message is verified under by it.
use Rattle.std.specs.Prelude.{true, false, List, length, take, map, Option, Some, None, Result, Ok, Err, if◌then◌else◌}
use Rattle.cose_map.specs.Key.Value.{KeyValue}
use Rattle.cose_map.specs.Label.View.{label_value}
use Rattle.cose_map.specs.Map.Read.{Read}
use Rattle.cose_msg.specs.Message.{Setting}
use Rattle.cose_msg.specs.Source.{attached}
use Rattle.cose_c.specs.declared.held.table.HeldTable.{HeldTable}
use Rattle.cose_c.specs.declared.key_set.CoseKeySet.{CoseKeySet}
use Rattle.cose_c.specs.declared.numbers.CoseStatus.{CoseStatus}
use Rattle.cose_c.specs.declared.stated.CoseTerms.{CoseTerms}
use Rattle.cose_c.specs.declared.table.keys.TableKeys.{TableKeys}
use Rattle.cose_c.specs.declared.table.kept.TableTerms.{TableTerms}
use Rattle.cose_c.specs.KeySet.{no_key_set}
use Rattle.cose_c.specs.Numbers.{plain_status}
use Rattle.cose_c.specs.Stated.{is_unknown, labels_stated, permission_stated, setting_among}
use Rattle.cose_c.specs.Table.{keys_held, permitted_table}
use Rattle.cose_c.specs.Terms.{kinds_given}

-- What a message is verified under by these terms, with these keys in the place of theirs; or why none is.
abbrev pub setting_by_terms : CoseTerms → Read (List KeyValue) → Result Setting CoseStatus
setting_by_terms terms keys =
    if is_unknown terms then Err (plain_status 12)
    else setting_among terms (labels_stated terms.understood) keys (kinds_given terms.aad.now terms.kind)

abbrev pub setting_of_table : CoseTerms → Result Setting CoseStatus
setting_of_table terms = setting_by_terms terms (permitted_table (permission_stated terms) terms.keys.now)

-- How many keys the table takes, or why it has none.
abbrev pub table_numbers : Result Setting CoseStatus → CoseKeySet
table_numbers (Ok setting) = record { status = 7; reason = 0; place = 0; usable = length setting.keys }
table_numbers (Err status) = no_key_set status

-- What is left in the block: where there is no table it is closed (10).
abbrev pub setting_left : Result Setting CoseStatus → Result Setting CoseStatus
setting_left (Ok setting) = Ok setting
setting_left (Err status) = Err (plain_status 10)

-- ---- the same, as the code has it

abbrev pub setting_with_keys : TableTerms → List KeyValue → Setting
setting_with_keys stated keys = record {
  keys = keys;
  aad = stated.aad.now;
  wanted = stated.wanted;
  cwt = true;
  understood = take stated.understood (map label_value stated.labels);
  payload_limit = stated.payload_limit;
  source = attached;
  elsewhere = false;
}

abbrev pub setting_in_table : Result TableTerms CoseStatus → List KeyValue → Result Setting CoseStatus
setting_in_table (Ok stated) keys = Ok (setting_with_keys stated keys)
setting_in_table (Err status) keys = Err status

abbrev pub setting_of_both : Option TableKeys → Option TableTerms → Result Setting CoseStatus
setting_of_both None stated = Err (plain_status 10)
setting_of_both (Some keys) None = Err (plain_status 10)
setting_of_both (Some keys) (Some stated) = Ok (setting_with_keys stated (keys_held keys))

abbrev pub setting_kept : HeldTable → Result Setting CoseStatus
setting_kept held = setting_of_both held.content held.stated
