use Rattle.std.proofs.Common.{List, ap, ◌∙◌}
use Rattle.cose_map.specs.Key.Value.{KeyValue}
use Rattle.cose_map.specs.KeySet.{keys_of}
use Rattle.cose_map.specs.KeyTable.{table_of}
use Rattle.cose_map.specs.Map.Read.{Read}
use Rattle.cose_c.specs.KeySet.{key_set_numbers}
use Rattle.cose_c.specs.PermittedView.{permission_value}
use Rattle.cose_c.specs.Table.{keys_read}
use Rattle.cose_c.proofs.Permitting.{all_permitted}
use Rattle.cose_c.proofs.table.cose_edge_table_read.Goals as goal

pub returns-clause-numbers : goal.returns-clause-numbers
returns-clause-numbers c =
    c.fill.ensures.numbers
    ∙ ap (λ (read : Read (List KeyValue)). key_set_numbers (table_of 64 read)) (all_permitted (permission_value c.everything.result) c.everything.ensures (keys_of c.args.keys.now))

pub returns-clause-keys : goal.returns-clause-keys
returns-clause-keys c =
    c.fill.ensures.keys
    ∙ ap (λ (read : Read (List KeyValue)). keys_read (table_of 64 read)) (all_permitted (permission_value c.everything.result) c.everything.ensures (keys_of c.args.keys.now))
