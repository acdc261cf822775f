-- A confirmation of the code, without where it is in memory.
use Rattle.std.specs.Prelude.{Option, option_map, option_and_then}
use Rattle.cose_head.specs.declared.item_ref.ItemRef.{ItemRef}
use Rattle.cose_head.specs.ItemRef.{placed}
use Rattle.cose_map.specs.Key.Value.{KeyValue}
use Rattle.cose_map.specs.Key.View.{contents, key_value}
use Rattle.cose_map.specs.KeySet.{usable}
use Rattle.cose_cwt.specs.declared.confirmation.Cnf.{Cnf}
use Rattle.cose_cwt.specs.declared.confirmation.CnfItems.{CnfItems}
use Rattle.cose_cwt.specs.Confirmation.{CnfValue, confirmation_with}

-- The key that an item is.
abbrev pub key_in : Option ItemRef → Option KeyValue
key_in item = option_and_then (λ key. usable (placed key)) item

abbrev pub cnf_items_value : CnfItems → CnfValue
cnf_items_value items = confirmation_with (key_in items.key) (option_map contents items.kid)

abbrev pub cnf_value : Cnf → CnfValue
cnf_value cnf = confirmation_with (option_map key_value cnf.key) (option_map contents cnf.kid)
