-- The keys of a verifier that is fed, without where they are in memory.
use Rattle.std.specs.Prelude.{List, Result}
use Rattle.cose_map.specs.Key.Value.{KeyValue}
use Rattle.cose_msg.specs.declared.context.Context.{Context}
use Rattle.cose_msg.specs.Message.{Setting}
use Rattle.cose_c.specs.declared.fed_keys.FedKeys.{FedKeys}
use Rattle.cose_c.specs.declared.fed_keys.FedKeys.TheVariants.{InSet, InTable}
use Rattle.cose_c.specs.declared.numbers.CoseStatus.{CoseStatus}
use Rattle.cose_c.specs.PermittedView.{keys_permitted}
use Rattle.cose_c.specs.Table.{keys_held}
use Rattle.cose_c.specs.Terms.{settings_by}

abbrev pub keys_fed : FedKeys → List KeyValue
keys_fed (InSet keys) = keys_permitted keys
keys_fed (InTable keys) = keys_held keys.now

-- What the messages are verified under, or why none is.
abbrev pub settings_fed : Result (Context FedKeys) CoseStatus → Result Setting CoseStatus
settings_fed given = settings_by keys_fed given
