-- Permissions and permitted keys of the code, without where they are in memory.
use Rattle.std.specs.Prelude.{List}
use Rattle.cose_map.specs.Key.Value.{KeyValue}
use Rattle.cose_map.specs.KeySet.View.{keys as keys_in}
use Rattle.cose_c.specs.declared.permitted.Permission.{Permission}
use Rattle.cose_c.specs.declared.permitted.PermittedKeys.{PermittedKeys}
use Rattle.cose_c.specs.Permitted.{PermissionValue, permitted_of}

abbrev pub permission_value : Permission → PermissionValue
permission_value p = record { algorithms = p.algorithms; least_secret = p.least_secret; short_mac = p.short_mac; without_alg = p.without_alg }

abbrev pub keys_permitted : PermittedKeys → List KeyValue
keys_permitted keys = permitted_of (permission_value keys.permission) (keys_in keys.set)
