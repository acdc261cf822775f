-- The usable keys of a set of the code.
use Rattle.std.specs.Prelude.{List}
use Rattle.cose_head.specs.ItemRef.{placed}
use Rattle.cose_map.specs.declared.key_set.KeySet.{KeySet}
use Rattle.cose_map.specs.KeySet.{usable_keys}
use Rattle.cose_map.specs.Key.Value.{KeyValue}

abbrev pub keys : KeySet → List KeyValue
keys set = usable_keys (placed set.set)
