-- The OKP keys of a set (RFC 9052 section 7): those of its items that are such keys, in their order. All others are skipped.
use Rattle.std.specs.Prelude.{ℕ, List, Option, Some, None, Ok, Err, filter_map}
use Rattle.cose_head.specs.ItemRef.{placed}
use Rattle.cose_head.specs.Placed.{Placed}
use Rattle.cose_map.specs.declared.key_set.KeySet.{KeySet}
use Rattle.cose_map.specs.Key.Okp.{OkpValue, okp_of}
use Rattle.cose_map.specs.KeySet.{items_in}
use Rattle.cose_map.specs.Map.Read.{Read}

abbrev pub usable_okp_with : Read OkpValue → Option OkpValue
usable_okp_with (Ok key) = Some key
usable_okp_with (Err refusal) = None

abbrev pub usable_okp : Placed → Option OkpValue
usable_okp p = usable_okp_with (okp_of p)

abbrev pub okp_keys_in : Placed → List OkpValue
okp_keys_in set = filter_map usable_okp (items_in set)

-- Those of the bytes of a set.
abbrev pub okp_keys_of : List ℕ → List OkpValue
okp_keys_of bytes = okp_keys_in (record { bytes = bytes; place = 0 })

-- Those of a set of the code.
abbrev pub okp_keys : KeySet → List OkpValue
okp_keys set = okp_keys_in (placed set.set)
