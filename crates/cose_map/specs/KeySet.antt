-- Several keys (RFC 9052 section 7): an array of keys, of which those that aren't keys, or are of an unknown type, are
-- skipped. A single key is a set of one.
pub mod Items
pub mod View
pub mod Okp
use Rattle.std.specs.Prelude.{ℕ, List, [], ◌∷◌, length, Option, Some, None, Ok, Err, nat_lt, ◌==◌, if◌then◌else◌, filter_map}
use Rattle.cose_head.specs.declared.reason.Reason.TheVariants.{BadKeySet}
use Rattle.cose_head.specs.Placed.{Placed, Look, an_array, a_map, look, children_of}
use Rattle.cose_head.specs.Whole.{whole}
use Rattle.cose_map.specs.Map.Read.{Read, refuse, ◌>>=◌}
use Rattle.cose_map.specs.Key.{key_of}
use Rattle.cose_map.specs.Key.Value.{KeyValue}

abbrev pub usable_with : Read KeyValue → Option KeyValue
usable_with (Ok key) = Some key
usable_with (Err refusal) = None

abbrev pub usable : Placed → Option KeyValue
usable p = usable_with (key_of p)

-- The items that should be keys: the elements of an array, or a single map.
abbrev pub items_like : Placed → Look → List Placed
items_like set an_array = children_of set
items_like set a_map = set ∷ []
items_like set _ = []

abbrev pub items_in : Placed → List Placed
items_in set = items_like set (look set)

abbrev pub usable_keys : Placed → List KeyValue
usable_keys set = filter_map usable (items_in set)

-- Where there is no such item, it isn't a set.
abbrev pub keys_at : Placed → Read (List KeyValue)
keys_at p = do
  set ← whole 8 p
  if length (items_in set) == 0 then refuse BadKeySet set else Ok (usable_keys set)

-- The usable keys of a set, in their order, or its first fault.
unfoldable pub keys_of : List ℕ → Read (List KeyValue)
keys_of bytes =
    let set : Placed = record { bytes = bytes; place = 0 } in
    if nat_lt 65535 (length bytes) then refuse BadKeySet set else keys_at set
