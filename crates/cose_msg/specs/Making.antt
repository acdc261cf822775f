-- The COSE_Mac0 that is made of a payload (RFC 9052 section 6.2), and the keys that make it (section 7.1).
use Rattle.std.specs.Prelude.{ℕ, ℤ, pos, negsuc, Bool, ◌&&◌, List, Option, None, Some}
use Rattle.cose_head.specs.declared.algorithm.Alg.{Alg}
use Rattle.cose_head.specs.declared.algorithm.KeyType.TheVariants.{Symmetric}
use Rattle.cose_head.specs.declared.kind.Kind.TheVariants.{Mac0}
use Rattle.cose_head.specs.Algorithm.{algorithm_number, is_mac_of}
use Rattle.cose_head.specs.Item.{Item, unsigned, negative, byte_string, map, tag, no_items, item}
use Rattle.cose_head.specs.Shortest.{shortest}
use Rattle.cose_mac.specs.Hmac.{mac}
use Rattle.cose_mac.specs.Structure.{structure_of}
use Rattle.cose_map.specs.Choice.{allows_algorithm, allows_operation}
use Rattle.cose_map.specs.Choice.Algorithm.{has_type}
use Rattle.cose_map.specs.Key.Value.{KeyValue}
use Rattle.cose_map.specs.Label.{number}
use Rattle.cose_msg.specs.Grammar.{four_elements, tag_number}

abbrev pub integer_item : ℤ → Item
integer_item (pos n) = unsigned n
integer_item (negsuc n) = negative n

abbrev pub map_of_one : Item → Item → Item
map_of_one label value = map (item label (item value no_items))

-- The protected header names the algorithm: {1: alg} (RFC 9052 section 3.1).
abbrev pub protected_made : Alg → List ℕ
protected_made alg = shortest (map_of_one (unsigned 1) (integer_item (algorithm_number alg)))

-- The unprotected header names the key, or is empty: {4: kid} or {}.
abbrev pub unprotected_made : Option (List ℕ) → Item
unprotected_made None = map no_items
unprotected_made (Some kid) = map_of_one (unsigned 4) (byte_string kid)

-- The authentication tag: the MAC of the MAC_structure (section 6.3).
abbrev pub auth_made : Alg → List ℕ → List ℕ → List ℕ → List ℕ
auth_made alg secret aad payload = mac alg secret (structure_of Mac0 (protected_made alg) aad payload)

-- The message under its tag, in its shortest spelling.
unfoldable pub made : Alg → List ℕ → Option (List ℕ) → List ℕ → List ℕ → List ℕ
made alg secret kid aad payload = shortest (
    tag (tag_number Mac0) (
    four_elements (protected_made alg) (unprotected_made kid) (byte_string payload) (auth_made alg secret aad payload)))

-- The operation that makes a MAC (section 7.1, table 5).
abbrev pub mac_create : ℤ
mac_create = pos 9

-- Whether a key makes MACs by an algorithm: it is symmetric, is for no other algorithm, and lists no operations or the
-- one that makes MACs.
abbrev pub allows_making : KeyValue → Alg → Bool
allows_making key alg = allows_algorithm key.alg (number (algorithm_number alg)) && allows_operation key.operations mac_create

abbrev pub fits_making : KeyValue → Alg → Bool
fits_making key alg = is_mac_of alg && (has_type key.material Symmetric && allows_making key alg)
