-- The confirmation of a token: the claim cnf (RFC 8747 section 3).
pub mod View
use Rattle.std.specs.Prelude.{ℕ, pos, Bool, true, false, List, Option, Some, None, Ok, Err, if◌then◌else◌}
use Rattle.cose_head.specs.declared.reason.Reason.{Reason}
use Rattle.cose_head.specs.declared.reason.Reason.TheVariants.{BadConfirmation, EncryptedKey, PlainKey, BadValue}
use Rattle.cose_head.specs.Placed.{Placed, look, bytes_in}
use Rattle.cose_map.specs.Key.{key_of}
use Rattle.cose_map.specs.Key.Value.{KeyValue, MaterialValue, symmetric, elliptic}
use Rattle.cose_map.specs.Label.{LabelValue, number}
use Rattle.cose_map.specs.Map.Form.{Table}
use Rattle.cose_map.specs.Map.Pairs.{Pair, pair_of, value_of}
use Rattle.cose_map.specs.Map.Read.{Read, refuse, check_map, ◌>>=◌}

-- The labels of its members (RFC 8747 section 7.2).
abbrev pub cose_key : LabelValue
cose_key = number (pos 1)

abbrev pub encrypted_cose_key : LabelValue
encrypted_cose_key = number (pos 2)

abbrev pub kid : LabelValue
kid = number (pos 3)

-- The key and its identifier, each if present.
pub record CnfValue : Type 0 where
  pub key : Option KeyValue
  pub kid : Option (List ℕ)

-- The table accepts any value: the members are checked after all labels are read.
unfoldable pub members_table : Table
members_table name value = None

-- A symmetric key may be only in a token that is encrypted (RFC 8747 section 3.2).
abbrev pub is_symmetric : MaterialValue → Bool
is_symmetric (symmetric secret) = true
is_symmetric (elliptic curve x y) = false

abbrev pub public_key : Placed → Read KeyValue → Read KeyValue
public_key value (Err refusal) = refuse BadConfirmation value
public_key value (Ok key) = if is_symmetric key.material then refuse PlainKey value else Ok key

abbrev pub one_public_key : Placed → Read (Option KeyValue)
one_public_key value = do
  key ← public_key value (key_of value)
  Ok (Some key)

-- At most one of a key and an encrypted key is present (RFC 8747 section 3.1). An encrypted key is refused here.
abbrev pub confirmed_key : Placed → Option Pair → Option Placed → Read (Option KeyValue)
confirmed_key cnf (Some encrypted) (Some value) = refuse BadConfirmation cnf
confirmed_key cnf (Some encrypted) None = refuse EncryptedKey encrypted.label
confirmed_key cnf None (Some value) = one_public_key value
confirmed_key cnf None None = Ok None

abbrev pub identifier : Placed → Option (List ℕ) → Read (Option (List ℕ))
identifier value None = refuse BadValue value
identifier value (Some content) = Ok (Some content)

abbrev pub confirmed_kid : Option Placed → Read (Option (List ℕ))
confirmed_kid None = Ok None
confirmed_kid (Some value) = identifier value (bytes_in (look value))

abbrev pub confirmation_with : Option KeyValue → Option (List ℕ) → CnfValue
confirmation_with key kid = record { key = key; kid = kid }

-- Other members are ignored.
unfoldable pub confirmation_of : Placed → Read CnfValue
confirmation_of cnf = do
  members ← check_map members_table cnf
  key ← confirmed_key cnf (pair_of encrypted_cose_key members) (value_of cose_key members)
  id ← confirmed_kid (value_of kid members)
  Ok (confirmation_with key id)
