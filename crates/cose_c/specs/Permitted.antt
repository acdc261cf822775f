-- Which keys of a set a caller permits: by their algorithm (RFC 9052 section 7.1), and by the length of a secret (RFC 9053 section 3.1).
use Rattle.std.specs.Prelude.{ℕ, ℤ, pos, Bool, true, false, not, ◌&&◌, ◌||◌, List, filter, Option, Some, None, if◌then◌else◌, is_some}
use Rattle.std.specs.List.{list_any}
use Rattle.std.specs.Ordering.{int_eq}
use Rattle.cose_map.specs.Choice.{Question, fitting}
use Rattle.cose_map.specs.Key.Value.{KeyValue, MaterialValue, elliptic, symmetric}
use Rattle.cose_map.specs.Label.{LabelValue, number, words}
use Rattle.cose_map.specs.Map.Read.{Read}
use Rattle.cose_map.specs.Restrictions.{allows_material, is_among, permitted_in as permitted_by}

-- The numbers of the algorithms that are stated, and zeros; the fewest bytes of a secret; and whether keys for HMAC 256/64, and keys
-- that name no algorithm, are permitted where no algorithm is stated.
pub record PermissionValue : Type 0 where
  pub algorithms : List ℤ
  pub least_secret : ℕ
  pub short_mac : Bool
  pub without_alg : Bool

-- Zero is the number of no algorithm (RFC 9053 section 11.1).
abbrev pub is_stated : List ℤ → Bool
is_stated algorithms = list_any (λ n. not (int_eq n (pos 0))) algorithms

-- A key for HMAC 256/64, number 4 (RFC 9053 section 3.1), has to be permitted.
abbrev pub permits_named : PermissionValue → LabelValue → Bool
permits_named p (number own) = not (int_eq own (pos 4)) || p.short_mac
permits_named p (words own) = true

-- A key that names no algorithm fits each of its type, and a secret HMAC 256/64 too.
abbrev pub permits_unnamed : PermissionValue → MaterialValue → Bool
permits_unnamed p (symmetric secret) = p.without_alg && p.short_mac
permits_unnamed p (elliptic curve x y) = p.without_alg

abbrev pub permits_by_default : PermissionValue → Option LabelValue → MaterialValue → Bool
permits_by_default p None material = permits_unnamed p material
permits_by_default p (Some own) material = permits_named p own

-- Where algorithms are stated, a key has to name one of them.
abbrev pub permits_algorithm : PermissionValue → KeyValue → Bool
permits_algorithm p key = if is_stated p.algorithms then is_among p.algorithms key.alg else permits_by_default p key.alg key.material

abbrev pub permits : PermissionValue → KeyValue → Bool
permits p key = permits_algorithm p key && allows_material p.least_secret key.material

-- A usable key that is permitted and fits.
abbrev pub is_fitting : Question → PermissionValue → Option KeyValue → Bool
is_fitting q p (Some key) = permits p key && is_some (fitting q key)
is_fitting q p None = false

-- The keys that are permitted, in their order.
abbrev pub permitted_of : PermissionValue → List KeyValue → List KeyValue
permitted_of p keys = filter (permits p) keys

abbrev pub permitted_in : PermissionValue → Read (List KeyValue) → Read (List KeyValue)
permitted_in p read = permitted_by (permits p) read
