-- Which of the usable keys of a set may be used: by their algorithm (RFC 9052 section 7.1), and the length of a secret
-- (RFC 9053 section 3.1).
pub mod View
use Rattle.std.specs.Prelude.{ℕ, ℤ, Bool, true, false, List, length, filter, Option, Some, None, Ok, Err, nat_le, ◌&&◌, if◌then◌else◌}
use Rattle.std.specs.List.{list_any}
use Rattle.std.specs.Ordering.{int_eq}
use Rattle.cose_map.specs.Key.Value.{KeyValue, MaterialValue, symmetric, elliptic}
use Rattle.cose_map.specs.Label.{LabelValue, number, words}
use Rattle.cose_map.specs.Map.Read.{Read}

-- The numbers of the algorithms that are allowed, any where there are none; and the fewest bytes of a secret.
pub record RestrictionsValue : Type 0 where
  pub algorithms : Option (List ℤ)
  pub least_secret : ℕ

-- The key's own algorithm is one of these. A key that names none could be used with any.
abbrev pub is_among : List ℤ → Option LabelValue → Bool
is_among allowed None = false
is_among allowed (Some (number own)) = list_any (int_eq own) allowed
is_among allowed (Some (words own)) = false

abbrev pub allows_algorithm : Option (List ℤ) → Option LabelValue → Bool
allows_algorithm None own = true
allows_algorithm (Some allowed) own = is_among allowed own

abbrev pub allows_material : ℕ → MaterialValue → Bool
allows_material least (symmetric secret) = nat_le least (length secret)
allows_material least (elliptic curve x y) = true

abbrev pub allows : RestrictionsValue → KeyValue → Bool
allows r key = allows_algorithm r.algorithms key.alg && allows_material r.least_secret key.material

-- The keys that may be used, in their order.
abbrev pub allowed_of : RestrictionsValue → List KeyValue → List KeyValue
allowed_of r keys = filter (allows r) keys

-- The keys of a set by any rule.
abbrev pub permitted_in : (KeyValue → Bool) → Read (List KeyValue) → Read (List KeyValue)
permitted_in permitted (Ok keys) = Ok (filter permitted keys)
permitted_in permitted (Err refusal) = Err refusal

abbrev pub allowed_in : RestrictionsValue → Read (List KeyValue) → Read (List KeyValue)
allowed_in r read = permitted_in (allows r) read

-- A key, where there is one that is permitted.
abbrev pub if_permitted : (KeyValue → Bool) → Option KeyValue → Option KeyValue
if_permitted permitted None = None
if_permitted permitted (Some key) = if permitted key then Some key else None
