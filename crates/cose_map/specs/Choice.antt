-- Which key authenticates a message, and by which algorithm (RFC 9052 section 7.1).
pub mod Algorithm
pub mod Further
pub mod Mismatch
pub mod Place
pub mod View
use Rattle.std.specs.Prelude.{ℕ, ℤ, Bool, true, false, ◌&&◌, List, [], ◌∷◌, Option, Some, None, Result, Ok, Err, is_some, filter_map, if◌then◌else◌}
use Rattle.std.specs.List.{list_any}
use Rattle.std.specs.Ordering.{int_eq}
use Rattle.std.specs.Str.{bytes_eq}
use Rattle.cose_head.specs.declared.algorithm.Alg.{Alg}
use Rattle.cose_head.specs.declared.kind.Kind.{Kind}
use Rattle.cose_head.specs.declared.reason.Reason.{Reason}
use Rattle.cose_head.specs.declared.reason.Reason.TheVariants.{NoAlg, UnknownAlg, AlgUnprotected, NoKey, AmbiguousKey}
use Rattle.cose_head.specs.Algorithm.{key_type_of}
use Rattle.cose_map.specs.Choice.Algorithm.{algorithm_of, has_type}
use Rattle.cose_map.specs.Key.Value.{KeyValue, MaterialValue}
use Rattle.cose_map.specs.Label.{LabelValue, number, words, same_label}

infixl 10 ◌>>=◌
abbrev pub ◌>>=◌ : {A B : Type 0} → Option A → (A → Option B) → Option B
(Some x) >>= f = f x
None >>= f = None

-- What a message requires: its kind, the operation that verifies it, the algorithm that each bucket names, and the
-- key's identifier.
pub record Question : Type 0 where
  pub kind : Kind
  pub operation : ℤ
  pub protected_alg : Option LabelValue
  pub unprotected_alg : Option LabelValue
  pub kid : Option (List ℕ)

abbrev pub is_this_label : Option LabelValue → LabelValue → Bool
is_this_label None alg = false
is_this_label (Some own) alg = same_label own alg

-- The algorithm that a key is used with: the protected one; without it the unprotected one, only where the key's own is
-- present and equal; without both the key's own. The arguments are the algorithms of the protected bucket, of the
-- unprotected bucket and of the key.
abbrev pub algorithm_used : Option LabelValue → Option LabelValue → Option LabelValue → Option LabelValue
algorithm_used (Some protected) unprotected own = Some protected
algorithm_used None (Some unprotected) own = if is_this_label own unprotected then Some unprotected else None
algorithm_used None None own = own

-- A key that names no algorithm, operations or identifier allows any.
abbrev pub allows_algorithm : Option LabelValue → LabelValue → Bool
allows_algorithm None alg = true
allows_algorithm (Some own) alg = same_label own alg

abbrev pub allows_operation : Option (List ℤ) → ℤ → Bool
allows_operation None operation = true
allows_operation (Some operations) operation = list_any (int_eq operation) operations

abbrev pub allows_kid : Option (List ℕ) → Option (List ℕ) → Bool
allows_kid None asked = true
allows_kid (Some own) None = true
allows_kid (Some own) (Some asked) = bytes_eq own asked

abbrev pub is_for : MaterialValue → Option Alg → Bool
is_for material None = false
is_for material (Some alg) = has_type material (key_type_of alg)

-- Whether a key fits: the algorithm is one for messages of the kind and for the key's type and curve, the key's own is
-- the same, its operations contain the one that is required, and the identifiers are equal.
abbrev pub fits : Question → KeyValue → ℤ → Bool
fits q key algorithm =
    is_for key.material (algorithm_of q.kind algorithm)
    && allows_algorithm key.alg (number algorithm)
    && allows_operation key.operations q.operation
    && allows_kid key.kid q.kid

-- A text string names none of the algorithms that are known here.
abbrev pub integer_in_label : LabelValue → Option ℤ
integer_in_label (number n) = Some n
integer_in_label (words name) = None

-- The key with its algorithm, where it fits.
abbrev pub fitting : Question → KeyValue → Option (KeyValue × ℤ)
fitting q key = do
  alg ← algorithm_used q.protected_alg q.unprotected_alg key.alg
  n ← integer_in_label alg
  if fits q key n then Some (key, n) else None

-- The reason where no key fits.
abbrev pub none_fits : Option LabelValue → Option LabelValue → Reason
none_fits (Some protected) unprotected = NoKey
none_fits None (Some unprotected) = AlgUnprotected
none_fits None None = NoAlg

abbrev pub only_one : Question → List (KeyValue × ℤ) → Result (KeyValue × ℤ) Reason
only_one q [] = Err (none_fits q.protected_alg q.unprotected_alg)
only_one q (one ∷ []) = Ok one
only_one q (one ∷ (another ∷ others)) = Err AmbiguousKey

abbrev pub is_known : Kind → LabelValue → Bool
is_known kind (number n) = is_some (algorithm_of kind n)
is_known kind (words name) = false

-- The message's algorithm is that of the protected bucket, else of the unprotected. Where it is present, it must be one
-- for messages of the kind.
abbrev pub is_answerable : Kind → Option LabelValue → Option LabelValue → Bool
is_answerable kind (Some protected) unprotected = is_known kind protected
is_answerable kind None (Some unprotected) = is_known kind unprotected
is_answerable kind None None = true

-- Of all keys exactly one must fit.
unfoldable pub chosen : Question → List KeyValue → Result (KeyValue × ℤ) Reason
chosen q keys =
    if is_answerable q.kind q.protected_alg q.unprotected_alg then only_one q (filter_map (fitting q) keys) else Err UnknownAlg
