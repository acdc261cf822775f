-- Which OKP key verifies a signature, and by which algorithm that is left to the caller (RFC 9052 section 7.1, RFC 9053
-- section 2.2). The choice is that of the other keys, with these keys and algorithms.
use Rattle.std.specs.Prelude.{ℕ, ℤ, Bool, true, false, ◌&&◌, List, [], ◌∷◌, Option, Some, None, Result, Ok, Err, is_some, filter_map, if◌then◌else◌}
use Rattle.std.specs.List.{position_from}
use Rattle.cose_head.specs.declared.further.FurtherAlg.{FurtherAlg}
use Rattle.cose_head.specs.declared.kind.Kind.{Kind}
use Rattle.cose_head.specs.declared.kind.Kind.TheVariants.{Mac0, Sign1}
use Rattle.cose_head.specs.declared.reason.Reason.{Reason}
use Rattle.cose_head.specs.declared.reason.Reason.TheVariants.{UnknownAlg, AmbiguousKey}
use Rattle.cose_head.specs.Further.{further_numbered, takes_curve}
use Rattle.cose_map.specs.declared.key.okp.OkpKey.{OkpKey}
use Rattle.cose_map.specs.Choice.{◌>>=◌, Question, algorithm_used, allows_algorithm, allows_kid, allows_operation, integer_in_label, none_fits}
use Rattle.cose_map.specs.Key.Okp.{OkpValue, okp_value}
use Rattle.cose_map.specs.Label.{LabelValue, number, words}

-- The algorithm of a number, if it is for messages of the kind: all make signatures.
abbrev pub further_of : Kind → ℤ → Option FurtherAlg
further_of Mac0 n = None
further_of Sign1 n = further_numbered n

-- The algorithm that a key is used with, where it is one for messages of the kind, and the key's own, if that is named.
abbrev pub further_with : Question → Option LabelValue → Option FurtherAlg
further_with q own = do
  alg ← algorithm_used q.protected_alg q.unprotected_alg own
  n ← integer_in_label alg
  if allows_algorithm own (number n) then further_of q.kind n else None

-- Whether a key fits the algorithm: it is on a curve that this takes, its operations contain the one that is required, and the
-- identifiers are equal.
abbrev pub fits : Question → OkpValue → FurtherAlg → Bool
fits q key alg = takes_curve alg key.curve && allows_operation key.operations q.operation && allows_kid key.kid q.kid

-- The key with its algorithm, where it fits.
abbrev pub fitting : Question → OkpValue → Option (OkpValue × FurtherAlg)
fitting q key = do
  alg ← further_with q key.alg
  if fits q key alg then Some (key, alg) else None

abbrev pub only_one : Question → List (OkpValue × FurtherAlg) → Result (OkpValue × FurtherAlg) Reason
only_one q [] = Err (none_fits q.protected_alg q.unprotected_alg)
only_one q (one ∷ []) = Ok one
only_one q (one ∷ (another ∷ others)) = Err AmbiguousKey

abbrev pub is_known : Kind → LabelValue → Bool
is_known kind (number n) = is_some (further_of kind n)
is_known kind (words name) = false

-- The message's algorithm is that of the protected bucket, else of the unprotected. Where it is present, it must be one
-- for messages of the kind.
abbrev pub is_answerable : Kind → Option LabelValue → Option LabelValue → Bool
is_answerable kind (Some protected) unprotected = is_known kind protected
is_answerable kind None (Some unprotected) = is_known kind unprotected
is_answerable kind None None = true

-- Of all keys exactly one must fit.
unfoldable pub chosen : Question → List OkpValue → Result (OkpValue × FurtherAlg) Reason
chosen q keys =
    if is_answerable q.kind q.protected_alg q.unprotected_alg then only_one q (filter_map (fitting q) keys) else Err UnknownAlg

-- ---- where it stands

abbrev pub is_fitting : Question → OkpValue → Bool
is_fitting q key = is_some (fitting q key)

-- The number of the first key that fits, where the keys are numbered from this one on.
abbrev pub first_fitting : Question → ℕ → List OkpValue → Option ℕ
first_fitting q from keys = position_from (is_fitting q) from keys

abbrev pub where_chosen : Result (OkpValue × FurtherAlg) Reason → Option ℕ → Option ℕ
where_chosen (Ok found) place = place
where_chosen (Err reason) place = None

-- The number of the one key that fits, from 0; none where no key is chosen.
abbrev pub place_of : Question → List OkpValue → Option ℕ
place_of q keys = where_chosen (chosen q keys) (first_fitting q 0 keys)

-- ---- of the code

abbrev pub fitting_value : OkpKey × FurtherAlg → OkpValue × FurtherAlg
fitting_value found = (okp_value found.0, found.1)

abbrev pub found_value : Result (OkpKey × FurtherAlg) Reason → Result (OkpValue × FurtherAlg) Reason
found_value (Ok found) = Ok (fitting_value found)
found_value (Err reason) = Err reason

-- The choice where the code has met at most one key that fits, and these are the others that do.
abbrev pub with_rest : Question → Option (OkpKey × FurtherAlg) → List (OkpValue × FurtherAlg) → Result (OkpValue × FurtherAlg) Reason
with_rest q None rest = only_one q rest
with_rest q (Some one) rest = only_one q (fitting_value one ∷ rest)
