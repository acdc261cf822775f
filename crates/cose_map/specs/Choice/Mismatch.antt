-- Why a key doesn't fit a message: the conditions of the choice in the order in which RFC 9052 section 7.1 is followed here, and
-- the first that the key fails.
use Rattle.std.specs.Prelude.{Bool, true, false, ◌==◌, List, [], ◌∷◌, ◌++◌, Option, Some, None, is_some, if◌then◌else◌}
use Rattle.cose_head.specs.declared.algorithm.Alg.{Alg}
use Rattle.cose_head.specs.declared.algorithm.KeyType.{KeyType}
use Rattle.cose_head.specs.declared.algorithm.KeyType.TheVariants.{Symmetric, Elliptic}
use Rattle.cose_head.specs.Algorithm.{key_type_of}
use Rattle.cose_map.specs.declared.choice.mismatch.Mismatch.{Mismatch}
use Rattle.cose_map.specs.declared.choice.mismatch.Mismatch.TheVariants as conditions
use Rattle.cose_map.specs.Choice.{◌>>=◌, Question, algorithm_used, allows_algorithm, allows_kid, allows_operation, integer_in_label}
use Rattle.cose_map.specs.Choice.Algorithm.{algorithm_of}
use Rattle.cose_map.specs.Key.Value.{KeyValue, MaterialValue, symmetric, elliptic}
use Rattle.cose_map.specs.Label.{number}

-- The algorithm that the key is used with, where it is one for messages of the kind, and the key's own, if that is named.
abbrev pub algorithm_with : Question → KeyValue → Option Alg
algorithm_with q key = do
  alg ← algorithm_used q.protected_alg q.unprotected_alg key.alg
  n ← integer_in_label alg
  if allows_algorithm key.alg (number n) then algorithm_of q.kind n else None

-- A secret is of the type of algorithms that take one, and a point, on whatever curve, of the type of those that take one.
abbrev pub is_of_type : MaterialValue → KeyType → Bool
is_of_type (symmetric k) Symmetric = true
is_of_type (symmetric k) (Elliptic curve) = false
is_of_type (elliptic c x y) Symmetric = false
is_of_type (elliptic c x y) (Elliptic curve) = true

-- A point is on the algorithm's curve. Where either has no curve, none is required.
abbrev pub is_on_curve : MaterialValue → KeyType → Bool
is_on_curve (symmetric k) wanted = true
is_on_curve (elliptic c x y) Symmetric = true
is_on_curve (elliptic c x y) (Elliptic curve) = c == curve

-- Without an algorithm nothing is required of the material.
abbrev pub meets : (KeyType → Bool) → Option Alg → Bool
meets test None = true
meets test (Some alg) = test (key_type_of alg)

abbrev pub unless_met : Mismatch → Bool → List Mismatch
unless_met condition true = []
unless_met condition false = condition ∷ []

-- All conditions that a key fails, in this order.
abbrev pub failed : Question → KeyValue → List Mismatch
failed q key =
    unless_met conditions.Algorithm (is_some (algorithm_with q key))
    ++ (unless_met conditions.KeyType (meets (is_of_type key.material) (algorithm_with q key))
    ++ (unless_met conditions.Curve (meets (is_on_curve key.material) (algorithm_with q key))
    ++ (unless_met conditions.Operation (allows_operation key.operations q.operation)
    ++ unless_met conditions.Identifier (allows_kid key.kid q.kid))))

abbrev pub first_of : List Mismatch → Option Mismatch
first_of [] = None
first_of (first ∷ others) = Some first

-- The first of them, if there is one.
unfoldable pub mismatch : Question → KeyValue → Option Mismatch
mismatch q key = first_of (failed q key)
