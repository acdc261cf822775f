-- The algorithms of one kind of message, and the keys that each takes.
use Rattle.std.specs.Prelude.{ℤ, Bool, true, false, ◌==◌, Option, Some, None, if◌then◌else◌, option_and_then}
use Rattle.cose_head.specs.declared.algorithm.Alg.{Alg}
use Rattle.cose_head.specs.declared.algorithm.KeyType.{KeyType}
use Rattle.cose_head.specs.declared.algorithm.KeyType.TheVariants.{Symmetric, Elliptic}
use Rattle.cose_head.specs.declared.kind.Kind.{Kind}
use Rattle.cose_head.specs.declared.kind.Kind.TheVariants.{Mac0, Sign1}
use Rattle.cose_head.specs.Algorithm.{kind_of, algorithm_numbered}
use Rattle.cose_map.specs.Key.Value.{MaterialValue, symmetric, elliptic}

abbrev pub same_kind : Kind → Kind → Bool
same_kind Mac0 Mac0 = true
same_kind Sign1 Sign1 = true
same_kind Mac0 Sign1 = false
same_kind Sign1 Mac0 = false

abbrev pub if_of_kind : Kind → Alg → Option Alg
if_of_kind kind alg = if same_kind (kind_of alg) kind then Some alg else None

-- The algorithm of a number, if it is for messages of the kind.
abbrev pub algorithm_of : Kind → ℤ → Option Alg
algorithm_of kind n = option_and_then (if_of_kind kind) (algorithm_numbered n)

-- A symmetric key is for each algorithm that takes one, and a point for those that take its curve.
abbrev pub has_type : MaterialValue → KeyType → Bool
has_type (symmetric k) Symmetric = true
has_type (symmetric k) (Elliptic curve) = false
has_type (elliptic c x y) Symmetric = false
has_type (elliptic c x y) (Elliptic curve) = c == curve
