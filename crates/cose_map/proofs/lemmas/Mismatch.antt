-- The first condition that a key fails: there is none exactly where the key fits.
use Rattle.std.proofs.Common.{◌≡◌, ◌∙◌, ℤ, Bool, true, false, ◌++◌, Option, Some, None, refl, ap, sym}
use Rattle.std.specs.Prelude.{◌&&◌, is_some, if◌then◌else◌}
use Rattle.std.specs.Option.{is_none}
use Rattle.cose_head.specs.declared.algorithm.Alg.{Alg}
use Rattle.cose_head.specs.declared.algorithm.KeyType.{KeyType}
use Rattle.cose_head.specs.declared.algorithm.KeyType.TheVariants.{Symmetric, Elliptic}
use Rattle.cose_head.specs.Algorithm.{key_type_of}
use Rattle.cose_map.specs.declared.choice.mismatch.Mismatch.{Mismatch}
use Rattle.cose_map.specs.declared.choice.mismatch.Mismatch.TheVariants as conditions
use Rattle.cose_map.specs.Choice.{◌>>=◌, Question, algorithm_used, allows_algorithm, allows_kid, allows_operation, fits, fitting, integer_in_label, is_answerable, is_for, is_known, is_this_label}
use Rattle.cose_map.specs.Choice.Algorithm.{algorithm_of, has_type}
use Rattle.cose_map.specs.Choice.Mismatch.{algorithm_with, first_of, is_of_type, is_on_curve, meets, mismatch, unless_met}
use Rattle.cose_map.specs.Key.Value.{KeyValue, MaterialValue, symmetric, elliptic}
use Rattle.cose_map.specs.Label.{LabelValue, number, words}

-- The first condition, by the algorithm that the key is used with, if there is one.
abbrev pub first_with : MaterialValue → Bool → Bool → Option Alg → Option Mismatch
first_with material operation kid alg = first_of (
    unless_met conditions.Algorithm (is_some alg)
    ++ (unless_met conditions.KeyType (meets (is_of_type material) alg)
    ++ (unless_met conditions.Curve (meets (is_on_curve material) alg)
    ++ (unless_met conditions.Operation operation
    ++ unless_met conditions.Identifier kid))))

-- A key has the type of an algorithm where it is of its type and on its curve.
type_and_curve : (material : MaterialValue) (wanted : KeyType) → has_type material wanted ≡ (is_of_type material wanted && is_on_curve material wanted)
type_and_curve (symmetric k) Symmetric = refl
type_and_curve (symmetric k) (Elliptic curve) = refl
type_and_curve (elliptic c x y) Symmetric = refl
type_and_curve (elliptic c x y) (Elliptic curve) = refl

-- All tests hold exactly where none is the first that doesn't.
by_tests : (typed curved operation kid : Bool) → is_none (first_of (
    unless_met conditions.KeyType typed
    ++ (unless_met conditions.Curve curved
    ++ (unless_met conditions.Operation operation
    ++ unless_met conditions.Identifier kid)))) ≡ ((typed && curved) && true && operation && kid)
by_tests true true true true = refl
by_tests true true true false = refl
by_tests true true false kid = refl
by_tests true false operation kid = refl
by_tests false curved operation kid = refl

not_allowed : (typed operation kid : Bool) → false ≡ (typed && false && operation && kid)
not_allowed true operation kid = refl
not_allowed false operation kid = refl

-- The same for an algorithm of the message's kind, if there is one, that the key allows or doesn't.
by_algorithm : (material : MaterialValue) (found : Option Alg) (allowed operation kid : Bool) →
    is_none (first_with material operation kid (if allowed then found else None)) ≡ (is_for material found && allowed && operation && kid)
by_algorithm material None true operation kid = refl
by_algorithm material None false operation kid = refl
by_algorithm material (Some alg) false operation kid = not_allowed (has_type material (key_type_of alg)) operation kid
by_algorithm material (Some alg) true operation kid =
    by_tests (is_of_type material (key_type_of alg)) (is_on_curve material (key_type_of alg)) operation kid
    ∙ ap (λ (typed : Bool). typed && true && operation && kid) (sym (type_and_curve material (key_type_of alg)))

found_where : {A : Type 0} (x : A) (b : Bool) → b ≡ is_some (if b then Some x else None)
found_where x true = refl
found_where x false = refl

by_label : (q : Question) (key : KeyValue) (used : Option LabelValue) →
    is_none (first_with key.material (allows_operation key.operations q.operation) (allows_kid key.kid q.kid)
    (do alg ← used; n ← integer_in_label alg; if allows_algorithm key.alg (number n) then algorithm_of q.kind n else None))
    ≡ is_some {T = KeyValue × ℤ} (do alg ← used; n ← integer_in_label alg; if fits q key n then Some (key, n) else None)
by_label q key None = refl
by_label q key (Some (words name)) = refl
by_label q key (Some (number n)) =
    by_algorithm key.material (algorithm_of q.kind n) (allows_algorithm key.alg (number n)) (allows_operation key.operations q.operation) (allows_kid key.kid q.kid)
    ∙ found_where (key, n) (fits q key n)

-- None is failed exactly where the key fits.
pub none_where_fitting : (q : Question) (key : KeyValue) → is_none (mismatch q key) ≡ is_some (fitting q key)
unfolding mismatch
none_where_fitting q key = by_label q key (algorithm_used q.protected_alg q.unprotected_alg key.alg)

-- ---- a message that no key can answer

no_algorithm : (allowed : Bool) (found : Option Alg) → is_some found ≡ false → (if allowed then found else None) ≡ None
no_algorithm true None e = refl
no_algorithm true (Some alg) e = cc
no_algorithm false found e = refl

of_unknown : (q : Question) (key : KeyValue) (label : LabelValue) → is_known q.kind label ≡ false →
    (do n ← integer_in_label label; if allows_algorithm key.alg (number n) then algorithm_of q.kind n else None) ≡ None
of_unknown q key (words name) e = refl
of_unknown q key (number n) e = no_algorithm (allows_algorithm key.alg (number n)) (algorithm_of q.kind n) e

of_confirmed : (q : Question) (key : KeyValue) (label : LabelValue) (same : Bool) → is_known q.kind label ≡ false →
    (do alg ← if same then Some label else None; n ← integer_in_label alg; if allows_algorithm key.alg (number n) then algorithm_of q.kind n else None) ≡ None
of_confirmed q key label true e = of_unknown q key label e
of_confirmed q key label false e = refl

of_labels : (q : Question) (key : KeyValue) (protected unprotected : Option LabelValue) → is_answerable q.kind protected unprotected ≡ false →
    (do alg ← algorithm_used protected unprotected key.alg; n ← integer_in_label alg; if allows_algorithm key.alg (number n) then algorithm_of q.kind n else None) ≡ None
of_labels q key (Some protected) unprotected e = of_unknown q key protected e
of_labels q key None (Some unprotected) e = of_confirmed q key unprotected (is_this_label key.alg unprotected) e
of_labels q key None None e = cc

first_without : (material : MaterialValue) (operation kid : Bool) (alg : Option Alg) → alg ≡ None → first_with material operation kid alg ≡ Some conditions.Algorithm
first_without material operation kid alg e = rw e refl

-- Each key fails the first.
pub algorithm_where_unanswerable : (q : Question) (key : KeyValue) → is_answerable q.kind q.protected_alg q.unprotected_alg ≡ false → mismatch q key ≡ Some conditions.Algorithm
unfolding mismatch
algorithm_where_unanswerable q key e =
    first_without key.material (allows_operation key.operations q.operation) (allows_kid key.kid q.kid) (algorithm_with q key) (of_labels q key q.protected_alg q.unprotected_alg e)
