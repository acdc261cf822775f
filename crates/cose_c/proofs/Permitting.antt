-- Where nothing is restricted, each key is permitted.
use Rattle.std.proofs.Common.{◌≡◌, Bool, true, false, List, [], ◌∷◌, Option, Some, None, Ok, Err, refl, ap}
use Rattle.std.specs.Prelude.{◌||◌, filter}
use Rattle.std.proofs.Math.Dec.{leb-zero}
use Rattle.cose_map.specs.Key.Value.{KeyValue, MaterialValue, elliptic, symmetric}
use Rattle.cose_map.specs.Label.{LabelValue, number, words}
use Rattle.cose_map.specs.Map.Read.{Read}
use Rattle.cose_map.specs.Restrictions.{allows_material}
use Rattle.cose_c.specs.Permitted.{PermissionValue, is_stated, permits, permits_by_default, permitted_in}

or_true : (b : Bool) → (b || true) ≡ true
or_true true = refl
or_true false = refl

by_default : (p : PermissionValue) (alg : Option LabelValue) (material : MaterialValue) → p.short_mac ≡ true → p.without_alg ≡ true → permits_by_default p alg material ≡ true
by_default p None (symmetric secret) short without = rw (short, without) refl
by_default p None (elliptic curve x y) short without = without
by_default p (Some (number n)) material short without = rw short (or_true _)
by_default p (Some (words name)) material short without = refl

long_enough : (p : PermissionValue) (material : MaterialValue) → p.least_secret ≡ 0 → allows_material p.least_secret material ≡ true
long_enough p (symmetric secret) least = rw least (leb-zero _)
long_enough p (elliptic curve x y) least = refl

module _ (p : PermissionValue) (stated : is_stated p.algorithms ≡ false) (least : p.least_secret ≡ 0) (short : p.short_mac ≡ true) (without : p.without_alg ≡ true) where
  pub each : (k : KeyValue) → permits p k ≡ true
  each k = rw (stated, by_default p k.alg k.material short without, long_enough p k.material least) refl

module _ (p : PermissionValue) (each_is : (k : KeyValue) → permits p k ≡ true) where
  all_of : (keys : List KeyValue) → filter (permits p) keys ≡ keys
  all_of [] = refl
  all_of (k ∷ keys) = rw (each_is k) (ap (λ l. k ∷ l) (all_of keys))

  pub all_permitted : (read : Read (List KeyValue)) → permitted_in p read ≡ read
  all_permitted (Ok keys) = ap (λ l. Ok l) (all_of keys)
  all_permitted (Err refusal) = refl
