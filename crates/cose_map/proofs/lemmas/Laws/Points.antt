-- The coordinates of a key's point have the full length of its curve.
use Rattle.std.proofs.Common.{◌≡◌, ◌∙◌, ◌≤◌, ℕ, ℤ, pos, Bool, true, false, List, [], ◌∷◌, length, Option, Some, None, Ok, Err, refl, sym, ap, subst, arith}
use Rattle.std.specs.Prelude.{nat_eq, nat_lt, cond, filter_map}
use Rattle.std.specs.List.{AllByRecursion, cons_option}
use Rattle.std.specs.Ordering.{int_eq}
use Rattle.std.proofs.lemmas.Bool.{eqb-true}
use Rattle.cose_head.specs.declared.reason.Reason.TheVariants.{BadKeySet, BadValue, UnknownKey}
use Rattle.cose_head.specs.Placed.{Placed, bytes_in, integer_in, look, truth_in}
use Rattle.cose_head.specs.Whole.{whole}
use Rattle.cose_map.specs.declared.key.curve.Curve.{Curve}
use Rattle.cose_map.specs.Key.{key_of, key_with}
use Rattle.cose_map.specs.Key.Curve.{curve_of}
use Rattle.cose_map.specs.Key.Form.{key_table}
use Rattle.cose_map.specs.Key.Labels.{crv, d, k, kty, x, y}
use Rattle.cose_map.specs.Key.Material.{coordinate_in, coordinate_of, curve_in, elliptic_key, material_in, material_of, member, private_part, secret_in, sign_in, symmetric_key, usable_curve, y_in}
use Rattle.cose_map.specs.Key.Value.{KeyValue, MaterialValue, YValue, coordinate, elliptic, sign, symmetric}
use Rattle.cose_map.specs.KeySet.{items_in, keys_at, keys_of, usable, usable_keys, usable_with}
use Rattle.cose_map.specs.Laws.Points.{HasAtMost, HasLength, IsFull, IsShort}
use Rattle.cose_map.specs.Map.Pairs.{Pair, value_of}
use Rattle.cose_map.specs.Map.Read.{Read, ◌>>=◌, read_map, refuse}

-- What was read was read by both parts.
pub read_by : {A B : Type 0} (first : Read A) (next : A → Read B) (found : B) → (first >>= next) ≡ Ok found → (a : A) × (first ≡ Ok a) × (next a ≡ Ok found)
read_by (Ok a) next found e = (a, refl, e)
read_by (Err refusal) next found e = absurd cc

held_by : {A : Type 0} → A → Read A → A
held_by other (Ok a) = a
held_by other (Err refusal) = other

pub same_value : {A : Type 0} {a b : A} → (◌≡◌ {A = Read A} (Ok a) (Ok b)) → a ≡ b
unfolding held_by
same_value {a = a} e = ap (held_by a) e

full_length : (size : ℕ) (value : Placed) (content bytes : List ℕ) → coordinate_of size value content ≡ Ok bytes → length bytes ≡ size
full_length size value content bytes e = go (nat_eq (length content) size) refl e
  where
    go : (is : Bool) → nat_eq (length content) size ≡ is → cond is (Ok content) (refuse BadValue value) ≡ Ok bytes → length bytes ≡ size
    go true is found =
        let same : content ≡ bytes = cc in
        ap length (sym same) ∙ eqb-true (length content) size is
    go false is found = absurd cc

pub full_x : (size : ℕ) (value : Placed) (content : Option (List ℕ)) (bytes : List ℕ) → coordinate_in size value content ≡ Ok bytes → length bytes ≡ size
full_x size value None bytes e = absurd cc
full_x size value (Some content) bytes e = full_length size value content bytes e

signed : (size : ℕ) (value : Placed) (truth : Option Bool) (y : YValue) → sign_in value truth ≡ Ok y → HasLength size y
signed size value None y e = absurd cc
signed size value (Some odd) y e = let same : sign odd ≡ y = cc in subst (HasLength size) same tt

full_y : (size : ℕ) (value : Placed) (content : Option (List ℕ)) (y : YValue) → y_in size value content ≡ Ok y → HasLength size y
full_y size value None y e = signed size value (truth_in (look value)) y e
full_y size value (Some content) y e =
    let (bytes, read, same) = read_by (coordinate_of size value content) (λ bytes. Ok (coordinate bytes)) y e in
    let is : coordinate bytes ≡ y = cc in
    subst (HasLength size) is (full_length size value content bytes read)

usable_one : (key : Placed) (found : Option Curve) (curve : Curve) → usable_curve key found ≡ Ok curve → found ≡ Some curve
usable_one key None curve e = absurd cc
usable_one key (Some own) curve e = cc

known_curve : (key value : Placed) (number : Option ℤ) (curve : Curve) → curve_in key value number ≡ Ok curve → (z : ℤ) × (curve_of z ≡ Some curve)
known_curve key value (Some z) curve e = (z, usable_one key (curve_of z) curve e)
known_curve key value None curve e = go _ e
  where
    go : (is : Bool) → cond is (refuse UnknownKey key) (refuse BadValue value) ≡ Ok curve → (z : ℤ) × (curve_of z ≡ Some curve)
    go true found = absurd cc
    go false found = absurd cc

module _ (key : Placed) (pairs : List Pair) where
  elliptic_full : (material : MaterialValue) → elliptic_key key pairs ≡ Ok material → IsFull material
  elliptic_full material e =
      let (curve_value, a, at_curve) = read_by (member key pairs crv) _ material e in
      let (curve, b, at_x) = read_by (curve_in key curve_value (integer_in (look curve_value))) _ material at_curve in
      let (x_value, c, past_x) = read_by (member key pairs x) _ material at_x in
      let (x_bytes, has_x, at_y) = read_by (coordinate_in curve.coordinate_length x_value (bytes_in (look x_value))) _ material past_x in
      let (y_value, f, past_y) = read_by (member key pairs y) _ material at_y in
      let (point_y, has_y, at_d) = read_by (y_in curve.coordinate_length y_value (bytes_in (look y_value))) _ material past_y in
      let (unused, g, done) = read_by (private_part (value_of d pairs)) (λ unused. Ok (elliptic curve.number x_bytes point_y)) material at_d in
      let is : elliptic curve.number x_bytes point_y ≡ material = same_value done in
      let known = known_curve key curve_value (integer_in (look curve_value)) curve b in
      subst IsFull is (known.0, curve, known.1, refl, full_x curve.coordinate_length x_value (bytes_in (look x_value)) x_bytes has_x, full_y curve.coordinate_length y_value (bytes_in (look y_value)) point_y has_y)

  secret_full : (value : Placed) (content : Option (List ℕ)) (material : MaterialValue) → secret_in value content ≡ Ok material → IsFull material
  secret_full value None material e = absurd cc
  secret_full value (Some content) material e = go (nat_eq (length content) 0) e
    where
      go : (is : Bool) → cond is (refuse BadValue value) (Ok (symmetric content)) ≡ Ok material → IsFull material
      go true found = absurd cc
      go false found = let same : symmetric content ≡ material = cc in subst IsFull same tt

  symmetric_full : (material : MaterialValue) → symmetric_key key pairs ≡ Ok material → IsFull material
  symmetric_full material e =
      let (value, a, found) = read_by (member key pairs k) (λ value. secret_in value (bytes_in (look value))) material e in
      secret_full value (bytes_in (look value)) material found

  by_type : (number : Option ℤ) (material : MaterialValue) → material_in key pairs number ≡ Ok material → IsFull material
  by_type None material e = absurd cc
  by_type (Some z) material e = go (int_eq z (pos 4)) (int_eq z (pos 2)) e
    where
      go : (is_symmetric is_elliptic : Bool) → cond is_symmetric (symmetric_key key pairs) (cond is_elliptic (elliptic_key key pairs) (refuse UnknownKey key)) ≡ Ok material → IsFull material
      go true other found = symmetric_full material found
      go false true found = elliptic_full material found
      go false false found = absurd cc

  material_full : (material : MaterialValue) → material_of key pairs ≡ Ok material → IsFull material
  unfolding material_of
  material_full material e =
      let (value, a, found) = read_by (member key pairs kty) (λ value. material_in key pairs (integer_in (look value))) material e in
      by_type (integer_in (look value)) material found

pub point_full : (p : Placed) (key : KeyValue) → key_of p ≡ Ok key → IsFull key.material
unfolding key_of
point_full p key e =
    let (pairs, a, past) = read_by (read_map key_table 8 p) (λ pairs. material_of p pairs >>= (λ material. Ok (key_with pairs material))) key e in
    let (material, has, same) = read_by (material_of p pairs) (λ material. Ok (key_with pairs material)) key past in
    let is : key_with pairs material ≡ key = same_value same in
    subst (λ (k : KeyValue). IsFull k.material) is (material_full p pairs material has)

-- The usable ones of some items.
usable_full : (items : List Placed) → AllByRecursion (λ (key : KeyValue). IsFull key.material) (filter_map usable items)
usable_full [] = tt
usable_full (p ∷ items) = go (key_of p) refl (usable_full items)
  where
    go : (read : Read KeyValue) → key_of p ≡ read → AllByRecursion (λ (key : KeyValue). IsFull key.material) (filter_map usable items) →
        AllByRecursion (λ (key : KeyValue). IsFull key.material) (cons_option (usable_with (key_of p)) (filter_map usable items))
    go (Ok key) e rest = rw e (point_full p key e, rest)
    go (Err refusal) e rest = rw e rest

pub points_full : (bytes : List ℕ) (keys : List KeyValue) → keys_of bytes ≡ Ok keys → AllByRecursion (λ (key : KeyValue). IsFull key.material) keys
unfolding keys_of
points_full bytes keys e = go (nat_lt 65535 (length bytes)) e
  where
    at_set : (set : Placed) (none : Bool) → cond none (refuse BadKeySet set) (Ok (usable_keys set)) ≡ Ok keys → AllByRecursion (λ (key : KeyValue). IsFull key.material) keys
    at_set set true found = absurd cc
    at_set set false found = let same : usable_keys set ≡ keys = cc in subst (AllByRecursion (λ (key : KeyValue). IsFull key.material)) same (usable_full (items_in set))

    go : (long : Bool) → cond long (refuse BadKeySet (record { bytes = bytes; place = 0 })) (keys_at (record { bytes = bytes; place = 0 })) ≡ Ok keys → AllByRecursion (λ (key : KeyValue). IsFull key.material) keys
    go true found = absurd cc
    go false found =
        let (set, a, past) = read_by (whole 8 (record { bytes = bytes; place = 0 })) (λ set. cond (nat_eq (length (items_in set)) 0) (refuse BadKeySet set) (Ok (usable_keys set))) keys found in
        at_set set (nat_eq (length (items_in set)) 0) past

-- The longest coordinates are those of P-521.
size_fits : (z : ℤ) (curve : Curve) → curve_of z ≡ Some curve → curve.coordinate_length ≤ 66
size_fits z curve e = go (int_eq z (pos 1)) (int_eq z (pos 2)) (int_eq z (pos 3)) e
  where
    go : (a b c : Bool) → cond a (Some (record { number = 1; coordinate_length = 32 })) (cond b (Some (record { number = 2; coordinate_length = 48 })) (cond c (Some (record { number = 3; coordinate_length = 66 })) None)) ≡ Some curve → curve.coordinate_length ≤ 66
    go true b c found = let size : curve.coordinate_length ≡ 32 = cc in omega (arith, size)
    go false true c found = let size : curve.coordinate_length ≡ 48 = cc in omega (arith, size)
    go false false true found = let size : curve.coordinate_length ≡ 66 = cc in omega (arith, size)
    go false false false found = absurd cc

y_short : (size : ℕ) (y : YValue) → size ≤ 66 → HasLength size y → HasAtMost 66 y
y_short size (coordinate bytes) fits has = omega (arith, fits, has)
y_short size (sign odd) fits has = tt

pub full_short : (material : MaterialValue) → IsFull material → IsShort material
full_short (symmetric secret) full = tt
full_short (elliptic number x_bytes y_value) (z, curve, known, same, has_x, has_y) =
    let fits = size_fits z curve known in
    (omega (arith, fits, has_x), y_short curve.coordinate_length y_value fits has_y)
