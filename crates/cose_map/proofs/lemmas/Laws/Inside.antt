-- No place of a refusal of a map, a bucket, a key or two buckets is after the bytes.
use Rattle.std.proofs.Common.{◌≡◌, ◌⊎◌, inl, inr, ℕ, ◌≤◌, max, Bool, true, false, List, [], ◌∷◌, ◌++◌, length, Option, Some, None, Ok, Err, if◌then◌else◌, refl, sym, subst, arith}
use Rattle.std.specs.Prelude.{⊤, Result, IfErr, ℤ, pos, ◌==◌, IfSome, option_map, find}
use Rattle.std.specs.List.{AllByRecursion}
use Rattle.std.specs.Ordering.{int_eq}
use Rattle.std.proofs.lemmas.Bool.{cond_both}
use Rattle.cose_head.specs.declared.further.OkpCurve.{OkpCurve}
use Rattle.cose_head.specs.declared.reason.Reason.{Reason}
use Rattle.cose_head.specs.declared.reason.Reason.TheVariants.{NotMap, BadValue, UnknownKey}
use Rattle.cose_head.specs.declared.refusal.Refusal.{Refusal}
use Rattle.cose_head.specs.Further.{okp_curve_numbered, public_key_length_of}
use Rattle.cose_head.specs.Placed.{Placed, look, is_a_map, integer_in, bytes_in, is_a_text, truth_in, children_of}
use Rattle.cose_head.specs.PlacedLaws.{end_of, EndsBy, StandsIn, WholeIsItem, WholeIsRefusedInside, ChildrenEndInside}
use Rattle.cose_head.specs.Whole.{whole}
use Rattle.cose_map.specs.declared.key.curve.Curve.{Curve}
use Rattle.cose_map.specs.Bucket.{bucket_of}
use Rattle.cose_map.specs.Bucket.Form.{bucket_table}
use Rattle.cose_map.specs.Map.Form.{is_bytes, Table}
use Rattle.cose_map.specs.Map.Pairs.{value_of, Pair, is_named, pair_of, has_label}
use Rattle.cose_map.specs.Bucket.Header.{crit}
use Rattle.cose_map.specs.Laws.Inside.{RefusedBy, PairEndsBy, PairsEndBy}
use Rattle.cose_map.specs.Key.{key_of}
use Rattle.cose_map.specs.Key.Okp.{usable_okp_curve, okp_curve_in, octet_key_pair, okp_in, okp_by, okp_of}
use Rattle.cose_map.specs.Key.Form.{key_table}
use Rattle.cose_map.specs.Key.Labels.{kty, k, crv, x, y, d}
use Rattle.cose_map.specs.Label.{LabelValue, label_of}
use Rattle.cose_map.specs.Map.Read.{Read, ◌>>=◌, refuse, name_at, new_name, value_at, label_after, pair_after, check_pairs, check_map, read_map}
use Rattle.cose_map.specs.Key.Material.{present, member, secret_in, symmetric_key, usable_curve, curve_in, coordinate_of, coordinate_in, sign_in, y_in, private_part, elliptic_key, material_in, material_of}
use Rattle.cose_map.specs.Key.Curve.{curve_of}
use Rattle.cose_map.specs.Map.View.{seen_by}
use Rattle.cose_map.specs.Bucket.Both.{pair_fault}
use Rattle.cose_map.proofs.lemmas.Bucket.EachFault.{all_both, pair_fault_has}

-- lists of which each element has a property
module _ {A : Type 0} (P : A → Type 0) where
  all_found : (test : A → Bool) (xs : List A) → AllByRecursion P xs → IfSome (find test xs) P
  all_found test [] p = tt
  all_found test (a ∷ xs) p = cond_both (test a) (Some a) (find test xs) (λ o. IfSome o P) (λ here. p.0) (λ later. all_found test xs p.1)

all_weaker : {A : Type 0} (P Q : A → Type 0) → ((a : A) → P a → Q a) → (xs : List A) → AllByRecursion P xs → AllByRecursion Q xs
all_weaker P Q weaker [] p = tt
all_weaker P Q weaker (a ∷ xs) p = (weaker a p.0, all_weaker P Q weaker xs p.1)

-- an answer, or a refusal no later than a place
abbrev AnswersBy : {A : Type 0} → ℕ → (A → Type 0) → Read A → Type 0
AnswersBy end P (Ok a) = P a
AnswersBy end P (Err refusal) = refusal.place ≤ end

abbrev AnyBy : {A : Type 0} → ℕ → Read A → Type 0
AnyBy end answer = AnswersBy end (λ a. ⊤) answer

refused_by : {A : Type 0} (end : ℕ) (P : A → Type 0) (answer : Read A) → AnswersBy end P answer → RefusedBy end answer
refused_by end P (Ok a) s = tt
refused_by end P (Err refusal) s = s

then_by : {A B : Type 0} (end : ℕ) (P : A → Type 0) (Q : B → Type 0) (answer : Read A) (next : A → Read B) → AnswersBy end P answer →
    ((a : A) → P a → AnswersBy end Q (next a)) → AnswersBy end Q (answer >>= next)
then_by end P Q (Ok a) next s each = each a s
then_by end P Q (Err refusal) next s each = s

module _ (end : ℕ) where
  -- pairs
  name_by : (label : Placed) → EndsBy end label → (name : Option LabelValue) → AnyBy end (name_at label name)
  name_by label inside None = omega arith
  name_by label inside (Some name) = tt

  new_by : (label : Placed) → EndsBy end label → (taken : Bool) (name : LabelValue) → AnyBy end (new_name label taken name)
  new_by label inside true name = omega arith
  new_by label inside false name = tt

  value_by : (label value : Placed) → EndsBy end label → EndsBy end value → (fault : Option Reason) (name : LabelValue) →
      AnswersBy end (PairEndsBy end) (value_at label fault name value)
  value_by label value inside there None name = (inside, there)
  value_by label value inside there (Some reason) name = omega arith

  pair_by : (table : Table) (earlier : List Pair) (label value : Placed) → EndsBy end label → EndsBy end value →
      AnswersBy end (PairEndsBy end) (pair_after table earlier label value)
  pair_by table earlier label value inside there =
      then_by end (λ name. ⊤) (PairEndsBy end) (label_after earlier label) (λ name. value_at label (table name value) name value)
      (then_by end (λ name. ⊤) (λ name. ⊤) (name_at label (label_of label)) (λ name. new_name label (has_label name earlier) name)
      (name_by label inside (label_of label)) (λ name s. new_by label inside (has_label name earlier) name))
      (λ name s. value_by label value inside there (table name value) name)

  pairs_by : (table : Table) (earlier : List Pair) (items : List Placed) → PairsEndBy end earlier → AllByRecursion (EndsBy end) items →
      AnswersBy end (PairsEndBy end) (check_pairs table earlier items)
  unfolding check_pairs
  pairs_by table earlier [] before inside = before
  pairs_by table earlier (label ∷ []) before inside = before
  pairs_by table earlier (label ∷ value ∷ others) before inside =
      then_by end (PairEndsBy end) (PairsEndBy end) (pair_after table earlier label value) (λ pair. check_pairs table (earlier ++ pair ∷ []) others)
      (pair_by table earlier label value inside.0 inside.1.0)
      (λ pair s. pairs_by table (earlier ++ pair ∷ []) others (all_both (PairEndsBy end) earlier (pair ∷ []) before (s, tt)) inside.1.1)

  -- the value of a label
  value_of_by : (name : LabelValue) (pairs : List Pair) → PairsEndBy end pairs → IfSome (value_of name pairs) (EndsBy end)
  value_of_by name pairs inside = mapped (pair_of name pairs) (all_found (PairEndsBy end) (is_named name) pairs inside)
    where
      mapped : (found : Option Pair) → IfSome found (PairEndsBy end) → IfSome (option_map (λ pair. pair.value) found) (EndsBy end)
      mapped None s = tt
      mapped (Some pair) s = s.1

  -- the members of a key
  module _ (key : Placed) (at : EndsBy end key) (pairs : List Pair) (inside : PairsEndBy end pairs) where
    present_by : (value : Option Placed) → IfSome value (EndsBy end) → AnswersBy end (EndsBy end) (present key value)
    present_by None s = omega arith
    present_by (Some value) s = s

    member_by : (name : LabelValue) → AnswersBy end (EndsBy end) (member key pairs name)
    member_by name = present_by (value_of name pairs) (value_of_by name pairs inside)

    refused_if : {A : Type 0} (b : Bool) (a : A) (value : Placed) (reason : Reason) → EndsBy end value → AnyBy end (if b then Ok a else refuse reason value)
    refused_if true a value reason s = tt
    refused_if false a value reason s = omega arith

    secret_by : (value : Placed) (content : Option (List ℕ)) → EndsBy end value → AnyBy end (secret_in value content)
    secret_by value None s = omega arith
    secret_by value (Some content) s = cond_both (length content == 0) (refuse BadValue value) _ (AnyBy end) (λ e. omega arith) (λ e. tt)

    usable_by : (found : Option Curve) → AnyBy end (usable_curve key found)
    usable_by None = omega arith
    usable_by (Some curve) = tt

    curve_by : (value : Placed) (number : Option ℤ) → EndsBy end value → AnyBy end (curve_in key value number)
    curve_by value (Some z) s = usable_by (curve_of z)
    curve_by value None s = cond_both (is_a_text (look value)) (refuse UnknownKey key) (refuse BadValue value) (AnyBy end) (λ e. omega arith) (λ e. omega arith)

    size_by : (size : ℕ) (value : Placed) (content : List ℕ) → EndsBy end value → AnyBy end (coordinate_of size value content)
    size_by size value content s = refused_if (length content == size) content value BadValue s

    coordinate_by : (size : ℕ) (value : Placed) (content : Option (List ℕ)) → EndsBy end value → AnyBy end (coordinate_in size value content)
    coordinate_by size value None s = omega arith
    coordinate_by size value (Some content) s = size_by size value content s

    sign_by : (value : Placed) (odd : Option Bool) → EndsBy end value → AnyBy end (sign_in value odd)
    sign_by value None s = omega arith
    sign_by value (Some odd) s = tt

    y_by : (size : ℕ) (value : Placed) (content : Option (List ℕ)) → EndsBy end value → AnyBy end (y_in size value content)
    y_by size value None s = sign_by value (truth_in (look value)) s
    y_by size value (Some content) s = then_by end (λ bytes. ⊤) (λ point. ⊤) (coordinate_of size value content) _ (size_by size value content s) (λ bytes t. tt)

    private_by : (value : Option Placed) → IfSome value (EndsBy end) → AnyBy end (private_part value)
    private_by None s = tt
    private_by (Some value) s = refused_if (is_bytes value) tt value BadValue s

    symmetric_by : AnyBy end (symmetric_key key pairs)
    symmetric_by = then_by end (EndsBy end) (λ material. ⊤) (member key pairs k) _ (member_by k) (λ value s. secret_by value (bytes_in (look value)) s)

    elliptic_by : AnyBy end (elliptic_key key pairs)
    elliptic_by =
        then_by end (EndsBy end) (λ material. ⊤) (member key pairs crv) _ (member_by crv)
        (λ curve_value at_curve. then_by end (λ curve. ⊤) (λ material. ⊤) (curve_in key curve_value (integer_in (look curve_value))) _
        (curve_by curve_value (integer_in (look curve_value)) at_curve)
        (λ curve c. then_by end (EndsBy end) (λ material. ⊤) (member key pairs x) _ (member_by x)
        (λ x_value at_x. then_by end (λ bytes. ⊤) (λ material. ⊤) (coordinate_in curve.coordinate_length x_value (bytes_in (look x_value))) _
        (coordinate_by curve.coordinate_length x_value (bytes_in (look x_value)) at_x)
        (λ x_bytes b. then_by end (EndsBy end) (λ material. ⊤) (member key pairs y) _ (member_by y)
        (λ y_value at_y. then_by end (λ point. ⊤) (λ material. ⊤) (y_in curve.coordinate_length y_value (bytes_in (look y_value))) _
        (y_by curve.coordinate_length y_value (bytes_in (look y_value)) at_y)
        (λ point q. then_by end (λ unused. ⊤) (λ material. ⊤) (private_part (value_of d pairs)) _
        (private_by (value_of d pairs) (value_of_by d pairs inside)) (λ unused u. tt)))))))

    typed_by : (number : Option ℤ) → AnyBy end (material_in key pairs number)
    typed_by None = omega arith
    typed_by (Some z) =
        cond_both (int_eq z (pos 4)) (symmetric_key key pairs) _ (AnyBy end) (λ e. symmetric_by)
        (λ e. cond_both (int_eq z (pos 2)) (elliptic_key key pairs) (refuse UnknownKey key) (AnyBy end) (λ f. elliptic_by) (λ f. omega arith))

    material_by : AnyBy end (material_of key pairs)
    unfolding material_of
    material_by = then_by end (EndsBy end) (λ material. ⊤) (member key pairs kty) _ (member_by kty)
        (λ value s. typed_by (integer_in (look value)))

    usable_okp_by : (found : Option OkpCurve) → AnyBy end (usable_okp_curve key found)
    usable_okp_by None = omega arith
    usable_okp_by (Some curve) = tt

    okp_curve_by : (value : Placed) (number : Option ℤ) → EndsBy end value → AnyBy end (okp_curve_in key value number)
    okp_curve_by value (Some z) s = usable_okp_by (okp_curve_numbered z)
    okp_curve_by value None s = cond_both (is_a_text (look value)) (refuse UnknownKey key) (refuse BadValue value) (AnyBy end) (λ e. omega arith) (λ e. omega arith)

    octet_key_pair_by : AnyBy end (octet_key_pair key pairs)
    octet_key_pair_by =
        then_by end (EndsBy end) (λ read. ⊤) (member key pairs crv) _ (member_by crv)
        (λ curve_value at_curve. then_by end (λ curve. ⊤) (λ read. ⊤) (okp_curve_in key curve_value (integer_in (look curve_value))) _
        (okp_curve_by curve_value (integer_in (look curve_value)) at_curve)
        (λ curve c. then_by end (EndsBy end) (λ read. ⊤) (member key pairs x) _ (member_by x)
        (λ x_value at_x. then_by end (λ bytes. ⊤) (λ read. ⊤) (coordinate_in (public_key_length_of curve) x_value (bytes_in (look x_value))) _
        (coordinate_by (public_key_length_of curve) x_value (bytes_in (look x_value)) at_x)
        (λ x_bytes b. then_by end (λ unused. ⊤) (λ read. ⊤) (private_part (value_of d pairs)) _
        (private_by (value_of d pairs) (value_of_by d pairs inside)) (λ unused u. tt)))))

    okp_typed_by : (number : Option ℤ) → AnyBy end (okp_in key pairs number)
    okp_typed_by None = omega arith
    okp_typed_by (Some z) = cond_both (int_eq z (pos 1)) (octet_key_pair key pairs) (refuse UnknownKey key) (AnyBy end) (λ e. octet_key_pair_by) (λ e. omega arith)

    members_by : AnyBy end (okp_by key pairs)
    unfolding okp_by
    members_by = then_by end (EndsBy end) (λ read. ⊤) (member key pairs kty) _ (member_by kty)
        (λ value s. okp_typed_by (integer_in (look value)))

-- a refusal in a view of the result is that of the code
pub seen_inside : {X Y : Type 0} (view : X → Y) (result : Result X Refusal) (end : ℕ) (answer : Read Y) → seen_by view result ≡ answer → RefusedBy end answer →
    IfErr result (λ refusal. refusal.place ≤ end)
seen_inside view (Ok x) end answer e inside = tt
seen_inside view (Err refusal) end answer e inside = rw (← e) at inside

-- given the laws of reading and of children
module _ (wholes : WholeIsItem) (inside : WholeIsRefusedInside) (children : ChildrenEndInside) where
  map_inside : (table : Table) (p : Placed) → AnswersBy (end_of p) (PairsEndBy (end_of p)) (check_map table p)
  map_inside table p = cond_both (is_a_map (look p)) (check_pairs table [] (children_of p)) (refuse NotMap p)
      (AnswersBy (end_of p) (PairsEndBy (end_of p))) (λ e. pairs_by (end_of p) table [] (children_of p) tt (children p)) (λ e. omega arith)

  whole_inside : (depth : ℕ) (p : Placed) (answer : Read Placed) → whole depth p ≡ answer → AnswersBy (end_of p) (λ item. item ≡ p) answer
  whole_inside depth p (Ok item) e = (wholes depth p item e).2
  whole_inside depth p (Err refusal) e = let at : StandsIn p refusal.place = rw e at (inside depth p) in at.1

  read_inside : (table : Table) (depth : ℕ) (p : Placed) → AnswersBy (end_of p) (PairsEndBy (end_of p)) (read_map table depth p)
  read_inside table depth p = then_by (end_of p) (λ item. item ≡ p) (PairsEndBy (end_of p)) (whole depth p) (check_map table)
      (whole_inside depth p (whole depth p) refl)
      (λ item same. subst (λ q. AnswersBy (end_of p) (PairsEndBy (end_of p)) (check_map table q)) (sym same) (map_inside table p))

  bucket_inside : (depth : ℕ) (p : Placed) → AnswersBy (end_of p) (PairsEndBy (end_of p)) (bucket_of depth p)
  unfolding bucket_of
  bucket_inside depth p = cond_both (length p.bytes == 0) (Ok []) (read_map bucket_table depth p)
      (AnswersBy (end_of p) (PairsEndBy (end_of p))) (λ e. tt) (λ e. read_inside bucket_table depth p)

  key_inside : (p : Placed) → AnyBy (end_of p) (key_of p)
  unfolding key_of
  key_inside p = then_by (end_of p) (PairsEndBy (end_of p)) (λ key. ⊤) (read_map key_table 8 p) _ (read_inside key_table 8 p)
      (λ pairs inside. then_by (end_of p) (λ material. ⊤) (λ key. ⊤) (material_of p pairs) _
      (material_by (end_of p) p (omega arith) pairs inside) (λ material m. tt))

  okp_inside : (p : Placed) → AnyBy (end_of p) (okp_of p)
  unfolding okp_of
  okp_inside p = then_by (end_of p) (PairsEndBy (end_of p)) (λ key. ⊤) (read_map key_table 8 p) _ (read_inside key_table 8 p)
      (λ pairs inside. members_by (end_of p) p (omega arith) pairs inside)

  crit_inside : (end : ℕ) (value : Option Placed) → IfSome value (EndsBy end) → IfSome (option_map children_of value) (AllByRecursion (EndsBy end))
  crit_inside end None s = tt
  crit_inside end (Some value) s = all_weaker (EndsBy (end_of value)) (EndsBy end) (λ child inside. omega arith) (children_of value) (children value)

  pub map_refused_inside : (table : Table) (p : Placed) → RefusedBy (end_of p) (check_map table p)
  map_refused_inside table p = refused_by (end_of p) (PairsEndBy (end_of p)) (check_map table p) (map_inside table p)

  pub found_ends_inside : (table : Table) (p : Placed) (pairs : List Pair) (name : LabelValue) → check_map table p ≡ Ok pairs →
      IfSome (pair_of name pairs) (PairEndsBy (end_of p))
  found_ends_inside table p pairs name e = all_found (PairEndsBy (end_of p)) (is_named name) pairs (rw e at (map_inside table p))

  pub read_refused_inside : (table : Table) (depth : ℕ) (p : Placed) → RefusedBy (end_of p) (read_map table depth p)
  read_refused_inside table depth p = refused_by (end_of p) (PairsEndBy (end_of p)) (read_map table depth p) (read_inside table depth p)

  pub bucket_refused_inside : (depth : ℕ) (p : Placed) → RefusedBy (end_of p) (bucket_of depth p)
  bucket_refused_inside depth p = refused_by (end_of p) (PairsEndBy (end_of p)) (bucket_of depth p) (bucket_inside depth p)

  pub key_refused_inside : (p : Placed) → RefusedBy (end_of p) (key_of p)
  key_refused_inside p = refused_by (end_of p) (λ key. ⊤) (key_of p) (key_inside p)

  pub okp_refused_inside : (p : Placed) → RefusedBy (end_of p) (okp_of p)
  okp_refused_inside p = refused_by (end_of p) (λ key. ⊤) (okp_of p) (okp_inside p)

  pub bucket_ends_inside : (depth : ℕ) (p : Placed) (pairs : List Pair) → bucket_of depth p ≡ Ok pairs → PairsEndBy (end_of p) pairs
  bucket_ends_inside depth p pairs e = rw e at (bucket_inside depth p)

  pub pair_refused_inside : (protected unprotected : List Pair) (understood : List LabelValue) (protected_end unprotected_end after : ℕ) →
      PairsEndBy protected_end protected → PairsEndBy unprotected_end unprotected →
      IfSome (pair_fault protected unprotected understood after) (λ refusal. (refusal.place ≤ max protected_end unprotected_end) ⊎ (refusal.place ≡ after))
  pair_refused_inside protected unprotected understood protected_end unprotected_end after p q =
      let end = max protected_end unprotected_end in
      pair_fault_has (λ refusal. (refusal.place ≤ end) ⊎ (refusal.place ≡ after)) (EndsBy protected_end) (PairEndsBy unprotected_end) protected understood after
      (λ element s. inl (omega arith)) (λ element s. inl (omega arith)) (λ pair s. let at = s.0 in inl (omega arith)) (λ pair s. let at = s.0 in inl (omega arith)) (inr refl)
      unprotected (crit_inside protected_end (value_of crit protected) (value_of_by protected_end crit protected p)) q
