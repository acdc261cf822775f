-- The reasons for which maps, buckets, keys, key sets, two buckets together and the choice of the key are refused: an
-- answer is a value, or a refusal whose reason has a property, and this is kept by what follows it.
use Rattle.std.proofs.Common.{◌≡◌, ℕ, Bool, true, false, not, List, [], ◌∷◌, ◌++◌, length, Option, Some, None, Ok, Err, if◌then◌else◌, lit<, refl, ap}
use Rattle.std.specs.Prelude.{◌≢◌, ⊤, IfErr, IfSome, ℤ, pos, nat_lt, ◌==◌, ◌&&◌, filter_map}
use Rattle.std.specs.List.{AllByRecursion, Contains, list_all}
use Rattle.std.specs.Ordering.{int_eq}
use Rattle.std.proofs.lemmas.Bool.{cond_both}
use Rattle.std.proofs.lemmas.List.Elements.{All-from_recursion, All-contains, Contains-append_left, Contains-append_right}
use Rattle.std.proofs.lemmas.Result.{IfErr-weaker}
use Rattle.cose_head.specs.declared.reason.Reason.{Reason}
use Rattle.cose_head.specs.declared.reason.Reason.TheVariants.{Truncated, NotMap, BadLabel, DuplicateLabel, BadValue, UnknownAlg, BadKeySet, UnknownKey}
use Rattle.cose_head.specs.declared.refusal.Refusal.{Refusal}
use Rattle.cose_head.specs.Placed.{Placed, look, is_a_map, integer_in, bytes_in, is_a_text, truth_in, children_of}
use Rattle.cose_head.specs.PlacedLaws.{WholeReasons}
use Rattle.cose_head.specs.Reason.{number_of, whole_reasons}
use Rattle.cose_head.specs.Whole.{whole}
use Rattle.cose_map.specs.declared.key.curve.Curve.{Curve}
use Rattle.cose_map.specs.Bucket.{bucket_of, crit_of}
use Rattle.cose_map.specs.Bucket.Form.{bucket_form, bucket_table}
use Rattle.cose_map.specs.Map.Form.{is_bytes, Table}
use Rattle.cose_map.specs.Map.Pairs.{value_of, Pair, has_label}
use Rattle.cose_map.specs.Choice.{Question, none_fits, only_one, is_answerable, fitting, chosen}
use Rattle.cose_map.specs.Key.{key_of}
use Rattle.cose_map.specs.Key.Form.{key_form, key_table}
use Rattle.cose_map.specs.Key.Labels.{kty, k, crv, x, y, d}
use Rattle.cose_map.specs.KeySet.{items_in, usable_keys, keys_at, keys_of}
use Rattle.cose_map.specs.Key.Value.{KeyValue}
use Rattle.cose_map.specs.Label.{LabelValue, label_of}
use Rattle.cose_map.specs.Map.Read.{Read, ◌>>=◌, refuse, name_at, new_name, value_at, label_after, pair_after, check_pairs, check_map, read_map}
use Rattle.cose_map.specs.Key.Material.{present, member, secret_in, symmetric_key, usable_curve, curve_in, coordinate_of, coordinate_in, sign_in, y_in, private_part, elliptic_key, material_in, material_of}
use Rattle.cose_map.specs.Key.Curve.{curve_of}
use Rattle.cose_map.specs.Bucket.Both.{pair_fault}
use Rattle.cose_map.specs.Laws.Reasons.{map_reasons, bucket_reasons, key_reasons, key_set_reasons, pair_reasons, choice_reasons, RefusedFor, FindsFaults}
use Rattle.cose_map.proofs.lemmas.Bucket.EachFault.{all_any, pair_fault_has}

-- refusals whose reasons have a property
module _ (P : Reason → Type 0) where
  abbrev Refuses : {A : Type 0} → Read A → Type 0
  Refuses answer = IfErr answer (λ refusal. P refusal.reason)

  then_refuses : {A B : Type 0} (answer : Read A) (next : A → Read B) → Refuses answer → ((a : A) → Refuses (next a)) → Refuses (answer >>= next)
  then_refuses (Ok a) next s each = each a
  then_refuses (Err refusal) next s each = s

  if_refuses : {A : Type 0} (b : Bool) (answer other : Read A) → Refuses answer → Refuses other → Refuses (if b then answer else other)
  if_refuses true answer other s t = s
  if_refuses false answer other s t = t

  -- pairs, whose values a table finds faults with
  module _ (no_label : P BadLabel) (twice : P DuplicateLabel) (table : Table) (finds : (name : LabelValue) (value : Placed) → IfSome (table name value) P) where
    name_refuses : (label : Placed) (name : Option LabelValue) → Refuses (name_at label name)
    name_refuses label None = no_label
    name_refuses label (Some name) = tt

    value_refuses : (label value : Placed) (fault : Option Reason) (name : LabelValue) → IfSome fault P → Refuses (value_at label fault name value)
    value_refuses label value None name s = tt
    value_refuses label value (Some reason) name s = s

    pair_refuses : (earlier : List Pair) (label value : Placed) → Refuses (pair_after table earlier label value)
    pair_refuses earlier label value =
        then_refuses (label_after earlier label) (λ name. value_at label (table name value) name value)
        (then_refuses (name_at label (label_of label)) (λ name. new_name label (has_label name earlier) name) (name_refuses label (label_of label))
        (λ name. if_refuses (has_label name earlier) (refuse DuplicateLabel label) (Ok name) twice tt))
        (λ name. value_refuses label value (table name value) name (finds name value))

    pairs_refuse : (earlier : List Pair) (items : List Placed) → Refuses (check_pairs table earlier items)
    unfolding check_pairs
    pairs_refuse earlier [] = tt
    pairs_refuse earlier (label ∷ []) = tt
    pairs_refuse earlier (label ∷ value ∷ others) =
        then_refuses (pair_after table earlier label value) (λ pair. check_pairs table (earlier ++ pair ∷ []) others)
        (pair_refuses earlier label value) (λ pair. pairs_refuse (earlier ++ pair ∷ []) others)

    map_refuses : P NotMap → (p : Placed) → Refuses (check_map table p)
    map_refuses no_map p = if_refuses (is_a_map (look p)) (check_pairs table [] (children_of p)) (refuse NotMap p) (pairs_refuse [] (children_of p)) no_map

  -- the members of a key
  module _ (bad : P BadValue) (unknown : P UnknownKey) (key : Placed) (pairs : List Pair) where
    present_refuses : (value : Option Placed) → Refuses (present key value)
    present_refuses None = bad
    present_refuses (Some value) = tt

    member_refuses : (name : LabelValue) → Refuses (member key pairs name)
    member_refuses name = present_refuses (value_of name pairs)

    secret_refuses : (value : Placed) (content : Option (List ℕ)) → Refuses (secret_in value content)
    secret_refuses value None = bad
    secret_refuses value (Some content) = if_refuses (length content == 0) (refuse BadValue value) _ bad tt

    usable_refuses : (found : Option Curve) → Refuses (usable_curve key found)
    usable_refuses None = unknown
    usable_refuses (Some curve) = tt

    curve_refuses : (value : Placed) (number : Option ℤ) → Refuses (curve_in key value number)
    curve_refuses value (Some z) = usable_refuses (curve_of z)
    curve_refuses value None = if_refuses (is_a_text (look value)) (refuse UnknownKey key) (refuse BadValue value) unknown bad

    size_refuses : (size : ℕ) (value : Placed) (content : List ℕ) → Refuses (coordinate_of size value content)
    size_refuses size value content = if_refuses (length content == size) (Ok content) (refuse BadValue value) tt bad

    coordinate_refuses : (size : ℕ) (value : Placed) (content : Option (List ℕ)) → Refuses (coordinate_in size value content)
    coordinate_refuses size value None = bad
    coordinate_refuses size value (Some content) = size_refuses size value content

    sign_refuses : (value : Placed) (odd : Option Bool) → Refuses (sign_in value odd)
    sign_refuses value None = bad
    sign_refuses value (Some odd) = tt

    y_refuses : (size : ℕ) (value : Placed) (content : Option (List ℕ)) → Refuses (y_in size value content)
    y_refuses size value None = sign_refuses value (truth_in (look value))
    y_refuses size value (Some content) = then_refuses (coordinate_of size value content) _ (size_refuses size value content) (λ bytes. tt)

    private_refuses : (value : Option Placed) → Refuses (private_part value)
    private_refuses None = tt
    private_refuses (Some value) = if_refuses (is_bytes value) (Ok tt) (refuse BadValue value) tt bad

    symmetric_refuses : Refuses (symmetric_key key pairs)
    symmetric_refuses = then_refuses (member key pairs k) _ (member_refuses k) (λ value. secret_refuses value (bytes_in (look value)))

    elliptic_refuses : Refuses (elliptic_key key pairs)
    elliptic_refuses =
        then_refuses (member key pairs crv) _ (member_refuses crv)
        (λ curve_value. then_refuses (curve_in key curve_value (integer_in (look curve_value))) _ (curve_refuses curve_value (integer_in (look curve_value)))
        (λ curve. then_refuses (member key pairs x) _ (member_refuses x)
        (λ x_value. then_refuses (coordinate_in curve.coordinate_length x_value (bytes_in (look x_value))) _
        (coordinate_refuses curve.coordinate_length x_value (bytes_in (look x_value)))
        (λ x_bytes. then_refuses (member key pairs y) _ (member_refuses y)
        (λ y_value. then_refuses (y_in curve.coordinate_length y_value (bytes_in (look y_value))) _
        (y_refuses curve.coordinate_length y_value (bytes_in (look y_value)))
        (λ point. then_refuses (private_part (value_of d pairs)) _ (private_refuses (value_of d pairs)) (λ unused. tt)))))))

    typed_refuses : (number : Option ℤ) → Refuses (material_in key pairs number)
    typed_refuses None = unknown
    typed_refuses (Some z) =
        if_refuses (int_eq z (pos 4)) (symmetric_key key pairs) _ symmetric_refuses
        (if_refuses (int_eq z (pos 2)) (elliptic_key key pairs) (refuse UnknownKey key) elliptic_refuses unknown)

    material_refuses : Refuses (material_of key pairs)
    unfolding material_of
    material_refuses = then_refuses (member key pairs kty) _ (member_refuses kty) (λ value. typed_refuses (integer_in (look value)))

-- one of several reasons is one of more
among_first : (some others : List Reason) {A : Type 0} (answer : Read A) → RefusedFor some answer → RefusedFor (some ++ others) answer
among_first some others answer s = IfErr-weaker answer (λ refusal. Contains some refusal.reason) (λ refusal. Contains (some ++ others) refusal.reason)
    (λ refusal. Contains-append_left some others refusal.reason) s

among_last : (some others : List Reason) {A : Type 0} (answer : Read A) → RefusedFor others answer → RefusedFor (some ++ others) answer
among_last some others answer s = IfErr-weaker answer (λ refusal. Contains others refusal.reason) (λ refusal. Contains (some ++ others) refusal.reason)
    (λ refusal. Contains-append_right some others refusal.reason) s

found_last : (some others : List Reason) (fault : Option Reason) → IfSome fault (Contains others) → IfSome fault (Contains (some ++ others))
found_last some others None s = tt
found_last some others (Some reason) s = Contains-append_right some others reason s

pub map_refused_for : (reasons : List Reason) (table : Table) → FindsFaults reasons table → (p : Placed) → RefusedFor (map_reasons ++ reasons) (check_map table p)
map_refused_for reasons table finds p =
    let first : (reason : Reason) → Contains map_reasons reason → Contains (map_reasons ++ reasons) reason = λ reason. Contains-append_left map_reasons reasons reason in
    map_refuses (Contains (map_reasons ++ reasons)) (first BadLabel (1, lit< tt, refl)) (first DuplicateLabel (2, lit< tt, refl)) table
    (λ name value. found_last map_reasons reasons (table name value) (finds name value)) (first NotMap (0, lit< tt, refl)) p

-- the tables of buckets and keys
bad_if : (right : Bool) → IfSome (if right then None else Some BadValue) (Contains (BadValue ∷ []))
bad_if true = tt
bad_if false = (0, lit< tt, refl)

bucket_finds : FindsFaults (BadValue ∷ []) bucket_table
unfolding bucket_table
bucket_finds name value = bad_if (bucket_form name value)

key_finds : FindsFaults (BadValue ∷ []) key_table
unfolding key_table
key_finds name value = bad_if (key_form name value)

-- given the reasons of bytes that should be one item
module _ (reasons : WholeReasons) where
  whole_refused_for : (depth : ℕ) (p : Placed) → RefusedFor whole_reasons (whole depth p)
  whole_refused_for depth p = at (whole depth p) refl
    where
      at : (answer : Read Placed) → whole depth p ≡ answer → RefusedFor whole_reasons answer
      at (Ok item) e = tt
      at (Err refusal) e = reasons depth p refusal e

  pub read_refused_for : (reasons : List Reason) (table : Table) → FindsFaults reasons table → (depth : ℕ) (p : Placed) →
      RefusedFor (whole_reasons ++ (map_reasons ++ reasons)) (read_map table depth p)
  read_refused_for reasons table finds depth p =
      then_refuses (Contains (whole_reasons ++ (map_reasons ++ reasons))) (whole depth p) (check_map table)
      (among_first whole_reasons (map_reasons ++ reasons) (whole depth p) (whole_refused_for depth p))
      (λ item. among_last whole_reasons (map_reasons ++ reasons) (check_map table item) (map_refused_for reasons table finds item))

  pub bucket_refused_for : (depth : ℕ) (p : Placed) → RefusedFor bucket_reasons (bucket_of depth p)
  unfolding bucket_of
  bucket_refused_for depth p = if_refuses (Contains bucket_reasons) (length p.bytes == 0) (Ok []) (read_map bucket_table depth p) tt
      (read_refused_for (BadValue ∷ []) bucket_table bucket_finds depth p)

  pub key_refused_for : (p : Placed) → RefusedFor key_reasons (key_of p)
  unfolding key_of
  key_refused_for p = then_refuses (Contains key_reasons) (read_map key_table 8 p) _
      (among_first bucket_reasons (UnknownKey ∷ []) (read_map key_table 8 p) (read_refused_for (BadValue ∷ []) key_table key_finds 8 p))
      (λ pairs. then_refuses (Contains key_reasons) (material_of p pairs) _
      (material_refuses (Contains key_reasons) (9, lit< tt, refl) (10, lit< tt, refl) p pairs) (λ material. tt))

  pub key_set_refused_for : (bytes : List ℕ) → RefusedFor key_set_reasons (keys_of bytes)
  unfolding keys_of
  key_set_refused_for bytes =
      let set : Placed = record { bytes = bytes; place = 0 } in
      let bad : Contains key_set_reasons BadKeySet = (6, lit< tt, refl) in
      if_refuses (Contains key_set_reasons) (nat_lt 65535 (length bytes)) (refuse BadKeySet set) (keys_at set) bad
      (then_refuses (Contains key_set_reasons) (whole 8 set) _ (among_first whole_reasons (BadKeySet ∷ []) (whole 8 set) (whole_refused_for 8 set))
      (λ item. if_refuses (Contains key_set_reasons) (length (items_in item) == 0) (refuse BadKeySet item) (Ok (usable_keys item)) bad tt))

-- two buckets
pub pair_refused_for : (protected unprotected : List Pair) (understood : List LabelValue) (after : ℕ) →
    IfSome (pair_fault protected unprotected understood after) (λ refusal. Contains pair_reasons refusal.reason)
pair_refused_for protected unprotected understood after =
    pair_fault_has (λ refusal. Contains pair_reasons refusal.reason) (λ element. ⊤) (λ pair. ⊤) protected understood after
    (λ element s. (2, lit< tt, refl)) (λ element s. (3, lit< tt, refl)) (λ pair s. (0, lit< tt, refl)) (λ pair s. (1, lit< tt, refl)) (4, lit< tt, refl)
    unprotected (any_elements (crit_of protected)) (all_any (λ pair. ⊤) (λ pair. tt) unprotected)
  where
    any_elements : (elements : Option (List Placed)) → IfSome elements (AllByRecursion (λ element. ⊤))
    any_elements None = tt
    any_elements (Some elements) = all_any (λ element. ⊤) (λ element. tt) elements

-- the choice of the key
none_refused : (protected unprotected : Option LabelValue) → Contains choice_reasons (none_fits protected unprotected)
none_refused (Some protected) unprotected = (3, lit< tt, refl)
none_refused None (Some unprotected) = (2, lit< tt, refl)
none_refused None None = (0, lit< tt, refl)

one_refused : (q : Question) (fitting : List (KeyValue × ℤ)) → IfErr (only_one q fitting) (Contains choice_reasons)
one_refused q [] = none_refused q.protected_alg q.unprotected_alg
one_refused q (one ∷ []) = tt
one_refused q (one ∷ another ∷ others) = (4, lit< tt, refl)

pub choice_refused_for : (q : Question) (keys : List KeyValue) → IfErr (chosen q keys) (Contains choice_reasons)
unfolding chosen
choice_refused_for q keys = cond_both (is_answerable q.kind q.protected_alg q.unprotected_alg) (only_one q (filter_map (fitting q) keys)) (Err UnknownAlg)
    (λ answer. IfErr answer (Contains choice_reasons)) (λ e. one_refused q (filter_map (fitting q) keys)) (λ e. (1, lit< tt, refl))

-- none of the reasons is Truncated
abbrev is_other : Reason → Bool
is_other reason = not (number_of reason == 1)

both : (a b : Bool) → (a && b) ≡ true → (a ≡ true) × (b ≡ true)
both true b e = (refl, e)
both false b e = cc

others : (reasons : List Reason) → list_all is_other reasons ≡ true → AllByRecursion (λ reason. reason ≢ Truncated) reasons
others [] e = tt
others (reason ∷ reasons) e =
    let parts = both (is_other reason) (list_all is_other reasons) e in
    (λ same. let no : is_other reason ≡ false = ap is_other same in cc (parts.0), others reasons parts.1)

module _ (reasons : List Reason) (none : list_all is_other reasons ≡ true) where
  not_truncated : (reason : Reason) → Contains reasons reason → reason ≢ Truncated
  not_truncated reason s = All-contains (λ reason. reason ≢ Truncated) reasons reason (All-from_recursion (λ reason. reason ≢ Truncated) reasons (others reasons none)) s

  refusal_not_truncated : {A : Type 0} (answer : Read A) → RefusedFor reasons answer → IfErr answer (λ refusal. refusal.reason ≢ Truncated)
  refusal_not_truncated answer s = IfErr-weaker answer (λ refusal. Contains reasons refusal.reason) (λ refusal. refusal.reason ≢ Truncated)
      (λ refusal. not_truncated refusal.reason) s

  fault_not_truncated : (found : Option Refusal) → IfSome found (λ refusal. Contains reasons refusal.reason) → IfSome found (λ refusal. refusal.reason ≢ Truncated)
  fault_not_truncated None s = tt
  fault_not_truncated (Some refusal) s = not_truncated refusal.reason s

-- given the reasons of bytes that should be one item
module _ (reasons : WholeReasons) where
  pub bucket_not_truncated : (depth : ℕ) (p : Placed) → IfErr (bucket_of depth p) (λ refusal. refusal.reason ≢ Truncated)
  bucket_not_truncated depth p = refusal_not_truncated bucket_reasons refl (bucket_of depth p) (bucket_refused_for reasons depth p)

  pub key_not_truncated : (p : Placed) → IfErr (key_of p) (λ refusal. refusal.reason ≢ Truncated)
  key_not_truncated p = refusal_not_truncated key_reasons refl (key_of p) (key_refused_for reasons p)

  pub key_set_not_truncated : (bytes : List ℕ) → IfErr (keys_of bytes) (λ refusal. refusal.reason ≢ Truncated)
  key_set_not_truncated bytes = refusal_not_truncated key_set_reasons refl (keys_of bytes) (key_set_refused_for reasons bytes)

pub pair_not_truncated : (protected unprotected : List Pair) (understood : List LabelValue) (after : ℕ) →
    IfSome (pair_fault protected unprotected understood after) (λ refusal. refusal.reason ≢ Truncated)
pair_not_truncated protected unprotected understood after =
    fault_not_truncated pair_reasons refl (pair_fault protected unprotected understood after) (pair_refused_for protected unprotected understood after)

pub choice_not_truncated : (q : Question) (keys : List KeyValue) → IfErr (chosen q keys) (λ reason. reason ≢ Truncated)
choice_not_truncated q keys = IfErr-weaker (chosen q keys) (Contains choice_reasons) (λ reason. reason ≢ Truncated)
    (not_truncated choice_reasons refl) (choice_refused_for q keys)
