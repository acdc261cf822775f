-- The key that is chosen is one of the list and fits, and no other one does.
use Rattle.std.proofs.Common.{◌≡◌, ◌∙◌, ℤ, Bool, true, false, List, [], ◌∷◌, ◌++◌, Option, Some, None, Ok, Err, refl, sym, ap, arith}
use Rattle.std.specs.Prelude.{◌&&◌, filter_map, if◌then◌else◌, option_and_then, IsSomeAnd}
use Rattle.std.specs.List.{AllByRecursion, Contains, cons_option}
use Rattle.std.proofs.lemmas.List.Elements.{Contains-append_right}
use Rattle.cose_head.specs.declared.reason.Reason.{Reason}
use Rattle.cose_head.specs.Algorithm.{kind_of, key_type_of, algorithm_numbered}
use Rattle.cose_head.specs.declared.algorithm.Alg.{Alg}
use Rattle.cose_head.specs.declared.kind.Kind.{Kind}
use Rattle.cose_head.specs.declared.kind.Kind.TheVariants.{Mac0, Sign1}
use Rattle.cose_map.specs.Choice.{◌>>=◌, Question, algorithm_used, integer_in_label, fits, fitting, is_for, allows_algorithm, allows_operation, allows_kid, is_answerable, only_one, chosen}
use Rattle.cose_map.specs.Choice.Algorithm.{same_kind, if_of_kind, algorithm_of, has_type}
use Rattle.cose_map.specs.Key.Value.{KeyValue, MaterialValue}
use Rattle.cose_map.specs.Label.{LabelValue, number}

-- where one thing alone is found in a list, it was found at one element
module _ {A B : Type 0} (find : A → Option B) where
  found_first : (Q : Type 0) (x : A) (xs : List A) (y : B) (found : Option B) → find x ≡ found → cons_option found (filter_map find xs) ≡ y ∷ [] →
      (filter_map find xs ≡ y ∷ [] → ((a : A) → Contains xs a → find a ≡ Some y → Q) → Q) →
      ((a : A) → Contains (x ∷ xs) a → find a ≡ Some y → Q) → Q
  found_first Q x xs y None e only later here = later only (λ a among f. here a (Contains-append_right (x ∷ []) xs a among) f)
  found_first Q x xs y (Some z) e only later here = let same : z ≡ y = cc in here x (0, omega arith, refl) (e ∙ ap Some same)

  pub found_at : (Q : Type 0) (xs : List A) (y : B) → filter_map find xs ≡ y ∷ [] → ((a : A) → Contains xs a → find a ≡ Some y → Q) → Q
  found_at Q [] y only here = cc
  found_at Q (x ∷ xs) y only here = found_first Q x xs y (find x) refl only (found_at Q xs y) here

  -- none is found
  none_first : (x : A) (xs : List A) (found : Option B) → find x ≡ found → cons_option found (filter_map find xs) ≡ [] →
      (find x ≡ None) × (filter_map find xs ≡ [])
  none_first x xs None e none = (e, none)
  none_first x xs (Some z) e none = cc

  none_found : (xs : List A) → filter_map find xs ≡ [] → AllByRecursion (λ a. find a ≡ None) xs
  none_found [] none = tt
  none_found (x ∷ xs) none = let first = none_first x xs (find x) refl none in (first.0, none_found xs first.1)

  some_found : (before after : List A) (key : A) (y : B) → find key ≡ Some y → filter_map find (before ++ key ∷ after) ≡ [] → ⊥
  some_found [] after key y e none = let first = none_first key after (find key) refl none in cc
  some_found (x ∷ before) after key y e none = some_found before after key y e (none_first x (before ++ key ∷ after) (find x) refl none).1

  -- where it is found at one element, it is found at no other
  after_one : (key : A) (after : List A) (y z : B) → find key ≡ Some y → filter_map find (key ∷ after) ≡ z ∷ [] → filter_map find after ≡ []
  after_one key after y z e only =
      let whole : y ∷ filter_map find after ≡ z ∷ [] = sym (ap (λ found. cons_option found (filter_map find after)) e) ∙ only in cc

  before_one : (x : A) (before after : List A) (key : A) (y z : B) → find key ≡ Some y → (found : Option B) → find x ≡ found →
      cons_option found (filter_map find (before ++ key ∷ after)) ≡ z ∷ [] →
      (filter_map find (before ++ key ∷ after) ≡ z ∷ [] → AllByRecursion (λ a. find a ≡ None) (before ++ after)) →
      AllByRecursion (λ a. find a ≡ None) (x ∷ (before ++ after))
  before_one x before after key y z e None f only others = (f, others only)
  before_one x before after key y z e (Some w) f only others =
      let rest : filter_map find (before ++ key ∷ after) ≡ [] = cc in absurd (some_found before after key y e rest)

  pub none_besides : (before after : List A) (key : A) (y z : B) → find key ≡ Some y → filter_map find (before ++ key ∷ after) ≡ z ∷ [] →
      AllByRecursion (λ a. find a ≡ None) (before ++ after)
  none_besides [] after key y z e only = none_found after (after_one key after y z e only)
  none_besides (x ∷ before) after key y z e only = before_one x before after key y z e (find x) refl only (none_besides before after key y z e)

-- a key that is found fits
module _ (q : Question) where
  abbrev if_it_is : Bool → KeyValue → ℤ → Option (KeyValue × ℤ)
  if_it_is fit own m = if fit then Some (own, m) else None

  fits_if : (fit : Bool) (own key : KeyValue) (m n : ℤ) → fits q own m ≡ fit → if_it_is fit own m ≡ Some (key, n) →
      (own ≡ key) × (fits q key n ≡ true)
  fits_if true own key m n e found =
      let same : ◌≡◌ {A = KeyValue × ℤ} (own, m) (key, n) = cc in
      (ap (λ pair. pair.0) same, sym (ap (λ pair. fits q pair.0 pair.1) same) ∙ e)
  fits_if false own key m n e found = cc

  fits_numbered : (number : Option ℤ) (own key : KeyValue) (n : ℤ) → (number >>= λ m. if_it_is (fits q own m) own m) ≡ Some (key, n) →
      (own ≡ key) × (fits q key n ≡ true)
  fits_numbered None own key n found = cc
  fits_numbered (Some m) own key n found = fits_if (fits q own m) own key m n refl found

  fits_named : (name : Option LabelValue) (own key : KeyValue) (n : ℤ) →
      (name >>= λ alg. integer_in_label alg >>= λ m. if_it_is (fits q own m) own m) ≡ Some (key, n) → (own ≡ key) × (fits q key n ≡ true)
  fits_named None own key n found = cc
  fits_named (Some alg) own key n found = fits_numbered (integer_in_label alg) own key n found

  pub found_fits : (own key : KeyValue) (n : ℤ) → fitting q own ≡ Some (key, n) → (own ≡ key) × (fits q key n ≡ true)
  found_fits own key n found = fits_named (algorithm_used q.protected_alg q.unprotected_alg own.alg) own key n found

  one_of : (found : List (KeyValue × ℤ)) (key : KeyValue) (n : ℤ) → only_one q found ≡ Ok (key, n) → found ≡ (key, n) ∷ []
  one_of [] key n e = cc
  one_of (one ∷ []) key n e = let same : one ≡ (key, n) = cc in ap (λ o. o ∷ []) same
  one_of (one ∷ another ∷ others) key n e = cc

  answered : (answerable : Bool) (found : List (KeyValue × ℤ)) (reason : Reason) (key : KeyValue) (n : ℤ) →
      (if answerable then only_one q found else Err reason) ≡ Ok (key, n) → found ≡ (key, n) ∷ []
  answered true found reason key n e = one_of found key n e
  answered false found reason key n e = cc

  pub only_fitting : (keys : List KeyValue) (key : KeyValue) (n : ℤ) → chosen q keys ≡ Ok (key, n) → filter_map (fitting q) keys ≡ (key, n) ∷ []
  unfolding chosen
  only_fitting keys key n e = answered (is_answerable q.kind q.protected_alg q.unprotected_alg) (filter_map (fitting q) keys) _ key n e

first_of : (a b c d : Bool) → (a && b && c && d) ≡ true → a ≡ true
first_of true b c d e = refl
first_of false b c d e = cc

-- the algorithm of a key is for messages of the kind, and takes the key's type
same : (a b : Kind) → same_kind a b ≡ true → a ≡ b
same Mac0 Mac0 e = refl
same Sign1 Sign1 e = refl
same Mac0 Sign1 e = cc
same Sign1 Mac0 e = cc

kind_if : (material : MaterialValue) (kind : Kind) (alg : Alg) (b : Bool) → same_kind (kind_of alg) kind ≡ b →
    is_for material (if b then Some alg else None) ≡ true → kind_of alg ≡ kind
kind_if material kind alg true e suits = same (kind_of alg) kind e
kind_if material kind alg false e suits = cc

type_if : (material : MaterialValue) (alg : Alg) (b : Bool) → is_for material (if b then Some alg else None) ≡ true →
    has_type material (key_type_of alg) ≡ true
type_if material alg true suits = suits
type_if material alg false suits = cc

of_kind : (material : MaterialValue) (kind : Kind) (found : Option Alg) → is_for material (option_and_then (if_of_kind kind) found) ≡ true →
    IsSomeAnd found (λ alg. kind_of alg ≡ kind)
of_kind material kind None suits = cc
of_kind material kind (Some alg) suits = kind_if material kind alg (same_kind (kind_of alg) kind) refl suits

of_type : (material : MaterialValue) (kind : Kind) (found : Option Alg) → is_for material (option_and_then (if_of_kind kind) found) ≡ true →
    IsSomeAnd found (λ alg. has_type material (key_type_of alg) ≡ true)
of_type material kind None suits = cc
of_type material kind (Some alg) suits = type_if material alg (same_kind (kind_of alg) kind) suits

pub chosen_among : (q : Question) (keys : List KeyValue) (key : KeyValue) (n : ℤ) → chosen q keys ≡ Ok (key, n) → Contains keys key
chosen_among q keys key n e = found_at (fitting q) (Contains keys key) keys (key, n) (only_fitting q keys key n e)
    (λ own among found. rw (found_fits q own key n found).0 at among)

pub chosen_fits : (q : Question) (keys : List KeyValue) (key : KeyValue) (n : ℤ) → chosen q keys ≡ Ok (key, n) → fits q key n ≡ true
chosen_fits q keys key n e = found_at (fitting q) (fits q key n ≡ true) keys (key, n) (only_fitting q keys key n e)
    (λ own among found. (found_fits q own key n found).1)

chosen_for : (q : Question) (keys : List KeyValue) (key : KeyValue) (n : ℤ) → chosen q keys ≡ Ok (key, n) →
    is_for key.material (algorithm_of q.kind n) ≡ true
chosen_for q keys key n e = first_of (is_for key.material (algorithm_of q.kind n)) (allows_algorithm key.alg (number n))
    (allows_operation key.operations q.operation) (allows_kid key.kid q.kid) (chosen_fits q keys key n e)

pub chosen_of_kind : (q : Question) (keys : List KeyValue) (key : KeyValue) (n : ℤ) → chosen q keys ≡ Ok (key, n) →
    IsSomeAnd (algorithm_numbered n) (λ alg. kind_of alg ≡ q.kind)
chosen_of_kind q keys key n e = of_kind key.material q.kind (algorithm_numbered n) (chosen_for q keys key n e)

pub chosen_typed : (q : Question) (keys : List KeyValue) (key : KeyValue) (n : ℤ) → chosen q keys ≡ Ok (key, n) →
    IsSomeAnd (algorithm_numbered n) (λ alg. has_type key.material (key_type_of alg) ≡ true)
chosen_typed q keys key n e = of_type key.material q.kind (algorithm_numbered n) (chosen_for q keys key n e)

pub no_other_fits : (q : Question) (before after : List KeyValue) (key : KeyValue) (n : ℤ) → chosen q (before ++ key ∷ after) ≡ Ok (key, n) →
    AllByRecursion (λ other. fitting q other ≡ None) (before ++ after)
no_other_fits q before after key n e = found_at (fitting q) _ (before ++ key ∷ after) (key, n) (only_fitting q (before ++ key ∷ after) key n e)
    (λ own among found. none_besides (fitting q) before after key (key, n) (key, n) (sym (ap (fitting q) (found_fits q own key n found).0) ∙ found)
    (only_fitting q (before ++ key ∷ after) key n e))
