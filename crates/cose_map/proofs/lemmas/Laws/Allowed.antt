-- Of the keys that restrictions leave, the one that is chosen is allowed.
use Rattle.std.proofs.Common.{◌≡◌, ◌∙◌, ◌≤◌, ℕ, ℤ, Bool, true, false, List, [], ◌∷◌, length, Option, Some, None, Ok, refl, ap, subst}
use Rattle.std.specs.Prelude.{◌&&◌, cond, filter, filter_map, nat_le}
use Rattle.std.specs.List.{cons_option, list_any}
use Rattle.std.specs.Ordering.{int_eq}
use Rattle.std.proofs.lemmas.Bool.Decides.{Decides-int_eq}
use Rattle.std.proofs.lemmas.Bool.{leb-true}
use Rattle.cose_map.specs.Choice.{Question, allows_algorithm as allows_use, allows_kid, allows_operation, chosen, fitting, is_for}
use Rattle.cose_map.specs.Choice.Algorithm.{algorithm_of}
use Rattle.cose_map.specs.Key.Value.{KeyValue, MaterialValue, symmetric}
use Rattle.cose_map.specs.Label.{LabelValue, number, words}
use Rattle.cose_map.specs.Restrictions.{RestrictionsValue, allowed_of, allows, allows_algorithm, allows_material, is_among}
use Rattle.cose_map.proofs.lemmas.Laws.Chosen.{chosen_fits, found_fits, only_fitting}

-- where one thing alone is found among the elements that pass a test, it was found at one that passes
module _ {A B : Type 0} (test : A → Bool) (find : A → Option B) where
  passed_first : (Q : Type 0) (x : A) (xs : List A) (y : B) (found : Option B) → test x ≡ true → find x ≡ found →
      cons_option found (filter_map find (filter test xs)) ≡ y ∷ [] →
      (filter_map find (filter test xs) ≡ y ∷ [] → Q) → ((a : A) → test a ≡ true → find a ≡ Some y → Q) → Q
  passed_first Q x xs y None passes e only later here = later only
  passed_first Q x xs y (Some z) passes e only later here = let same : z ≡ y = cc in here x passes (e ∙ ap Some same)

  passed_next : (Q : Type 0) (x : A) (xs : List A) (y : B) (passes : Bool) → test x ≡ passes →
      filter_map find (cond passes (x ∷ filter test xs) (filter test xs)) ≡ y ∷ [] →
      (filter_map find (filter test xs) ≡ y ∷ [] → Q) → ((a : A) → test a ≡ true → find a ≡ Some y → Q) → Q
  passed_next Q x xs y true e only later here = passed_first Q x xs y (find x) e refl only later here
  passed_next Q x xs y false e only later here = later only

  passed_at : (Q : Type 0) (xs : List A) (y : B) → filter_map find (filter test xs) ≡ y ∷ [] → ((a : A) → test a ≡ true → find a ≡ Some y → Q) → Q
  passed_at Q [] y only here = cc
  passed_at Q (x ∷ xs) y only here = passed_next Q x xs y (test x) refl only (λ rest. passed_at Q xs y rest here) here

first_holds : (a b : Bool) → (a && b) ≡ true → a ≡ true
first_holds true b e = refl
first_holds false b e = cc

second_holds : (a b : Bool) → (a && b) ≡ true → b ≡ true
second_holds true b e = e
second_holds false b e = cc

second_of : (a b c d : Bool) → (a && b && c && d) ≡ true → b ≡ true
second_of true true c d e = refl
second_of true false c d e = cc
second_of false b c d e = cc

pub chosen_allowed : (r : RestrictionsValue) (q : Question) (keys : List KeyValue) (key : KeyValue) (n : ℤ) → chosen q (allowed_of r keys) ≡ Ok (key, n) →
    allows r key ≡ true
chosen_allowed r q keys key n e = passed_at (allows r) (fitting q) (allows r key ≡ true) keys (key, n) (only_fitting q (allowed_of r keys) key n e)
    (λ own passes found. subst (λ (k : KeyValue). allows r k ≡ true) (found_fits q own key n found).0 passes)

-- An allowed algorithm that a key names is the one that it is used with.
among_used : (allowed : List ℤ) (own : Option LabelValue) (n : ℤ) → is_among allowed own ≡ true → allows_use own (number n) ≡ true → list_any (int_eq n) allowed ≡ true
among_used allowed None n among used = cc
among_used allowed (Some (words name)) n among used = cc
among_used allowed (Some (number own)) n among used = subst (λ (m : ℤ). list_any (int_eq m) allowed ≡ true) ((Decides-int_eq own n).0 used) among

pub algorithm_allowed : (r : RestrictionsValue) (allowed : List ℤ) (q : Question) (keys : List KeyValue) (key : KeyValue) (n : ℤ) → r.algorithms ≡ Some allowed →
    chosen q (allowed_of r keys) ≡ Ok (key, n) → list_any (int_eq n) allowed ≡ true
algorithm_allowed r allowed q keys key n names e =
    let own : allows_algorithm r.algorithms key.alg ≡ true = first_holds (allows_algorithm r.algorithms key.alg) (allows_material r.least_secret key.material) (chosen_allowed r q keys key n e) in
    let among : is_among allowed key.alg ≡ true = subst (λ (a : Option (List ℤ)). allows_algorithm a key.alg ≡ true) names own in
    let used : allows_use key.alg (number n) ≡ true = second_of (is_for key.material (algorithm_of q.kind n)) (allows_use key.alg (number n))
    (allows_operation key.operations q.operation) (allows_kid key.kid q.kid) (chosen_fits q (allowed_of r keys) key n e) in
    among_used allowed key.alg n among used

pub secret_long_enough : (r : RestrictionsValue) (q : Question) (keys : List KeyValue) (key : KeyValue) (n : ℤ) (secret : List ℕ) → key.material ≡ symmetric secret →
    chosen q (allowed_of r keys) ≡ Ok (key, n) → r.least_secret ≤ length secret
secret_long_enough r q keys key n secret is e =
    let long : allows_material r.least_secret key.material ≡ true = second_holds (allows_algorithm r.algorithms key.alg) (allows_material r.least_secret key.material) (chosen_allowed r q keys key n e) in
    let enough : nat_le r.least_secret (length secret) ≡ true = subst (λ (m : MaterialValue). allows_material r.least_secret m ≡ true) is long in
    leb-true r.least_secret (length secret) enough
