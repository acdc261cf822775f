-- A property of each fault of two buckets is a property of the fault that is answered.
use Rattle.std.proofs.Common.{ℕ, Bool, true, false, not, List, [], ◌∷◌, ◌++◌, Option, Some, None}
use Rattle.std.specs.Prelude.{IfSome, fold, flat_map}
use Rattle.std.specs.List.{AllByRecursion}
use Rattle.std.proofs.lemmas.Bool.{cond_both}
use Rattle.cose_head.specs.declared.reason.Reason.{Reason}
use Rattle.cose_head.specs.declared.reason.Reason.TheVariants.{BothBuckets, CritUnprotected, CritAbsent, CritUnknown, BothIvs}
use Rattle.cose_head.specs.declared.refusal.Refusal.{Refusal}
use Rattle.cose_head.specs.Placed.{Placed}
use Rattle.cose_map.specs.Bucket.Header.{crit}
use Rattle.cose_map.specs.Bucket.{crit_of}
use Rattle.cose_map.specs.Label.{LabelValue, same_label, label_of}
use Rattle.cose_map.specs.Map.Pairs.{Pair, has_label}
use Rattle.cose_map.specs.Bucket.Both.{fault_if, critical_faults, element_faults, all_element_faults, crit_faults, is_understood, unprotected_faults, both_ivs, pair_faults, goes_before, lesser, pair_fault}

-- lists of which each element has a property
module _ {A : Type 0} (P : A → Type 0) where
  pub all_both : (xs ys : List A) → AllByRecursion P xs → AllByRecursion P ys → AllByRecursion P (xs ++ ys)
  all_both [] ys p q = q
  all_both (a ∷ xs) ys p q = (p.0, all_both xs ys p.1 q)

  all_through : {B : Type 0} (Q : B → Type 0) (f : B → List A) → ((b : B) → Q b → AllByRecursion P (f b)) → (bs : List B) →
      AllByRecursion Q bs → AllByRecursion P (flat_map f bs)
  all_through Q f each [] p = tt
  all_through Q f each (b ∷ bs) p = all_both (f b) (flat_map f bs) (each b p.0) (all_through Q f each bs p.1)

  pub all_any : ((a : A) → P a) → (xs : List A) → AllByRecursion P xs
  all_any each [] = tt
  all_any each (a ∷ xs) = (each a, all_any each xs)

abbrev fault : Reason → ℕ → Refusal
fault reason place = record { reason = reason; place = place }

-- a property of refusals that those at an element of crit have, where the element has a property, those at a pair of
-- the unprotected bucket, where the pair has one, and the one after both
module _ (P : Refusal → Type 0) (OfElement : Placed → Type 0) (OfPair : Pair → Type 0) (protected : List Pair) (understood : List LabelValue) (after : ℕ)
    (absent : (element : Placed) → OfElement element → P (fault CritAbsent element.place))
    (unknown : (element : Placed) → OfElement element → P (fault CritUnknown element.place))
    (repeated : (pair : Pair) → OfPair pair → P (fault BothBuckets pair.label.place))
    (unprotected_crit : (pair : Pair) → OfPair pair → P (fault CritUnprotected pair.label.place))
    (ivs : P (fault BothIvs after)) where
  if_wrong : (wrong : Bool) (reason : Reason) (place : ℕ) → P (fault reason place) → AllByRecursion P (fault_if wrong reason place)
  if_wrong true reason place s = (s, tt)
  if_wrong false reason place s = tt

  critical_has : (element : Placed) → OfElement element → (name : Option LabelValue) → AllByRecursion P (critical_faults protected understood element name)
  critical_has element s None = tt
  critical_has element s (Some name) = all_both P _ _
      (if_wrong (not (has_label name protected)) CritAbsent element.place (absent element s))
      (if_wrong (not (is_understood understood name)) CritUnknown element.place (unknown element s))

  elements_have : (elements : Option (List Placed)) → IfSome elements (AllByRecursion OfElement) → AllByRecursion P (all_element_faults protected understood elements)
  elements_have None s = tt
  elements_have (Some elements) s = all_through P OfElement (element_faults protected understood)
      (λ element t. critical_has element t (label_of element)) elements s

  unprotected_has : (pair : Pair) → OfPair pair → AllByRecursion P (unprotected_faults protected pair)
  unprotected_has pair s = all_both P _ _
      (if_wrong (has_label pair.name protected) BothBuckets pair.label.place (repeated pair s))
      (if_wrong (same_label pair.name crit) CritUnprotected pair.label.place (unprotected_crit pair s))

  lesser_has : (least : Option Refusal) (next : Refusal) → IfSome least P → P next → IfSome (lesser least next) P
  lesser_has None next s t = t
  lesser_has (Some least) next s t = cond_both (goes_before next least) (Some next) (Some least) (λ o. IfSome o P) (λ e. t) (λ e. s)

  least_has : (so_far : Option Refusal) (faults : List Refusal) → IfSome so_far P → AllByRecursion P faults → IfSome (fold lesser so_far faults) P
  least_has so_far [] s all = s
  least_has so_far (next ∷ faults) s all = least_has (lesser so_far next) faults (lesser_has so_far next s all.0) all.1

  pub pair_fault_has : (unprotected : List Pair) → IfSome (crit_of protected) (AllByRecursion OfElement) → AllByRecursion OfPair unprotected →
      IfSome (pair_fault protected unprotected understood after) P
  unfolding pair_faults
  pair_fault_has unprotected elements pairs = least_has None _ tt
      (all_both P (crit_faults protected understood) _ (elements_have (crit_of protected) elements)
      (all_both P _ _ (all_through P OfPair (unprotected_faults protected) unprotected_has unprotected pairs)
      (if_wrong (both_ivs protected unprotected) BothIvs after ivs)))
