-- The key that is chosen is the first one that fits, and stands where that one does.
use Rattle.std.proofs.Common.{◌≡◌, ◌∙◌, ℕ, ◌+◌, ℤ, List, [], ◌∷◌, Option, Some, None, Ok, Err, refl, ap, arith}
use Rattle.std.specs.Prelude.{suc, filter_map, is_some, option_and_then}
use Rattle.std.specs.List.{cons_option, position_from, slice_get}
use Rattle.cose_head.specs.declared.reason.Reason.{Reason}
use Rattle.cose_map.specs.Choice.{Question, chosen, fitting}
use Rattle.cose_map.specs.Choice.Place.{first_fitting, place_of}
use Rattle.cose_map.specs.Key.Value.{KeyValue}
use Rattle.cose_map.proofs.lemmas.Laws.Chosen.{found_fits, only_fitting}

-- where one thing is found in a list, its element is the first at which anything is found
module _ {A B : Type 0} (find : A → Option B) where
  pub record Placed (from : ℕ) (xs : List A) (y : B) : Type 0 where
    pub at : ℕ
    pub element : A
    pub first : position_from (λ a. is_some (find a)) from xs ≡ Some (from + at)
    pub there : slice_get xs at ≡ Some element
    pub found : find element ≡ Some y

  placed_first : (from : ℕ) (x : A) (xs : List A) (y : B) (found : Option B) → find x ≡ found → cons_option found (filter_map find xs) ≡ y ∷ [] →
      (filter_map find xs ≡ y ∷ [] → Placed (from + 1) xs y) → Placed from (x ∷ xs) y
  placed_first from x xs y None e only later =
      let p = later only in
      record { at = suc p.at; element = p.element; first = rw e (p.first ∙ ap Some (omega arith)); there = p.there; found = p.found }
  placed_first from x xs y (Some z) e only later =
      let same : z ≡ y = cc in
      record { at = 0; element = x; first = rw e (ap Some (omega arith)); there = refl; found = e ∙ ap Some same }

  pub placed : (from : ℕ) (xs : List A) (y : B) → filter_map find xs ≡ y ∷ [] → Placed from xs y
  placed from [] y only = cc
  placed from (x ∷ xs) y only = placed_first from x xs y (find x) refl only (placed (from + 1) xs y)

pub chosen_stands_there : (q : Question) (keys : List KeyValue) (key : KeyValue) (n : ℤ) → chosen q keys ≡ Ok (key, n) →
    option_and_then (slice_get keys) (place_of q keys) ≡ Some key
chosen_stands_there q keys key n e =
    let p = placed (fitting q) 0 keys (key, n) (only_fitting q keys key n e) in
    let first : first_fitting q 0 keys ≡ Some p.at = p.first ∙ ap Some (omega arith) in
    rw (e, first) (p.there ∙ ap Some (found_fits q p.element key n p.found).0)

pub no_place_of_none : (q : Question) (keys : List KeyValue) (reason : Reason) → chosen q keys ≡ Err reason → place_of q keys ≡ None
no_place_of_none q keys reason e = rw e refl
