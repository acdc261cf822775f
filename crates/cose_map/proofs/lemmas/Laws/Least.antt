-- The least of several faults is one of them, and none has precedence over it.
use Rattle.std.proofs.Common.{◌≡◌, ℕ, true, false, List, [], ◌∷◌, Option, Some, None, refl, arith, ⊎_elim}
use Rattle.std.specs.Prelude.{◌↔◌, nat_lt, ◌==◌, ◌&&◌, ◌||◌, fold}
use Rattle.std.specs.List.{AllByRecursion, Contains}
use Rattle.std.proofs.lemmas.Bool.{cases_Bool}
use Rattle.std.proofs.lemmas.Bool.Decides.{nat_tests}
use Rattle.std.proofs.lemmas.List.Elements.{Contains-push, Contains-append_left, Contains-append_right, Contains-append_cases}
use Rattle.cose_head.specs.declared.refusal.Refusal.{Refusal}
use Rattle.cose_head.specs.Reason.{number_of}
use Rattle.cose_map.specs.Bucket.Both.{goes_before, lesser, least}

-- the order: by the place, and at the same place by the number
not_itself : (p n : ℕ) → (nat_lt p p || (p == p && nat_lt n n)) ≡ false
not_itself p n = grind (arith, nat_tests)

-- what has precedence over a first one has it over whatever has none over the first
before_others : (p n q m r k : ℕ) → (nat_lt p q || (p == q && nat_lt n m)) ≡ true → (nat_lt p r || (p == r && nat_lt n k)) ≡ false →
    (nat_lt q r || (q == r && nat_lt m k)) ≡ false
before_others p n q m r k e f = grind (arith, nat_tests)

not_before_others : (p n q m r k : ℕ) → (nat_lt p q || (p == q && nat_lt n m)) ≡ false → (nat_lt q r || (q == r && nat_lt m k)) ≡ false →
    (nat_lt p r || (p == r && nat_lt n k)) ≡ false
not_before_others p n q m r k e f = grind (arith, nat_tests)

-- The properties of the least of several faults.
record IsLeast (faults : List Refusal) (fault : Refusal) : Type 0 where
  pub among : Contains faults fault
  pub none_before : AllByRecursion (λ other. goes_before other fault ≡ false) faults

abbrev HasLeast : List Refusal → Option Refusal → Type 0
HasLeast faults None = ⊥
HasLeast faults (Some fault) = IsLeast faults fault

with_greater : (first second : Refusal) (others : List Refusal) → goes_before second first ≡ true → (least : Option Refusal) →
    HasLeast (second ∷ others) least → HasLeast (first ∷ second ∷ others) least
with_greater first second others p None s = s
with_greater first second others p (Some fault) s = record {
  among = Contains-append_right (first ∷ []) (second ∷ others) fault s.among;
  none_before = (before_others second.place (number_of second.reason) first.place (number_of first.reason) fault.place (number_of fault.reason) p s.none_before.0, s.none_before);
}

with_other : (first second : Refusal) (others : List Refusal) → goes_before second first ≡ false → (least : Option Refusal) →
    HasLeast (first ∷ others) least → HasLeast (first ∷ second ∷ others) least
with_other first second others p None s = s
with_other first second others p (Some fault) s = record {
  among = ⊎_elim (Contains-append_left (first ∷ []) (second ∷ others) fault) (Contains-append_right (first ∷ second ∷ []) others fault)
      (Contains-append_cases (first ∷ []) others fault s.among);
  none_before = (
    s.none_before.0,
    (
      not_before_others second.place (number_of second.reason) first.place (number_of first.reason) fault.place (number_of fault.reason) p s.none_before.0,
      s.none_before.1,
    ),
  );
}

least_from : (first : Refusal) (others : List Refusal) → HasLeast (first ∷ others) (fold lesser (Some first) others)
least_from first [] = record { among = Contains-push [] first; none_before = (not_itself first.place (number_of first.reason), tt) }
least_from first (second ∷ others) = ⊎_elim
    (λ p. rw p (with_greater first second others p _ (least_from second others)))
    (λ p. rw p (with_other first second others p _ (least_from first others)))
    (cases_Bool (goes_before second first))

pub no_least_of_none : (faults : List Refusal) → least faults ≡ None ↔ faults ≡ []
no_least_of_none [] = (λ e. refl, λ e. refl)
no_least_of_none (first ∷ others) = (λ e. absurd (rw e at (least_from first others)), λ e. cc)

is_least : (faults : List Refusal) (fault : Refusal) → least faults ≡ Some fault → IsLeast faults fault
is_least [] fault e = cc
is_least (first ∷ others) fault e = rw e at (least_from first others)

pub least_is_among : (faults : List Refusal) (fault : Refusal) → least faults ≡ Some fault → Contains faults fault
least_is_among faults fault e = (is_least faults fault e).among

pub none_before_least : (faults : List Refusal) (fault : Refusal) → least faults ≡ Some fault →
    AllByRecursion (λ other. goes_before other fault ≡ false) faults
none_before_least faults fault e = (is_least faults fault e).none_before
