-- The key that is chosen is one of the list and fits, and no other one fits.
use Rattle.std.specs.Prelude.{◌≡◌, ℤ, true, List, ◌∷◌, ◌++◌, None, Ok, IsSomeAnd}
use Rattle.std.specs.List.{AllByRecursion, Contains}
use Rattle.cose_head.specs.Algorithm.{kind_of, key_type_of, algorithm_numbered}
use Rattle.cose_map.specs.Choice.{Question, fits, fitting, chosen}
use Rattle.cose_map.specs.Choice.Algorithm.{has_type}
use Rattle.cose_map.specs.Key.Value.{KeyValue}

abbrev pub ChosenIsAmong : Type 0
ChosenIsAmong = (q : Question) (keys : List KeyValue) (key : KeyValue) (n : ℤ) → chosen q keys ≡ Ok (key, n) → Contains keys key

abbrev pub ChosenFits : Type 0
ChosenFits = (q : Question) (keys : List KeyValue) (key : KeyValue) (n : ℤ) → chosen q keys ≡ Ok (key, n) → fits q key n ≡ true

-- The number is that of an algorithm for messages of the kind.
abbrev pub ChosenIsOfKind : Type 0
ChosenIsOfKind = (q : Question) (keys : List KeyValue) (key : KeyValue) (n : ℤ) → chosen q keys ≡ Ok (key, n) →
    IsSomeAnd (algorithm_numbered n) (λ alg. kind_of alg ≡ q.kind)

-- The key is of the algorithm's type, and on its curve.
abbrev pub ChosenIsOfType : Type 0
ChosenIsOfType = (q : Question) (keys : List KeyValue) (key : KeyValue) (n : ℤ) → chosen q keys ≡ Ok (key, n) →
    IsSomeAnd (algorithm_numbered n) (λ alg. has_type key.material (key_type_of alg) ≡ true)

-- None of the keys before it or after it fits.
abbrev pub NoOtherFits : Type 0
NoOtherFits = (q : Question) (before after : List KeyValue) (key : KeyValue) (n : ℤ) → chosen q (before ++ key ∷ after) ≡ Ok (key, n) →
    AllByRecursion (λ other. fitting q other ≡ None) (before ++ after)
