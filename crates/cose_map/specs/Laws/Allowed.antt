-- Of the keys that restrictions leave, the one that is chosen is allowed: so are its algorithm and the length of its secret.
use Rattle.std.specs.Prelude.{◌≡◌, ◌≤◌, ℕ, ℤ, true, List, length, Some, Ok}
use Rattle.std.specs.List.{list_any}
use Rattle.std.specs.Ordering.{int_eq}
use Rattle.cose_map.specs.Choice.{Question, chosen}
use Rattle.cose_map.specs.Key.Value.{KeyValue, symmetric}
use Rattle.cose_map.specs.Restrictions.{RestrictionsValue, allowed_of, allows}

abbrev pub ChosenIsAllowed : Type 0
ChosenIsAllowed = (r : RestrictionsValue) (q : Question) (keys : List KeyValue) (key : KeyValue) (n : ℤ) → chosen q (allowed_of r keys) ≡ Ok (key, n) →
    allows r key ≡ true

-- The number that it is used with is among those that are allowed.
abbrev pub AlgorithmIsAllowed : Type 0
AlgorithmIsAllowed = (r : RestrictionsValue) (allowed : List ℤ) (q : Question) (keys : List KeyValue) (key : KeyValue) (n : ℤ) → r.algorithms ≡ Some allowed →
    chosen q (allowed_of r keys) ≡ Ok (key, n) → list_any (int_eq n) allowed ≡ true

abbrev pub SecretIsLongEnough : Type 0
SecretIsLongEnough = (r : RestrictionsValue) (q : Question) (keys : List KeyValue) (key : KeyValue) (n : ℤ) (secret : List ℕ) → key.material ≡ symmetric secret →
    chosen q (allowed_of r keys) ≡ Ok (key, n) → r.least_secret ≤ length secret
