-- What is read of the front of a file or of an input.
use Rattle.std.proofs.Common.{◌≡◌, ℕ, List, [], ◌++◌, take, Option, Some, option_map}
use Rattle.std.specs.Prelude.{IfSome}

pub first_read : (most : ℕ) (left : Option (List ℕ)) (limit : ℕ) (old new bytes : List ℕ) → left ≡ Some bytes → limit ≡ most → old ≡ [] →
    IfSome (option_map (take limit) left) (λ more. new ≡ old ++ more) → new ≡ take most bytes
first_read most left limit old new bytes l m o read = rw (l, m, o) at read
