-- What one call of an intake does, and several in a row.
use Rattle.std.specs.Prelude.{◌≡◌, ℕ, zero, suc, Bool, true, false, List, ◌++◌, take, Option, None, Some, Result, Ok, Err, ⊤}
use Rattle.std.specs.Io.KnownBytes.{Consumes, IsAtEnd}

-- whether something has failed, after one more result
abbrev pub marks : {T E : Type 0} → Bool → Result T E → Bool
marks was (Ok x) = was
marks was (Err e) = true

-- whether an answer was the end
abbrev pub is_end : {E : Type 0} → Result ℕ E → Bool
is_end (Ok zero) = true
is_end (Ok (suc n)) = false
is_end (Err e) = false

-- A failure takes nothing. After it the bytes to come may be unknown to the contract.
abbrev pub KeepsOrForgets : Option (List ℕ) → Option (List ℕ) → Type 0
KeepsOrForgets None new = ⊤
KeepsOrForgets (Some bytes) None = ⊤
KeepsOrForgets (Some bytes) (Some rest) = rest ≡ bytes

-- Ok(n) gives the next n bytes; Ok(0) comes only at the end.
abbrev pub Takes : {E : Type 0} → Option (List ℕ) → Option (List ℕ) → Result ℕ E → List ℕ → Type 0
Takes old new (Ok n) into = Consumes old new (take n into) × (n ≡ 0 → IsAtEnd new)
Takes old new (Err e) into = KeepsOrForgets old new

-- The bytes taken, in their order; after a failure at the end the bytes to come may be unknown to the contract.
abbrev pub TakesInAll : Option (List ℕ) → Option (List ℕ) → List ℕ → Type 0
TakesInAll None new taken = ⊤
TakesInAll (Some bytes) None taken = (rest : List ℕ) × (bytes ≡ taken ++ rest)
TakesInAll (Some bytes) (Some rest) taken = bytes ≡ taken ++ rest
