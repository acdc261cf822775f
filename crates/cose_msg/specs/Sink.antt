-- What one call of a sink does.
use Rattle.std.specs.Prelude.{◌≡◌, ℕ, List, ◌++◌, Option, Result, Ok, Err}
use Rattle.std.specs.Io.KnownBytes.{Appends}

-- the bytes begin with this prefix
abbrev pub IsPrefix : List ℕ → List ℕ → Type 0
IsPrefix bytes prefix = (rest : List ℕ) × (bytes ≡ prefix ++ rest)

-- known contents grow by a prefix of the bytes
abbrev pub AppendsFront : Option (List ℕ) → Option (List ℕ) → List ℕ → Type 0
AppendsFront old new bytes = (front : List ℕ) × IsPrefix bytes front × Appends old new front

-- Ok appends the whole piece, a failure a prefix of it.
abbrev pub Puts : {E : Type 0} → Option (List ℕ) → Option (List ℕ) → Result (Unit {0}) E → List ℕ → Type 0
Puts old new (Ok u) piece = Appends old new piece
Puts old new (Err e) piece = AppendsFront old new piece
