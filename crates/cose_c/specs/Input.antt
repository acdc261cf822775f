-- What a caller gets of a signature.
use Rattle.std.specs.Prelude.{◌≡◌, ℕ, Bool, true, false, List, length, min, take, Option, Some, None, if◌then◌else◌}
use Rattle.cose_map.specs.Key.Value.{MaterialValue, YValue, symmetric, elliptic, coordinate, sign}
use Rattle.cose_msg.specs.Shown.{SignInput}
use Rattle.cose_c.specs.declared.input.CoseSignInput.{CoseSignInput}

-- A field with so much room begins with these bytes, and has their number beside it. (No coordinate has more than 66 bytes.)
pub record Gives (bytes field : List ℕ) (room count : ℕ) : Type 0 where
  pub counted : count ≡ min (length bytes) room
  pub copied : take count field ≡ take count bytes

-- A field begins with all of these bytes, and has their number beside it.
pub record GivesWhole (bytes field : List ℕ) (count : ℕ) : Type 0 where
  pub counted : count ≡ length bytes
  pub copied : take count field ≡ bytes

-- The coordinate y has its bytes, or its sign alone: 1 where it is even, 2 where it is odd.
abbrev pub GivesY : YValue → CoseSignInput → Type 0
GivesY (coordinate y) input = (input.y_sign ≡ 0) × Gives y input.y 66 input.y_length
GivesY (sign odd) input = (input.y_sign ≡ (if odd then 2 else 1)) × (input.y_length ≡ 0)

-- The point of a key. (A key that signatures are verified with has one.)
abbrev pub GivesPoint : MaterialValue → CoseSignInput → Type 0
GivesPoint (elliptic crv x y) input = (input.crv ≡ crv) × Gives x input.x 66 input.x_length × GivesY y input
GivesPoint (symmetric secret) input = ⊥

abbrev pub is_point : MaterialValue → Bool
is_point (elliptic crv x y) = true
is_point (symmetric secret) = false

pub record GivesInput (signed : SignInput) (input : CoseSignInput) : Type 0 where
  pub point : GivesPoint signed.key.material input
  pub digest : GivesWhole signed.digest input.digest input.digest_length
  pub signature : GivesWhole signed.signature input.signature input.signature_length
  pub place : input.place ≡ signed.place

-- The same of a message, if it has a signature. Where it has none, nothing is given.
abbrev pub has_point : Option SignInput → Bool
has_point (Some signed) = is_point signed.key.material
has_point None = false

abbrev pub GivesAll : Option SignInput → CoseSignInput → Type 0
GivesAll (Some signed) input = GivesInput signed input
GivesAll None input = ⊥
