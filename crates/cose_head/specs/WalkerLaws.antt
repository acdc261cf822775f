-- Laws of a walker, by the bytes that it was put.
use Rattle.std.specs.Prelude.{◌≡◌, ℕ, ◌<◌, List, length, Ok}
use Rattle.cose_head.specs.declared.walker.Walker.{Walker}
use Rattle.cose_head.specs.declared.walker.Step.TheVariants.{Going, Done}
use Rattle.cose_head.specs.Measured.{left_of}
use Rattle.cose_head.specs.Open.{open_in}
use Rattle.cose_head.specs.Placed.{Placed}
use Rattle.cose_head.specs.Reading.{read}
use Rattle.cose_head.specs.Walker.{HasPut, Answers, open_now}
use Rattle.cose_head.specs.Whole.{whole}

-- Where the room isn't 0, a walker that is Going has room for a further byte, and reading its bytes answers that they
-- end too early.
abbrev pub PutHasRoom : Type 0
PutHasRoom = (D : ℕ) (room : ℕ) (bytes : List ℕ) (w : Walker D) → HasPut room bytes w → 0 < room → length bytes < room

abbrev pub PutIsTruncated : Type 0
PutIsTruncated = (D : ℕ) (room : ℕ) (bytes : List ℕ) (w : Walker D) → HasPut room bytes w → 0 < room →
    Answers room bytes Going (read D (left_of bytes room 0))

-- The items that it counts as open are those open after these bytes.
abbrev pub PutIsOpen : Type 0
PutIsOpen = (D : ℕ) (room : ℕ) (bytes : List ℕ) (w : Walker D) → HasPut room bytes w → open_now w ≡ (open_in D (left_of bytes room 0)).items

-- Where a walker is Done, the bytes that it was put are exactly one item, at any place.
abbrev pub DoneIsWhole : Type 0
DoneIsWhole = (depth room : ℕ) (p : Placed) → Answers room p.bytes Done (read depth (left_of p.bytes room 0)) → whole depth p ≡ Ok p
