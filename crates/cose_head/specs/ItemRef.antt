-- An item of the code, without where it is in memory.
use Rattle.std.specs.Prelude.{ℕ, Result, Ok, Err}
use Rattle.cose_head.specs.declared.item_ref.ItemRef.{ItemRef}
use Rattle.cose_head.specs.declared.refusal.Refusal.{Refusal}
use Rattle.cose_head.specs.Placed.{Placed}

abbrev pub placed : ItemRef → Placed
placed item = record { bytes = item.bytes.now; place = item.place }

-- The item that was read, or the refusal.
abbrev pub placed_read : Result ItemRef Refusal → Result Placed Refusal
placed_read (Ok item) = Ok (placed item)
placed_read (Err refusal) = Err refusal

-- The number of a tag and the item that it encloses.
abbrev pub placed_in_tag : ℕ × ItemRef → ℕ × Placed
placed_in_tag found = (found.0, placed found.1)
