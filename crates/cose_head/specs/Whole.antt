-- Bytes that are exactly one item (RFC 8949 section 3), with none after it.
use Rattle.std.specs.Prelude.{ℕ, Bool, List, length, Result, Ok, Err, ◌==◌, if◌then◌else◌}
use Rattle.std.specs.Result.{is_ok}
use Rattle.cose_head.specs.declared.reason.Reason.TheVariants.{Trailing}
use Rattle.cose_head.specs.declared.refusal.Refusal.{Refusal}
use Rattle.cose_head.specs.Item.{Item}
use Rattle.cose_head.specs.Reading.{Outcome, read}
use Rattle.cose_head.specs.Measured.{left_of}
use Rattle.cose_head.specs.Placed.{Placed}

-- A byte after the item is refused at its place.
abbrev pub nothing_after : Placed → Outcome Item → Result Placed Refusal
nothing_after p (Ok found) =
    if length found.1.bytes == 0 then Ok p else Err (record { reason = Trailing; place = found.1.place })
nothing_after p (Err refusal) = Err refusal

-- The item that the bytes are, of a nesting of at most depth, or the first fault. The room is the number of the bytes.
abbrev pub whole : ℕ → Placed → Result Placed Refusal
whole depth p = nothing_after p (read depth (left_of p.bytes (length p.bytes) p.place))

-- Whether the bytes are exactly one item, of a nesting of at most 32.
unfoldable pub is_one_item : List ℕ → Bool
is_one_item bytes = is_ok (whole 32 (record { bytes = bytes; place = 0 }))
