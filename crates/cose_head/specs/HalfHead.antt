-- Heads that are read a byte at a time.
use Rattle.std.specs.Prelude.{◌≡◌, ℕ, ◌+◌, ◌-◌, ◌<◌, ◌≤◌, Bool, true, false, List, [], ◌++◌, length, Option, Some, None, Result, Ok, Err}
use Rattle.cose_head.specs.declared.head.Head.{Head}
use Rattle.cose_head.specs.declared.head.HeadStep.{HeadStep}
use Rattle.cose_head.specs.declared.head.HeadStep.TheVariants.{Got, More, Fault}
use Rattle.cose_head.specs.declared.reason.Reason.{Reason}
use Rattle.cose_head.specs.declared.reason.Reason.TheVariants.{Truncated}
use Rattle.cose_head.specs.Head.{bare_head}
use Rattle.cose_head.specs.Reading.{refuse, head}
use Rattle.cose_head.specs.Measured.{left_of}

-- Whether a head is incomplete: it has no byte yet, or some and not all.
abbrev pub is_more : HeadStep → Bool
is_more (Got h used) = false
is_more (More wanted) = true
is_more (Fault reason) = false

abbrev pub is_half : List ℕ → Bool
is_half bytes = is_more (bare_head bytes)

-- These bytes are the head of the item at this place, whatever follows them.
abbrev pub IsHeadAt : List ℕ → ℕ → ℕ → Head → Type 0
IsHeadAt first room place h = (bytes : List ℕ)
    → head (left_of (first ++ bytes) room place) ≡ Ok (h, left_of bytes (room - h.width) (place + h.width))

-- The result for the first bytes of an item, whatever follows them: its head, nothing yet, or a fault.
abbrev pub HeadSoFar : List ℕ → ℕ → Result (Option Head) Reason → Type 0
HeadSoFar first room (Ok (Some h)) = (length first ≡ h.width) × (h.width ≤ room) × ((place : ℕ) → IsHeadAt first room place h)
HeadSoFar first room (Ok None) = (is_half first ≡ true) × (length first < room)
    × ((place : ℕ) → head (left_of first room place) ≡ refuse Truncated (place + length first))
HeadSoFar first room (Err reason) = (reason ≡ Truncated → ⊥)
    × ((place : ℕ) (bytes : List ℕ) → head (left_of (first ++ bytes) room place) ≡ refuse reason place)

-- The bytes are kept until the head is complete.
abbrev pub kept_of : Result (Option Head) Reason → List ℕ → List ℕ
kept_of (Ok None) first = first
kept_of (Ok (Some h)) first = []
kept_of (Err reason) first = []
