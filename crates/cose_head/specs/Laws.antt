-- Laws of reading, in the terms of the grammar.
use Rattle.std.specs.Prelude.{◌≡◌, ℕ, ◌+◌, ◌-◌, ◌<◌, ◌≤◌, ◌^◌, ◌↔◌, List, [], ◌∷◌, ◌++◌, length, take, false, Ok, Err, ⊤}
use Rattle.std.specs.List.{Contains}
use Rattle.cose_head.specs.declared.head.Head.{Head}
use Rattle.cose_head.specs.declared.head.HeadStep.TheVariants.{Got, More, Fault}
use Rattle.cose_head.specs.declared.reason.Reason.{Reason}
use Rattle.cose_head.specs.declared.reason.Reason.TheVariants.{Truncated}
use Rattle.cose_head.specs.declared.refusal.Refusal.{Refusal}
use Rattle.cose_head.specs.Head.{bare_head, shortest_head, is_bad_simple, IsWhole, IsMore}
use Rattle.cose_head.specs.Item.{Item, IsHead, Spells, depth_of}
use Rattle.cose_head.specs.Reading.{Left, Outcome, after, read}
use Rattle.cose_head.specs.Reason.{head_reasons, item_reasons}

-- What is left after at least `least` bytes, which were among the bytes and in the room.
pub record IsStep (least : ℕ) (l rest : Left) : Type 0 where
  pub used : ℕ
  pub some : least ≤ used
  pub there : used ≤ length l.bytes
  pub fits : used ≤ l.room
  pub left : rest ≡ after used l

-- A refusal's place is within the bytes. That of Truncated is their end, and only where there is room for a further
-- byte.
pub record IsRefusal (l : Left) (refusal : Refusal) : Type 0 where
  pub from : l.place ≤ refusal.place
  pub upto : refusal.place ≤ l.place + length l.bytes
  pub ended : refusal.reason ≡ Truncated → (refusal.place ≡ l.place + length l.bytes) × (length l.bytes < l.room)

abbrev pub Steps : {A : Type 0} → ℕ → Left → Outcome A → Type 0
Steps least l (Ok found) = IsStep least l found.1
Steps least l (Err refusal) = IsRefusal l refusal

-- The same, with bytes appended.
abbrev pub more : List ℕ → Left → Left
more bytes l = record { bytes = l.bytes ++ bytes; room = l.room; place = l.place }

abbrev pub more_after : {A : Type 0} → List ℕ → Outcome A → Outcome A
more_after bytes (Ok found) = Ok (found.0, more bytes found.1)
more_after bytes (Err refusal) = Err refusal

-- No further byte can change it.
abbrev pub IsSettled : {A : Type 0} → Outcome A → Type 0
IsSettled (Ok found) = ⊤
IsSettled (Err refusal) = refusal.reason ≡ Truncated → ⊥

-- The bytes between two places, in the room.
pub record Between (l rest : Left) (IsPart : List ℕ → Type 0) : Type 0 where
  pub part : List ℕ
  pub whole : l.bytes ≡ part ++ rest.bytes
  pub room : l.room ≡ length part + rest.room
  pub place : rest.place ≡ l.place + length part
  pub is_part : IsPart part

-- The bytes before the rest spell the item, within the room and the nesting allowance.
abbrev pub IsSpelled : ℕ → Left → Item → Left → Type 0
IsSpelled depth l content rest = Between l rest (λ part. Spells part content) × (depth_of content ≤ depth)

-- The bytes begin with a head of `used` bytes. A simple value in two bytes is 32 or more.
pub record SpellsHead (bytes : List ℕ) (h : Head) (used : ℕ) : Type 0 where
  pub part : List ℕ
  pub rest : List ℕ
  pub whole : bytes ≡ part ++ rest
  pub is_head : IsHead part h.major h.arg
  pub wide : length part ≡ h.width
  pub ends : used ≡ h.width
  pub good : is_bad_simple h ≡ false

-- What is read is what is spelled.
abbrev pub ReadIsSpelled : Type 0
ReadIsSpelled = (depth : ℕ) (l : Left) (content : Item) (rest : Left) → (read depth l ≡ Ok (content, rest)) ↔ IsSpelled depth l content rest

-- So one list begins with at most one item.
abbrev pub OneItem : Type 0
OneItem = (first second rest others : List ℕ) (content other : Item) → Spells first content → Spells second other → first ++ rest ≡ second ++ others →
    (first ≡ second) × (content ≡ other)

-- The bytes before the rest, as many as the difference of the places.
abbrev pub bytes_before : Left → Left → List ℕ
bytes_before rest l = take (rest.place - l.place) l.bytes

-- And these bytes are the same item with other bytes after them, in another room, at another place and with more
-- nesting allowed.
abbrev pub ReadElsewhere : Type 0
ReadElsewhere = (depth deeper : ℕ) (l rest m last : Left) (content : Item) → depth ≤ deeper → read depth l ≡ Ok (content, rest) →
    Between m last (λ part. part ≡ bytes_before rest l) → read deeper m ≡ Ok (content, last)

-- An answer other than Truncated is the same when bytes follow.
abbrev pub ReadStays : Type 0
ReadStays = (depth : ℕ) (l : Left) (bytes : List ℕ) → IsSettled (read depth l) → read depth (more bytes l) ≡ more_after bytes (read depth l)

-- So after any other refusal no further bytes make an item of them.
abbrev pub RefusedIsNoItem : Type 0
RefusedIsNoItem = (depth : ℕ) (l : Left) (refusal : Refusal) → read depth l ≡ Err refusal → (refusal.reason ≡ Truncated → ⊥) →
    (bytes : List ℕ) (content : Item) (rest : Left) → IsSpelled depth (more bytes l) content rest → ⊥

-- What is left after reading, and the places of its refusals.
abbrev pub ReadSteps : Type 0
ReadSteps = (depth : ℕ) (l : Left) → Steps 1 l (read depth l)

-- For an item that is read, the places, the bytes and the rooms add up.
abbrev pub ReadAddsUp : Type 0
ReadAddsUp = (depth : ℕ) (l : Left) (content : Item) (rest : Left) → read depth l ≡ Ok (content, rest) →
    (rest.place + length rest.bytes ≡ l.place + length l.bytes) × (rest.place + rest.room ≡ l.place + l.room) × (l.place < rest.place)

-- An item that is cut short has room for a further byte.
abbrev pub TruncatedHasRoom : Type 0
TruncatedHasRoom = (depth : ℕ) (l : Left) (refusal : Refusal) → read depth l ≡ Err refusal → refusal.reason ≡ Truncated →
    (refusal.place ≡ l.place + length l.bytes) × (length l.bytes < l.room)

-- An item is refused for one of these reasons.
abbrev pub ReadReasons : Type 0
ReadReasons = (depth : ℕ) (l : Left) (refusal : Refusal) → read depth l ≡ Err refusal → Contains item_reasons refusal.reason

-- The same bytes at a place that is greater by n: what is read is the same, and each place is greater by n.
abbrev pub moved : ℕ → Left → Left
moved n l = record { bytes = l.bytes; room = l.room; place = n + l.place }

abbrev pub moved_outcome : {A : Type 0} → ℕ → Outcome A → Outcome A
moved_outcome n (Ok found) = Ok (found.0, moved n found.1)
moved_outcome n (Err refusal) = Err (record { reason = refusal.reason; place = n + refusal.place })

abbrev pub ReadMoves : Type 0
ReadMoves = (n depth : ℕ) (l : Left) → read depth (moved n l) ≡ moved_outcome n (read depth l)

-- A head outside an item is read exactly where bytes spell it, and an answer other than More is the same when bytes
-- follow.
abbrev pub HeadIsSpelled : Type 0
HeadIsSpelled = (bytes : List ℕ) (h : Head) (used : ℕ) → (bare_head bytes ≡ Got h used) ↔ SpellsHead bytes h used

abbrev pub HeadStays : Type 0
HeadStays = (bytes next : List ℕ) → IsWhole (bare_head bytes) → bare_head (bytes ++ next) ≡ bare_head bytes

-- With fewer bytes than More says, the head is incomplete.
abbrev pub HeadWants : Type 0
HeadWants = (bytes next : List ℕ) (wanted : ℕ) → bare_head bytes ≡ More wanted → length next < wanted → IsMore (bare_head (bytes ++ next))

-- The byte that completes a half head is its last.
abbrev pub HeadEnds : Type 0
HeadEnds = (bytes : List ℕ) (byte : ℕ) (h : Head) (used : ℕ) → IsMore (bare_head bytes) → bare_head (bytes ++ byte ∷ []) ≡ Got h used →
    used ≡ length bytes + 1

-- A half head has fewer bytes than the longest head. A head has one byte to nine, and they are among the bytes.
abbrev pub HalfIsShort : Type 0
HalfIsShort = (bytes : List ℕ) → IsMore (bare_head bytes) → length bytes < 9

abbrev pub HeadFits : Type 0
HeadFits = (bytes : List ℕ) (h : Head) (used : ℕ) → bare_head bytes ≡ Got h used → (0 < used) × (used ≤ 9) × (used ≤ length bytes)

-- A head outside an item is refused for one of these reasons.
abbrev pub HeadReasons : Type 0
HeadReasons = (bytes : List ℕ) (reason : Reason) → bare_head bytes ≡ Fault reason → Contains head_reasons reason

-- The shortest head of an argument is a head of it, whatever follows.
abbrev pub ShortestIsHead : Type 0
ShortestIsHead = (major argument : ℕ) (rest : List ℕ) → major ≤ 6 → argument < 2 ^ 64 →
    let width = length (shortest_head major argument) in
    bare_head (shortest_head major argument ++ rest) ≡ Got (record { major = major; arg = argument; width = width }) width
