-- What the reader of spans gives of the items that `read` gives: their nesting, and where they end.
use Rattle.std.specs.Prelude.{◌≡◌, ℕ, List, take, Result, Ok, Err, nat_lt, ◌==◌, if◌then◌else◌}
use Rattle.cose_head.specs.declared.head.Head.{Head}
use Rattle.cose_head.specs.declared.item.Span.{Span}
use Rattle.cose_head.specs.declared.reason.Reason.TheVariants.{TooDeep, PastRoom}
use Rattle.cose_head.specs.declared.refusal.Refusal.{Refusal}
use Rattle.cose_head.specs.Item.{Item, Items, Spells, depth_of, deepest}
use Rattle.cose_head.specs.Reading.{Left, Outcome, after, child_count}

abbrev pub left_of : List ℕ → ℕ → ℕ → Left
left_of bytes room place = record { bytes = bytes; room = room; place = place }

-- A head that was found, as `head` gives it.
abbrev pub head_found : Left → Result Head Refusal → Outcome Head
head_found l (Ok h) = Ok (h, after h.width l)
head_found l (Err refusal) = Err refusal

-- A span that was found: its nesting, and what is left after it.
abbrev pub span_found : Left → Result Span Refusal → Outcome ℕ
span_found l (Ok span) = Ok (span.depth, after span.length l)
span_found l (Err refusal) = Err refusal

-- An outcome with the nesting in place of the item, or of the items.
abbrev pub nesting : Outcome Item → Outcome ℕ
nesting (Ok found) = Ok (depth_of found.0, found.1)
nesting (Err refusal) = Err refusal

abbrev pub nesting_all : Outcome Items → Outcome ℕ
nesting_all (Ok found) = Ok (deepest found.0, found.1)
nesting_all (Err refusal) = Err refusal

-- The number of children, where the nesting and the room allow that many.
abbrev pub children_allowed : Head → ℕ → ℕ → ℕ → Result ℕ Refusal
children_allowed h room depth place =
    if depth == 0 then Err (record { reason = TooDeep; place = place }) else
    if nat_lt room (child_count h) then Err (record { reason = PastRoom; place = place }) else
    Ok (child_count h)

-- The bytes begin with an item of this length and nesting.
pub record SpansItem (bytes : List ℕ) (span : Span) : Type 0 where
  pub content : Item
  pub spelled : Spells (take span.length bytes) content
  pub nested : depth_of content ≡ span.depth
