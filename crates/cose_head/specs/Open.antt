-- What is open of an item where its bytes end (RFC 8949 section 3).
use Rattle.std.specs.Prelude.{ℕ, zero, suc, ◌+◌, ◌-◌, length, Ok, Err, if◌then◌else◌}
use Rattle.cose_head.specs.declared.head.Head.{Head}
use Rattle.cose_head.specs.Item.{Item}
use Rattle.cose_head.specs.Reading.{Left, Outcome, Reader, head, is_string, is_parent, child_count, read}

-- The number of arrays, maps and tags whose head was read and whose end wasn't, and the number of bytes missing of a
-- string whose head was read.
pub record Open : Type 0 where
  pub items : ℕ
  pub content : ℕ

abbrev pub nothing_open : Open
nothing_open = record { items = 0; content = 0 }

abbrev pub in_parent : Open → Open
in_parent o = record { items = 1 + o.items; content = o.content }

-- The complete children of an open item aren't open. The first one that isn't complete says what is open in it.
abbrev pub open_child : Outcome Item → Open → (Left → Open) → Open
open_child (Ok found) inside next = next found.1
open_child (Err refusal) inside next = in_parent inside

abbrev pub open_all : Reader Item → (Left → Open) → ℕ → Left → Open
open_all one inside zero l = nothing_open
open_all one inside (suc n) l = open_child (one l) (inside l) (open_all one inside n)

abbrev pub past_head : (ℕ → Left → Open) → Outcome Head → Open
past_head children (Err refusal) = nothing_open
past_head children (Ok h) =
    if is_string h.0 then record { items = 0; content = h.0.arg - length h.1.bytes } else
    if is_parent h.0 then children (child_count h.0) h.1 else nothing_open

-- What is open where reading says that the bytes end too early.
unfoldable pub open_in : ℕ → Left → Open
open_in zero l = past_head (λ n rest. nothing_open) (head l)
open_in (suc depth) l = past_head (open_all (read depth) (open_in depth)) (head l)
