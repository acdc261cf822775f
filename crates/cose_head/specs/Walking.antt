-- The rest of the reading of an item of which some bytes were read.
use Rattle.std.specs.Prelude.{◌≡◌, ℕ, zero, suc, ◌+◌, ◌-◌, true, false, List, [], ◌∷◌, ◌++◌, length, Result, Ok, Err, nat_lt, if◌then◌else◌}
use Rattle.cose_head.specs.declared.head.Head.{Head}
use Rattle.cose_head.specs.declared.reason.Reason.{Reason}
use Rattle.cose_head.specs.declared.reason.Reason.TheVariants.{Truncated}
use Rattle.cose_head.specs.declared.refusal.Refusal.{Refusal}
use Rattle.cose_head.specs.declared.walker.Follows.{Follows}
use Rattle.cose_head.specs.declared.walker.Follows.TheVariants.{Nothing, Content, Children}
use Rattle.cose_head.specs.Measured.{left_of}
use Rattle.cose_head.specs.Open.{Open, nothing_open, in_parent, open_all, open_in}
use Rattle.cose_head.specs.Reading.{Left, Outcome, after, is_string, is_parent, child_count, read, read_all}

abbrev pub refused : Reason → ℕ → Result Left Refusal
refused reason place = Err (record { reason = reason; place = place })

-- Reading without the value: where the item ends, or why it is refused, and what is open where the bytes end.
pub record Walk : Type 0 where
  pub end : Result Left Refusal
  pub opened : Open

abbrev pub walk_end : {A : Type 0} → Outcome A → Result Left Refusal
walk_end (Ok found) = Ok found.1
walk_end (Err refusal) = Err refusal

abbrev pub ends : Left → Walk
ends l = record { end = Ok l; opened = nothing_open }

unfoldable pub walk : ℕ → Left → Walk
walk depth l = record { end = walk_end (read depth l); opened = open_in depth l }

unfoldable pub walk_all : ℕ → ℕ → Left → Walk
walk_all depth n l = record { end = walk_end (read_all (read depth) n l); opened = open_all (read depth) (open_in depth) n l }

-- A string of which n bytes were not read yet.
abbrev pub walk_content : ℕ → Left → Walk
walk_content n l = record {
  end = if nat_lt (length l.bytes) n then refused Truncated (l.place + length l.bytes) else Ok (after n l);
  opened = record { items = 0; content = n - length l.bytes };
}

-- The rest of an open item: of the child that is being read, and then of the children after it.
abbrev pub past_child : Result Left Refusal → Open → (Left → Walk) → Walk
past_child (Ok l) opened next = next l
past_child (Err refusal) opened next = record { end = Err refusal; opened = in_parent opened }

abbrev pub within : Walk → (Left → Walk) → Walk
within child next = past_child child.end child.opened next

-- The rest of the open items after the child that is being read in the innermost. The counts are the numbers of
-- children that haven't begun, the outermost item first.
unfoldable pub finish : ℕ → List ℕ → Walk → Walk
finish depth [] child = child
finish depth (n ∷ counts) child = within (finish (depth - 1) counts child) (walk_all (depth - 1) n)

-- The rest of the item that is being read: of its string, or of its head, of which some bytes were read.
abbrev pub rest_of_item : ℕ → List ℕ → ℕ → Left → Walk
rest_of_item depth half zero l = walk depth (left_of (half ++ l.bytes) l.room l.place)
rest_of_item depth half (suc n) l = walk_content (suc n) l

-- What follows a head.
abbrev pub FollowsHead : Head → Follows → Type 0
FollowsHead h Nothing = (is_string h ≡ false) × (is_parent h ≡ false)
FollowsHead h (Content n) = (is_string h ≡ true) × (h.arg ≡ n)
FollowsHead h (Children n) = (is_string h ≡ false) × (is_parent h ≡ true) × (child_count h ≡ n)
