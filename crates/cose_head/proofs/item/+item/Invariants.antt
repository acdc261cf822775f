use Rattle.std.proofs.Common.{◌≡◌, ◌+◌, ◌*◌, ◌-◌, ◌≤◌, length}
use Rattle.cose_head.specs.Reading.{read, read_all}
use Rattle.cose_head.specs.Measured.{left_of, nesting_all}
use Rattle.cose_head.proofs.lemmas.Reading.Measured.{onward}
use Rattle.cose_head.proofs.item.+item.Given as goal

-- an item is read with the allowance, and its children with one less
abbrev pub decreases-any_item_at : goal.decreases-any_item_at
decreases-any_item_at l = 3 * l.depth

abbrev pub decreases-item_at : goal.decreases-item_at
decreases-item_at l = 3 * l.depth + 1

abbrev pub decreases-items_at : goal.decreases-items_at
decreases-items_at l = 3 * l.depth + 2

abbrev pub invariant-items_at-items : goal.invariant-items_at-items
invariant-items_at-items l = record {
  there : l.length ≤ length l.bytes;
  fits : l.length ≤ l.room;
  shallow : l.deepest ≤ l.depth;
  same : onward (read l.depth) l.deepest (l.count - l._index) l.length (left_of l.bytes l.room l.place)
      ≡ nesting_all (read_all (read l.depth) l.count (left_of l.bytes l.room l.place));
}
