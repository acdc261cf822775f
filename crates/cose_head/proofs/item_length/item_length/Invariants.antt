use Rattle.std.proofs.Common.{ℕ, ◌-◌, ◌≤◌, length, take}
use Rattle.cose_head.specs.Item.{Item, Spells}
use Rattle.cose_head.proofs.lemmas.Reading.ByHeads.{ToCome}
use Rattle.cose_head.proofs.item_length.item_length.Given as goal

abbrev pub invariant-heads : goal.invariant-heads
invariant-heads l = record {
  there : l.used ≤ length l.bytes;
  exact : (content : Item) (n : ℕ) → n ≤ length l.bytes → Spells (take n l.bytes) content → ToCome l.bytes l.used l.left n;
}

abbrev pub decreases-heads : goal.decreases-heads
decreases-heads l = length l.bytes - l.used
