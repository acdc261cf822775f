use Rattle.std.proofs.Common.{◌≡◌, ◌≤◌, length}
use Rattle.cose_head.specs.Reading.{Left}
use Rattle.cose_head.specs.Walking.{ends, finish}
use Rattle.cose_head.proofs.walker.next_child.Given as goal

abbrev pub invariant-ended : goal.invariant-ended
invariant-ended g l =
    (length l.counts.items ≤ g.row.D)
    × ((rest : Left) → finish g.row.D l.fn.counts.items (ends rest) ≡ finish g.row.D l.counts.items (ends rest))

abbrev pub decreases-ended : goal.decreases-ended
decreases-ended g l = length l.counts.items
