use Rattle.std.proofs.Common.{◌≡◌, ◌+◌, ◌-◌, ◌≤◌, ℕ, List, length, false}
use Rattle.cose_msg.specs.Kept.{HasTaken}
use Rattle.cose_msg.specs.Task.{Task}
use Rattle.cose_msg.specs.Verifier.{is_detached}
use Rattle.cose_msg.proofs.lemmas.Feeding.Feeds.{Along}
use Rattle.cose_msg.proofs.verifier.Verifier.feed_across.Given as goal

abbrev pub invariant-pieces : goal.invariant-pieces
invariant-pieces g l =
    ((task : Task) (s B : List ℕ) → HasTaken task s B l.initial.self → Along task s B l.piece l.used l.payload.from l.payload.to l.self)
    × (l.self.stopped ≡ false)
    × (l.self.inspecting ≡ l.initial.self.inspecting)
    × (l.self.taken ≡ l.initial.self.taken + l.used)
    × (l.used ≤ length l.piece)
    × (l.payload.from ≤ l.payload.to)
    × (l.payload.to ≤ l.used)
    × (l.payload.from ≡ l.payload.to → l.payload.to ≡ 0)
    × (is_detached l.self ≡ is_detached l.initial.self)

abbrev pub decreases-pieces : goal.decreases-pieces
decreases-pieces g l = length l.piece - l.used
