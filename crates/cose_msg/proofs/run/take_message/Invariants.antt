use Rattle.std.proofs.Common.{◌≡◌, ◌-◌, ◌^◌, ℕ, List, length, false}
use Rattle.cose_msg.specs.Kept.{HasTaken}
use Rattle.cose_msg.specs.Task.{Task}
use Rattle.cose_msg.specs.Verifier.{is_detached}
use Rattle.cose_msg.proofs.lemmas.Run.Runs.{Along}
use Rattle.cose_msg.proofs.run.take_message.Given as goal

abbrev pub invariant-pieces : goal.invariant-pieces
invariant-pieces g l =
    ((task : Task) (s B : List ℕ) → HasTaken task s B l.initial.verifier →
    Along task s B (g.I.Intake.to_come l.initial.intake) (g.I.Intake.to_come l.intake) (g.I.Intake.ended l.intake)
    (g.S.Sink.contents l.initial.sink) (g.S.Sink.contents l.sink) (g.S.Sink.sure l.initial.sink) (g.S.Sink.sure l.sink) l.verifier)
    × (l.verifier.stopped ≡ false)
    × (l.verifier.inspecting ≡ l.initial.verifier.inspecting)
    × (g.I.Intake.has_failed l.intake ≡ g.I.Intake.has_failed l.initial.intake)
    × (g.S.Sink.has_failed l.sink ≡ g.S.Sink.has_failed l.initial.sink)
    × (is_detached l.verifier ≡ is_detached l.initial.verifier)
    × (length l.chunk ≡ length l.initial.chunk)

-- No message has so many bytes.
abbrev pub decreases-pieces : goal.decreases-pieces
decreases-pieces g l = 2 ^ 58 - l.verifier.taken
