use Rattle.std.proofs.Common.{◌≡◌, ℕ, List, length, true, false}
use Rattle.cose_msg.specs.Kept.{HasTaken}
use Rattle.cose_msg.specs.Status.{is_open, payload_wanted_in, status_in}
use Rattle.cose_msg.specs.Task.{Task}
use Rattle.cose_msg.specs.Verifier.{is_detached}
use Rattle.cose_msg.proofs.lemmas.Detached.PayloadRuns.{Bringing}
use Rattle.cose_msg.proofs.run.detached.take_payload.Given as goal

abbrev pub invariant-pieces : goal.invariant-pieces
invariant-pieces g l =
    ((task : Task) (s B : List ℕ) → HasTaken task s B l.initial.verifier →
    Bringing task s B (g.P.Intake.to_come l.initial.payload) (g.P.Intake.to_come l.payload) (g.P.Intake.ended l.payload)
    (g.S.Sink.contents l.initial.sink) (g.S.Sink.contents l.sink) (g.S.Sink.sure l.initial.sink) (g.S.Sink.sure l.sink) l.verifier)
    × (l.verifier.stopped ≡ false)
    × (is_open (status_in l.verifier) ≡ true)
    × (l.verifier.inspecting ≡ l.initial.verifier.inspecting)
    × (is_detached l.verifier ≡ is_detached l.initial.verifier)
    × (g.P.Intake.has_failed l.payload ≡ g.P.Intake.has_failed l.initial.payload)
    × (g.S.Sink.has_failed l.sink ≡ g.S.Sink.has_failed l.initial.sink)
    × (length l.chunk ≡ length l.initial.chunk)

abbrev pub decreases-pieces : goal.decreases-pieces
decreases-pieces g l = payload_wanted_in l.verifier
