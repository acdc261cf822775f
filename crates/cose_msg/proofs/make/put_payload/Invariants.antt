use Rattle.std.proofs.Common.{◌≡◌}
use Rattle.cose_msg.specs.Writes.{seen}
use Rattle.cose_msg.proofs.lemmas.Made.Streaming.{Along}
use Rattle.cose_msg.proofs.make.put_payload.Given as goal

abbrev pub invariant-pieces : goal.invariant-pieces
invariant-pieces g l =
    Along l.length l.left (g.I.Intake.to_come l.initial.intake) (g.I.Intake.to_come l.intake)
    (seen g.S.Sink.contents g.S.Sink.has_failed g.S.Sink.sure l.initial.sink)
    (seen g.S.Sink.contents g.S.Sink.has_failed g.S.Sink.sure l.sink) l.initial.running l.running
    × (g.I.Intake.has_failed l.intake ≡ g.I.Intake.has_failed l.initial.intake)

abbrev pub decreases-pieces : goal.decreases-pieces
decreases-pieces g l = l.left
