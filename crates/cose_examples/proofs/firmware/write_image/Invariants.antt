use Rattle.std.proofs.Common.{ℕ, List}
use Rattle.cose_msg.specs.Kept.{HasTaken}
use Rattle.cose_msg.specs.Status.{payload_wanted_in}
use Rattle.cose_msg.specs.Task.{Task}
use Rattle.cose_examples.specs.Firmware.{TakesImage}
use Rattle.cose_examples.proofs.firmware.write_image.Given as goal

abbrev pub invariant-pages : goal.invariant-pages
invariant-pages g l =
    (task : Task) (taken before : List ℕ) → HasTaken task taken before l.initial.verifier →
    TakesImage task taken before (g.I.Intake.to_come l.initial.image) (g.I.Intake.to_come l.image) (g.S.Sink.contents l.initial.slot) (g.S.Sink.contents l.slot) l.verifier

abbrev pub decreases-pages : goal.decreases-pages
decreases-pages g l = payload_wanted_in l.verifier
