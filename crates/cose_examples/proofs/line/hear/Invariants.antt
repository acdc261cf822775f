use Rattle.std.proofs.Common.{[]}
use Rattle.cose_msg.specs.Kept.{HasTaken}
use Rattle.cose_msg.specs.Task.{Task}
use Rattle.cose_examples.specs.Line.{Hears}
use Rattle.cose_examples.proofs.line.hear.Given as goal

abbrev pub invariant-interrupts : goal.invariant-interrupts
invariant-interrupts g l =
    (task : Task) → HasTaken task [] [] l.initial.verifier → Hears task (g.S.Sink.contents l.initial.handler) (g.S.Sink.contents l.handler) l.verifier
