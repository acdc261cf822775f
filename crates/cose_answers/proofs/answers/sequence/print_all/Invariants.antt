use Rattle.std.proofs.Common.{◌≡◌, ◌≢◌, ◌-◌, ◌^◌, ℕ, List, Some}
use Rattle.cose_answers.specs.declared.reply.Status.TheVariants as statuses
use Rattle.cose_answers.proofs.lemmas.Sequences.EachMessage.{SoFar}
use Rattle.cose_answers.proofs.answers.sequence.print_all.Given as goal

-- The messages up to this place were printed.
abbrev pub invariant-messages : goal.invariant-messages
invariant-messages g l =
    ((bytes : List ℕ) → g.I.Intake.to_come l.initial.intake ≡ Some bytes →
    SoFar (g.P.Parts.reads l.initial.parts) (g.P.Parts.alone l.initial.parts) bytes (g.I.Intake.to_come l.intake) (g.W.Write.contents l.initial.output) (g.W.Write.contents l.output) l.place l.status)
    × (l.status ≢ statuses.Fault)
    × (g.P.Parts.reads l.parts ≡ g.P.Parts.reads l.initial.parts)
    × (g.P.Parts.alone l.parts ≡ g.P.Parts.alone l.initial.parts)

-- Each message has a byte at least.
abbrev pub decreases-messages : goal.decreases-messages
decreases-messages g l = 2 ^ 64 - l.place
