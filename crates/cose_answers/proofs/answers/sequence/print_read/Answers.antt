use Rattle.std.proofs.Common.{inr, ◌∙◌}
use Rattle.cose_answers.specs.declared.fault.Fault.TheVariants as faults
use Rattle.cose_answers.specs.Sequence.{sequence_said}
use Rattle.cose_answers.proofs.lemmas.Requests.AskedSequences.{line_alone}
use Rattle.cose_answers.proofs.lemmas.Sequences.VerifiedSequences.{through_buffer}
use Rattle.cose_answers.proofs.answers.sequence.print_read.Goals as goal

pub returns-in-Err-clause-fails : goal.returns-in-Err-clause-fails
returns-in-Err-clause-fails g c = λ bytes e two.
    let parts = c.args.parts.now in
    line_alone (sequence_said (g.P.Parts.reads parts) (g.P.Parts.alone parts)) bytes _ _ faults.Memory c.print_fault.ensures.line

pub returns-clause-prints : goal.returns-clause-prints
returns-clause-prints g c = λ bytes e.
    let known = through_buffer (λ r. g.R.Read.remaining r.now) c.in-Ok.reader _ bytes c.in-Ok.ensures.inner c.in-Ok.ensures.empty c.in-Ok.ensures.capacity e in
    c.print_all.ensures.prints bytes (c.new-intake.ensures.known ∙ known)

pub returns-clause-fails : goal.returns-clause-fails
returns-clause-fails g c = λ bytes e two.
    let known = through_buffer (λ r. g.R.Read.remaining r.now) c.in-Ok.reader _ bytes c.in-Ok.ensures.inner c.in-Ok.ensures.empty c.in-Ok.ensures.capacity e in
    inr (c.print_all.ensures.fails bytes (c.new-intake.ensures.known ∙ known) two)
