use Rattle.std.proofs.Common.{◌≢◌, ◌+◌, refl, ◌∙◌}
use Rattle.cose_answers.specs.declared.answers.sequence.Step.TheVariants.{Over, Printed}
use Rattle.cose_answers.specs.declared.fault.Fault.TheVariants as faults
use Rattle.cose_answers.specs.declared.reply.Status.TheVariants as statuses
use Rattle.cose_answers.proofs.lemmas.Sequences.PartLines.{joined_sound, same_step}
use Rattle.cose_answers.proofs.lemmas.Sequences.EachMessage.{SoFar, all_printed, ends_lost, fails_later, line_first, none_so_far, one_more}
use Rattle.cose_answers.proofs.answers.sequence.print_all.Goals as goal

pub messages-init : goal.messages-init
messages-init g c = (λ bytes e. none_so_far _ _ bytes _ _ e, (λ is. absurd cc), refl, refl)

pub messages-preserved : goal.messages-preserved
messages-preserved g c =
    let sound : c.joined-status.result ≢ statuses.Fault = rw c.joined-status.ensures (joined_sound c.messages.status c.in-Printed.latest c.messages.invariant.1 c.in-Printed.ensures.moves.1) in (
      λ bytes e. one_more _ _ bytes _ _ _ _ _ c.messages.place c.in-Some.next c.in-Printed.taken c.messages.status c.in-Printed.latest c.joined-status.result (c.messages.invariant.0 bytes e)
          (λ rest left. same_step (g.P.Parts.reads c.messages.parts) (g.P.Parts.reads c.args.parts.now) (g.P.Parts.alone c.messages.parts) (g.P.Parts.alone c.args.parts.now) c.messages.place rest
          (g.I.Intake.to_come c.print_next.new.intake) (g.W.Write.contents c.messages.output) (g.W.Write.contents c.print_next.new.output) (Printed c.in-Printed.taken c.in-Printed.latest) c.messages.invariant.2 c.messages.invariant.3
          (c.in-Printed.ensures.step rest left))
          c.in-Some.ensures.1 c.joined-status.ensures,
      sound,
      c.print_next.ensures.same_reading ∙ c.messages.invariant.2,
      c.print_next.ensures.same_lines ∙ c.messages.invariant.3,
    )

pub returns-in-Ended-clause-prints : goal.returns-in-Ended-clause-prints
returns-in-Ended-clause-prints g c = λ bytes e.
    all_printed _ _ bytes _ _ _ _ c.messages.place c.messages.status (c.messages.invariant.0 bytes e) c.in-Ended.ensures.step

pub returns-in-Over-clause-prints : goal.returns-in-Over-clause-prints
returns-in-Over-clause-prints g c = λ bytes e.
    ends_lost _ _ bytes _ _ _ _ c.messages.place c.messages.status c.in-Over.last (c.messages.invariant.0 bytes e) c.messages.invariant.1 c.in-Over.ensures.moves
    (λ rest left.
    (let step = same_step (g.P.Parts.reads c.messages.parts) (g.P.Parts.reads c.args.parts.now) (g.P.Parts.alone c.messages.parts) (g.P.Parts.alone c.args.parts.now) c.messages.place rest
    (g.I.Intake.to_come c.print_next.new.intake) (g.W.Write.contents c.messages.output) (g.W.Write.contents c.print_next.new.output) (Over c.in-Over.last) c.messages.invariant.2 c.messages.invariant.3
    (c.in-Over.ensures.step rest left) in
    step.0))

pub returns-in-Over-clause-fails : goal.returns-in-Over-clause-fails
returns-in-Over-clause-fails g c = λ bytes e two.
    fails_later _ _ bytes _ _ _ _ c.messages.place c.messages.status (c.messages.invariant.0 bytes e)
    (λ rest left.
    (let step = same_step (g.P.Parts.reads c.messages.parts) (g.P.Parts.reads c.args.parts.now) (g.P.Parts.alone c.messages.parts) (g.P.Parts.alone c.args.parts.now) c.messages.place rest
    (g.I.Intake.to_come c.print_next.new.intake) (g.W.Write.contents c.messages.output) (g.W.Write.contents c.print_next.new.output) (Over c.in-Over.last) c.messages.invariant.2 c.messages.invariant.3
    (c.in-Over.ensures.step rest left) in
    step.1 two))

pub returns-in-None-clause-fails : goal.returns-in-None-clause-fails
returns-in-None-clause-fails g c = λ bytes e two.
    let reads = g.P.Parts.reads c.args.parts.now in
    let alone = g.P.Parts.alone c.args.parts.now in
    let so_far : SoFar reads alone bytes (g.I.Intake.to_come c.print_next.new.intake) (g.W.Write.contents c.args.output.now) (g.W.Write.contents c.print_next.new.output) (c.messages.place + c.in-Printed.taken) c.joined-status.result =
    one_more _ _ bytes _ _ _ _ _ c.messages.place (c.messages.place + c.in-Printed.taken) c.in-Printed.taken c.messages.status c.in-Printed.latest c.joined-status.result (c.messages.invariant.0 bytes e)
    (λ rest left. same_step (g.P.Parts.reads c.messages.parts) reads (g.P.Parts.alone c.messages.parts) alone c.messages.place rest
    (g.I.Intake.to_come c.print_next.new.intake) (g.W.Write.contents c.messages.output) (g.W.Write.contents c.print_next.new.output) (Printed c.in-Printed.taken c.in-Printed.latest) c.messages.invariant.2 c.messages.invariant.3
    (c.in-Printed.ensures.step rest left))
    refl c.joined-status.ensures in
    fails_later reads alone bytes _ _ _ _ (c.messages.place + c.in-Printed.taken) c.joined-status.result so_far
    (λ rest left. line_first reads alone (c.messages.place + c.in-Printed.taken) rest _ _ faults.Input c.print_fault.ensures.line)
