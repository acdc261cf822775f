use Rattle.std.proofs.Common.{refl, ◌∙◌}
use Rattle.cose_answers.proofs.lemmas.Sequences.PartLines.{is_next, part_fails, part_lost}
use Rattle.cose_answers.proofs.lemmas.Sequences.EachMessage.{line_first}
use Rattle.cose_answers.proofs.answers.sequence.print_next.Goals as goal

pub returns-in-Err-clause-step : goal.returns-in-Err-clause-step
returns-in-Err-clause-step g c = λ bytes e.
    (λ well. absurd (well c.print_fault.ensures.status), λ _. line_first _ _ c.args.place bytes _ _ c.fault.result c.print_fault.ensures.line)

pub returns-in-Err-placed_text-clause-step : goal.returns-in-Err-placed_text-clause-step
returns-in-Err-placed_text-clause-step g c = λ bytes e.
    (λ well. absurd (well c.print_fault-in-Err-placed_text.ensures.status), λ _. line_first _ _ c.args.place bytes _ _ c.in-Err-placed_text.fault c.print_fault-in-Err-placed_text.ensures.line)

pub returns-in-Fault-clause-step : goal.returns-in-Fault-clause-step
returns-in-Fault-clause-step g c = λ bytes e.
    let next = is_next _ _ bytes _ _ c.in-Ok-Some.part c.in-Ok-Some.field-0-is (c.in-Ok-Some.ensures.part bytes e) in
    (λ well. absurd (well refl), λ _. part_fails _ _ c.args.place bytes _ _ _ c.in-Ok-Some.part c.as_str.result.now next (c.as_str.ensures.value ∙ c.in-Ok.ensures.text) c.print-status.ensures.front)

pub returns : goal.returns
returns g c = record {
  step = λ bytes e.
      (let next = is_next _ _ bytes _ _ c.in-Ok-Some.part c.in-Ok-Some.field-0-is (c.in-Ok-Some.ensures.part bytes e) in (
        part_lost _ _ c.args.place bytes _ _ _ c.in-Ok-Some.part c.as_str.result.now c.print-status.result next c.if-part.false (c.as_str.ensures.value ∙ c.in-Ok.ensures.text)
            (c.print-status.ensures.status c.in_default.not-Fault) c.in_default.not-Fault (c.print-status.ensures.written c.in_default.not-Fault),
        λ is. absurd cc,
      ));
  moves = λ is. absurd cc;
  same_reading = c.next.ensures.same_reading;
  same_lines = c.next.ensures.same_lines;
}
