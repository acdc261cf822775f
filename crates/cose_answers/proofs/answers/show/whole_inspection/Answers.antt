use Rattle.std.proofs.Common.{◌≡◌, [], length, ap, subst, sym, ◌∙◌}
use Rattle.std.proofs.lemmas.Result.{err_from_is_err_and}
use Rattle.cose_msg.specs.declared.verdict.Inspected.{Inspected}
use Rattle.cose_msg.specs.declared.verdict.Inspected.TheVariants as inspected
use Rattle.cose_msg.specs.Answer.{Answer}
use Rattle.cose_msg.specs.Run.{SaysCount, inspection}
use Rattle.cose_msg.specs.Shown.{Shown}
use Rattle.cose_answers.specs.Printed.{trailed}
use Rattle.cose_answers.proofs.lemmas.Files.Failures.{then_failed}
use Rattle.cose_answers.proofs.lemmas.Messages.ShownMessages.{finds, finds_shape, finds_trailing}
use Rattle.cose_answers.proofs.answers.show.whole_inspection.Goals as goal

pub returns-in-Ok-Refused-clause-whole : goal.returns-in-Ok-Refused-clause-whole
returns-in-Ok-Refused-clause-whole g c = λ setting bytes none e.
    let run = c.in-Ok-Refused.ensures.run setting [] [] none in
    let is : c.in-Ok-Refused.field-0 ≡ inspected.Refused c.in-Ok-Refused.refusal = c.in-Ok-Refused.field-0-is in
    finds c.settled_stays.ensures.message g.row.H g.row.D setting bytes run.0 c.inspect.new.verifier _ _ _ _ e run.1.bytes (λ unsettled. (run.1.answer.ends.unsettled unsettled).1)
    (ap (λ (x : Shown). x.protected) run.2.1) (ap (λ (x : Shown). x.unprotected) run.2.1) run.1.payload.0 run.1.payload.1 run.1.payload.2
    (inspected.Refused c.in-Ok-Refused.refusal) (ap (λ (a : Answer). trailed (length bytes) a) (c.in-Ok-Refused.ensures.answer setting [] [] bytes none e ∙ ap inspection is))

pub returns-in-Some-clause-whole : goal.returns-in-Some-clause-whole
returns-in-Some-clause-whole g c = λ setting bytes none e.
    let run = c.in-Ok-Shape.ensures.run setting [] [] none in
    let is : c.in-Ok-Shape.field-0 ≡ inspected.Shape c.in-Ok-Shape.kind c.in-Ok-Shape.payload c.in-Ok-Shape.auth c.in-Ok-Shape.taken = c.in-Ok-Shape.field-0-is in
    let counted : c.in-Ok-Shape.taken ≡ length run.0 = subst (λ (x : Inspected). SaysCount (inspection x) (length run.0)) is run.1.answer.counted in
    finds_trailing c.settled_stays.ensures.message g.row.H g.row.D setting bytes run.0 c.inspect.new.verifier _ _ _ _ e run.1.bytes (λ unsettled. (run.1.answer.ends.unsettled unsettled).1)
    (ap (λ (x : Shown). x.protected) run.2.1) (ap (λ (x : Shown). x.unprotected) run.2.1) run.1.payload.0 run.1.payload.1 run.1.payload.2
    c.in-Ok-Shape.kind c.in-Ok-Shape.payload c.in-Ok-Shape.auth c.in-Ok-Shape.taken counted (c.in-Ok-Shape.ensures.answer setting [] [] bytes none e ∙ ap inspection is) c.in-Some.refusal
    (λ rest s. sym c.in-Some.is ∙ c.in_ok-refusal-in-Ok-Shape.ensures.whole rest s)

pub returns-in-None-clause-whole : goal.returns-in-None-clause-whole
returns-in-None-clause-whole g c = λ setting bytes none e.
    let run = c.in-Ok-Shape.ensures.run setting [] [] none in
    let is : c.in-Ok-Shape.field-0 ≡ inspected.Shape c.in-Ok-Shape.kind c.in-Ok-Shape.payload c.in-Ok-Shape.auth c.in-Ok-Shape.taken = c.in-Ok-Shape.field-0-is in
    let counted : c.in-Ok-Shape.taken ≡ length run.0 = subst (λ (x : Inspected). SaysCount (inspection x) (length run.0)) is run.1.answer.counted in
    finds_shape c.settled_stays.ensures.message g.row.H g.row.D setting bytes run.0 c.inspect.new.verifier _ _ _ _ e run.1.bytes (λ unsettled. (run.1.answer.ends.unsettled unsettled).1)
    (ap (λ (x : Shown). x.protected) run.2.1) (ap (λ (x : Shown). x.unprotected) run.2.1) run.1.payload.0 run.1.payload.1 run.1.payload.2
    c.in-Ok-Shape.kind c.in-Ok-Shape.payload c.in-Ok-Shape.auth c.in-Ok-Shape.taken counted (c.in-Ok-Shape.ensures.answer setting [] [] bytes none e ∙ ap inspection is)
    (λ rest s. sym c.in-None.is ∙ c.in_ok-refusal-in-Ok-Shape.ensures.whole rest s)

pub returns-in-Ok-Refused-clause-failure : goal.returns-in-Ok-Refused-clause-failure
returns-in-Ok-Refused-clause-failure g c = λ setting none sure. c.in-Ok-Refused.ensures.intake_failure

pub returns-in_err-refusal-in-Ok-Shape-clause-failure : goal.returns-in_err-refusal-in-Ok-Shape-clause-failure
returns-in_err-refusal-in-Ok-Shape-clause-failure g c = λ setting none sure.
    let p = err_from_is_err_and c.from_residual.result c.from_residual.ensures.1 in
    rw p.1 (then_failed _ _ _ _ c.in-Ok-Shape.ensures.intake_failure c.in_err-refusal-in-Ok-Shape.ensures.failure)

pub returns-in-Some-clause-failure : goal.returns-in-Some-clause-failure
returns-in-Some-clause-failure g c = λ setting none sure. then_failed _ _ _ _ c.in-Ok-Shape.ensures.intake_failure c.in_ok-refusal-in-Ok-Shape.ensures.failure

pub returns-in-None-clause-failure : goal.returns-in-None-clause-failure
returns-in-None-clause-failure g c = λ setting none sure. then_failed _ _ _ _ c.in-Ok-Shape.ensures.intake_failure c.in_ok-refusal-in-Ok-Shape.ensures.failure
