use Rattle.std.proofs.Common.{◌≡◌, true, false, [], length, sym, ap, ◌∙◌}
use Rattle.std.proofs.lemmas.Bool.{true≢false}
use Rattle.cose_msg.specs.Answer.{Answer}
use Rattle.cose_msg.specs.Message.{inspecting, message}
use Rattle.cose_msg.specs.Run.{inspection}
use Rattle.cose_msg.specs.Verifier.{setting_in}
use Rattle.cose_c.specs.Numbers.{one_message}
use Rattle.cose_c.specs.Shape.{shape_numbers}
use Rattle.cose_c.proofs.Messages.{never_stops}
use Rattle.cose_c.proofs.shape.shape_of.Goals as goal

pub returns : goal.returns
returns g c =
    let setting = setting_in c.args.verifier.now in
    let answer : (message (inspecting g.row.H g.row.D setting) c.args.message.now).answer ≡ inspection c.in-Ok.inspected =
    rw c.in-Ok.is at (c.inspect.ensures.answer setting [] [] c.args.message.now c.requires.fresh c.new-intake.ensures.known) in
    c.numbers_of.ensures ∙ ap (λ (a : Answer). shape_numbers (one_message (length c.args.message.now) a)) (sym answer)

pub unreachable-requires : goal.unreachable-requires
unreachable-requires g c =
    never_stops c.inspect.result c.in-Err.field-0 c.in-Err.is (sym c.inspect.ensures.intake_failure) (sym c.inspect.ensures.sink_failure)
    (λ e. absurd (true≢false (sym (c.inspect.ensures.stopped.0 e) ∙ c.requires.fresh.goes_on)))
