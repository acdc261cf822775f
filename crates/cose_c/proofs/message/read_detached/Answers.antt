use Rattle.std.proofs.Common.{◌≡◌, true, false, [], length, Some, sym, ap, subst, ◌∙◌}
use Rattle.std.proofs.lemmas.Bool.{true≢false}
use Rattle.cose_msg.specs.Answer.{Answer, decided}
use Rattle.cose_msg.specs.Message.{given, verdict_of}
use Rattle.cose_msg.specs.Reading.{Reading}
use Rattle.cose_msg.specs.Shown.{Shown, sign_input_in, sign_input_of}
use Rattle.cose_msg.specs.Verifier.{setting_in}
use Rattle.cose_c.specs.Deciding.{always}
use Rattle.cose_c.specs.Input.{GivesAll, has_point}
use Rattle.cose_c.specs.Message.{input_read}
use Rattle.cose_c.specs.Numbers.{one_message, unless_signed, verdict_numbers}
use Rattle.cose_c.proofs.Messages.{accepts, either_fails, never_stops, parts, read_on_both, signed_input, signed_is_accepted, signs}
use Rattle.cose_c.proofs.message.read_detached.Goals as goal

pub returns-clause-verdict : goal.returns-clause-verdict
returns-clause-verdict g c =
    let answer : verdict_of g.row.H g.row.D (given c.args.payload.now (setting_in c.args.verifier.now)) always c.args.message.now ≡ decided c.in-Ok.verdict =
    rw c.in-Ok.is at (c.verify_detached.ensures.answer (setting_in c.args.verifier.now) [] [] c.args.message.now c.args.payload.now c.requires.fresh c.new-bytes.ensures.known c.new-beside.ensures.known) in
    c.numbers_of.ensures ∙ ap (λ (a : Answer). verdict_numbers unless_signed 0 (one_message (length c.args.message.now) a)) (sym answer)

pub returns-clause-input : goal.returns-clause-input
returns-clause-input g c = λ two.
    let plain = setting_in c.args.verifier.now in
    let setting = given c.args.payload.now plain in
    let bytes = c.args.message.now in
    let answer : verdict_of g.row.H g.row.D setting always bytes ≡ decided c.in-Ok.verdict =
    rw c.in-Ok.is at (c.verify_detached.ensures.answer plain [] [] bytes c.args.payload.now c.requires.fresh c.new-bytes.ensures.known c.new-beside.ensures.known) in
    let a = accepts (length bytes) 0 c.in-Ok.verdict c.numbers_of.result c.numbers_of.ensures (signed_is_accepted c.numbers_of.result two) in
    let p = parts c.authentication_decides.ensures.authentic c.spelled_is_read.ensures.read c.deciding_goes_last.ensures.comparing g.row.H g.row.D setting bytes a.kind a.alg a.payload a.taken (answer ∙ ap decided a.is) in
    let signed = signed_input c.chosen_key_fits.ensures.kind c.chosen_key_fits.ensures.typed c.signatures_are_of_sign1.ensures g.row.H g.row.D setting bytes p.whole p.found p.read_whole p.chosen p.choice (sym p.named ∙ signs a.kind c.numbers_of.result a.status two) in
    let run = c.in-Ok.ensures.run plain [] [] c.requires.fresh in
    let all = read_on_both c.settled_stays.ensures.message c.payload_stays.ensures.complete c.deciding_goes_last.ensures.verifying g.row.H g.row.D plain always bytes c.args.payload.now run.0 run.1 _ (Some c.verify_detached.new.message.bytes.now) _ (Some c.verify_detached.new.payload.bytes.now)
    c.new-bytes.ensures.known c.new-beside.ensures.known run.2.bytes.0 run.2.bytes.1 (λ unsettled. (run.2.answer.0.ends.unsettled unsettled).1) (λ some. (run.2.answer.1.missing some).1) in
    let same : sign_input_of c.verify_detached.new.verifier ≡ input_read g.row.H g.row.D setting bytes =
    ap (λ (shown : Shown). shown.sign_input) run.3.1 ∙ ap (λ (r : Reading). sign_input_in plain.aad r.answer) (sym all) in
    subst (λ (i : _). GivesAll i c.give_input.new.input) same (c.give_input.ensures.input (c.give_input.ensures.value ∙ ap has_point same ∙ signed))

pub unreachable-requires : goal.unreachable-requires
unreachable-requires g c =
    never_stops c.verify_detached.result c.in-Err.field-0 c.in-Err.is (either_fails _ c.verify_detached.ensures.intake_failure) (sym c.verify_detached.ensures.sink_failure)
    (λ e. absurd (true≢false (sym (c.verify_detached.ensures.stopped.0 e) ∙ c.requires.fresh.goes_on)))
