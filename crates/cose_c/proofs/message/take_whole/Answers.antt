use Rattle.std.proofs.Common.{◌≡◌, true, [], Some, false, length, sym, ap, ◌∙◌, arith}
use Rattle.std.proofs.lemmas.Bool.{true≢false}
use Rattle.cose_msg.specs.Answer.{decided}
use Rattle.cose_msg.specs.Reading.{Reading}
use Rattle.cose_msg.specs.Shown.{Shown, sign_input_in}
use Rattle.cose_msg.specs.Task.{rules_of, to_verify}
use Rattle.cose_msg.specs.Verifier.{setting_in}
use Rattle.cose_c.specs.Deciding.{always}
use Rattle.cose_c.proofs.Messages.{accepts, covers, never_stops, on_all, parts, read_as_fed, read_as_taken, signed_input, signed_is_accepted, signs, verdict_on_all}
use Rattle.cose_c.proofs.message.take_whole.Goals as goal

pub returns-clause-verdict : goal.returns-clause-verdict
returns-clause-verdict g c =
    let setting = setting_in c.args.verifier.now in
    let fed = c.feed-fed.ensures.taken (to_verify setting) [] [] c.requires.fresh in
    let verdict = verdict_on_all g.row.H g.row.D setting always c.args.message.now _ c.feed-fed.result.used c.verify.result c.in-Ok.verdict c.split_at.ensures.back c.in-Ok.is (c.verify.ensures.answer setting _ _ _ fed c.new-rest.ensures.known) in
    on_all (length c.args.message.now) _ c.in-Ok.verdict _ _ verdict c.numbers_of.ensures

pub returns-clause-payload : goal.returns-clause-payload
returns-clause-payload g c = λ accepted.
    let setting = setting_in c.args.verifier.now in
    let rules = rules_of g.row.H g.row.D (to_verify setting) in
    let bytes = c.args.message.now in
    let fed = c.feed-fed.ensures.taken (to_verify setting) [] [] c.requires.fresh in
    let verdict = verdict_on_all g.row.H g.row.D setting always bytes _ c.feed-fed.result.used c.verify.result c.in-Ok.verdict c.split_at.ensures.back c.in-Ok.is (c.verify.ensures.answer setting _ _ _ fed c.new-rest.ensures.known) in
    let a = accepts (length bytes) _ c.in-Ok.verdict c.numbers_of.result c.numbers_of.ensures accepted in
    let p = parts c.authentication_decides.ensures.authentic c.spelled_is_read.ensures.read c.deciding_goes_last.ensures.comparing g.row.H g.row.D setting bytes a.kind a.alg a.payload a.taken (verdict ∙ ap decided a.is) in
    let payload = ap (λ (r : Reading). r.so_far.payload) (read_as_fed c.settled_stays.ensures.message rules bytes c.feed-fed.result.used (c.feed-fed.ensures.uses (to_verify setting) [] [] c.requires.fresh)) ∙ c.verify.ensures.before setting _ _ fed in
    covers bytes _ c.feed-fed.result.payload_from c.feed-fed.result.payload_to _ _ c.feed-fed.ensures.ordered (omega (arith, c.feed-fed.ensures.among, c.feed-fed.ensures.fits)) payload a.place (a.length ∙ p.counted)

pub returns-clause-input : goal.returns-clause-input
returns-clause-input g c =
    let setting = setting_in c.args.verifier.now in
    let rules = rules_of g.row.H g.row.D (to_verify setting) in
    let fed = c.feed-fed.ensures.taken (to_verify setting) [] [] c.requires.fresh in
    let run = c.in-Ok.ensures.run setting _ _ fed in
    let all = read_as_taken c.settled_stays.ensures.message rules c.args.message.now run.0 c.feed-fed.result.used _ (Some c.verify.new.intake.bytes.now) (c.feed-fed.ensures.uses (to_verify setting) [] [] c.requires.fresh)
    (c.new-rest.ensures.known ∙ ap Some c.split_at.ensures.back) run.1.bytes in
    ap (λ (shown : Shown). shown.sign_input) run.2.1 ∙ ap (λ (r : Reading). sign_input_in setting.aad r.answer) (sym all)

pub returns-clause-signed : goal.returns-clause-signed
returns-clause-signed g c = λ two.
    let setting = setting_in c.args.verifier.now in
    let bytes = c.args.message.now in
    let fed = c.feed-fed.ensures.taken (to_verify setting) [] [] c.requires.fresh in
    let verdict = verdict_on_all g.row.H g.row.D setting always bytes _ c.feed-fed.result.used c.verify.result c.in-Ok.verdict c.split_at.ensures.back c.in-Ok.is (c.verify.ensures.answer setting _ _ _ fed c.new-rest.ensures.known) in
    let a = accepts (length bytes) _ c.in-Ok.verdict c.numbers_of.result c.numbers_of.ensures (signed_is_accepted c.numbers_of.result two) in
    let p = parts c.authentication_decides.ensures.authentic c.spelled_is_read.ensures.read c.deciding_goes_last.ensures.comparing g.row.H g.row.D setting bytes a.kind a.alg a.payload a.taken (verdict ∙ ap decided a.is) in
    signed_input c.chosen_key_fits.ensures.kind c.chosen_key_fits.ensures.typed c.signatures_are_of_sign1.ensures g.row.H g.row.D setting bytes p.whole p.found p.read_whole p.chosen p.choice (sym p.named ∙ signs a.kind c.numbers_of.result a.status two)

pub unreachable-requires : goal.unreachable-requires
unreachable-requires g c =
    let fed = c.feed-fed.ensures.taken (to_verify (setting_in c.args.verifier.now)) [] [] c.requires.fresh in
    never_stops c.verify.result c.in-Err.field-0 c.in-Err.is (sym c.verify.ensures.intake_failure) (sym c.verify.ensures.sink_failure)
    (λ e. absurd (true≢false (sym (c.verify.ensures.stopped.0 e) ∙ fed.goes_on)))
