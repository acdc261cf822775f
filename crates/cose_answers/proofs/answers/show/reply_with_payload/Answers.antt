use Rattle.std.proofs.Common.{◌∙◌, [], ◌≤◌, ap, subst, sym, ℕ}
use Rattle.std.proofs.Math.Bool.{or-false}
use Rattle.std.proofs.Math.Nat.{le_refl}
use Rattle.std.proofs.lemmas.Result.{err_from_is_err_and}
use Rattle.cose_map.specs.KeySet.View.{keys as usable}
use Rattle.cose_msg.specs.Message.{Setting}
use Rattle.cose_msg.specs.Verifier.{setting_of}
use Rattle.cose_answers.proofs.lemmas.Files.Failures.{answered_unfailed}
use Rattle.cose_answers.proofs.lemmas.Messages.ShownMessages.{got_line, says_found}
use Rattle.cose_answers.proofs.answers.show.reply_with_payload.Goals as goal

pub returns-clause-says : goal.returns-clause-says
returns-clause-says g c = λ bytes e.
    let setting = setting_of usable c.token_context.result in
    let found = c.in_ok-inspected.ensures.whole setting bytes c.inspecting-verifier.ensures.none_taken e in
    says_found g.row.H g.row.D g.row.L c.args.wanted c.args.details (usable c.in-Ok.keys) [] bytes setting c.whole_inspection.new.verifier _ _ c.in_ok-inspected.inspected c.bytes.result.now c.inspected_reply.result
    (rw c.requires.asked c.token_context.ensures.setting) found
    (got_line c.args.details.payload g.row.D c.bytes.result.now _ _ _ c.new-store.ensures.empty c.bytes.ensures.held found.payload)
    c.inspected_reply.ensures.says

pub returns-in_err-inspected-clause-input : goal.returns-in_err-inspected-clause-input
returns-in_err-inspected-clause-input g c =
    let p = err_from_is_err_and c.from_residual.result c.from_residual.ensures.1 in
    let setting = setting_of usable c.token_context.result in
    let limit = ap (λ (it : Setting). it.payload_limit) c.token_context.ensures.setting ∙ sym c.new-store.ensures.sure in
    let failure = c.in_err-inspected.ensures.failure setting c.inspecting-verifier.ensures.none_taken in
    rw (p.1, p.2, c.in_err-inspected.ensures.fault) (failure (subst (λ (room : ℕ). setting.payload_limit ≤ room) limit (le_refl setting.payload_limit)))

pub returns-clause-input : goal.returns-clause-input
returns-clause-input g c =
    let setting = setting_of usable c.token_context.result in
    let limit = ap (λ (it : Setting). it.payload_limit) c.token_context.ensures.setting ∙ sym c.new-store.ensures.sure in
    let failure = c.in_ok-inspected.ensures.failure setting c.inspecting-verifier.ensures.none_taken in
    answered_unfailed _ _ c.inspected_reply.result (failure (subst (λ (room : ℕ). setting.payload_limit ≤ room) limit (le_refl setting.payload_limit)) ∙ or-false _) c.inspected_reply.ensures.fault
