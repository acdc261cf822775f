use Rattle.std.proofs.Common.{◌∙◌, [], ◌≤◌, ◌-◌, ◌^◌, lit≤, subst, sym}
use Rattle.std.proofs.Math.Bool.{or-false}
use Rattle.std.proofs.lemmas.Result.{err_from_is_err_and}
use Rattle.cose_map.specs.KeySet.View.{keys as usable}
use Rattle.cose_msg.specs.Message.{Setting}
use Rattle.cose_msg.specs.Verifier.{setting_of}
use Rattle.cose_answers.proofs.lemmas.Files.Failures.{answered_unfailed}
use Rattle.cose_answers.proofs.lemmas.Messages.ShownMessages.{says_found, unasked_line}
use Rattle.cose_answers.proofs.answers.show.reply_without_payload.Goals as goal

pub returns-clause-says : goal.returns-clause-says
returns-clause-says g c = λ claims bytes e.
    let setting = setting_of usable c.program_context.result in
    let found = c.in_ok-inspected.ensures.whole setting bytes c.inspecting-verifier.ensures.none_taken e in
    says_found g.row.H g.row.D claims c.args.wanted c.args.details (usable c.in-Ok.keys) [] bytes setting c.whole_inspection.new.verifier _ _ c.in_ok-inspected.inspected [] c.inspected_reply.result
    (rw c.requires.unasked c.program_context.ensures.setting) found
    (unasked_line c.args.details.payload g.row.D [] _ c.requires.unasked)
    c.inspected_reply.ensures.says

pub returns-in_err-inspected-clause-input : goal.returns-in_err-inspected-clause-input
returns-in_err-inspected-clause-input g c =
    let p = err_from_is_err_and c.from_residual.result c.from_residual.ensures.1 in
    let setting = setting_of usable c.program_context.result in
    let small : 2 ^ 56 - 1 ≤ 18446744073709551616 = lit≤ tt in
    let limit : setting.payload_limit ≤ 18446744073709551616 = subst (λ (it : Setting). it.payload_limit ≤ 18446744073709551616) (sym c.program_context.ensures.setting) small in
    rw (p.1, p.2, c.in_err-inspected.ensures.fault) (c.in_err-inspected.ensures.failure setting c.inspecting-verifier.ensures.none_taken limit)

pub returns-clause-input : goal.returns-clause-input
returns-clause-input g c =
    let setting = setting_of usable c.program_context.result in
    let small : 2 ^ 56 - 1 ≤ 18446744073709551616 = lit≤ tt in
    let limit : setting.payload_limit ≤ 18446744073709551616 = subst (λ (it : Setting). it.payload_limit ≤ 18446744073709551616) (sym c.program_context.ensures.setting) small in
    let failure = c.in_ok-inspected.ensures.failure setting c.inspecting-verifier.ensures.none_taken limit in
    answered_unfailed _ _ c.inspected_reply.result (failure ∙ or-false _) c.inspected_reply.ensures.fault
