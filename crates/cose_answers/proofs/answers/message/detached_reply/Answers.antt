use Rattle.std.proofs.Common.{[], ◌≤◌, length, arith, ap, option_map, sym}
use Rattle.cose_map.specs.Key.View.{contents}
use Rattle.cose_map.specs.KeyTable.{keys as usable}
use Rattle.cose_msg.specs.Shown.{Shown, protected_of, sign_input_of, unprotected_of}
use Rattle.cose_msg.specs.Verifier.{detaching, setting_of}
use Rattle.cose_answers.specs.Under.{under_of}
use Rattle.cose_answers.specs.Vouch.{vouching}
use Rattle.cose_answers.proofs.lemmas.Messages.DetachedReplies.{answered_of_run, replies_under}
use Rattle.cose_answers.proofs.answers.message.detached_reply.Goals as goal

pub returns-in-Ok-verdict-clause-says : goal.returns-in-Ok-verdict-clause-says
returns-in-Ok-verdict-clause-says g c = λ bytes keys e read.
    let under = under_of c.args.checks.now in
    let setting = setting_of usable c.context-context.result in
    let decides = vouching (option_map contents c.vouch-vouch.result.word) in
    let run = c.in-Ok-verdict.ensures.run (detaching c.args.payload_length setting) [] [] c.detached-verifier.ensures.none_taken in
    let within : length run.1 ≤ c.args.payload_length = omega (arith, run.2.within) in
    replies_under c.args.question.now under keys (usable c.in-Ok.keys) setting c.args.payload_length bytes _ _ _ c.reply_to.result
    read (rw c.requires.sizes.keys_are (sym c.in-Ok.ensures.exact)) c.context-context.ensures.setting
    (rw (c.requires.sizes.header_is, c.requires.sizes.nesting_is, sym c.vouch-vouch.ensures)
    (answered_of_run c.args.question.now g.row.H g.row.D c.deciding_goes_last.ensures.verifying decides setting c.args.payload_length bytes c.settled_stays.ensures.message c.spelled_is_read.ensures.read c.unrefused_is_message.ensures.any
    _ _ run.0 run.1 _ _ _ c.in-Ok-verdict.verdict _ (sign_input_of c.verify_detached-verdict.new.verifier) (protected_of c.verify_detached-verdict.new.verifier) (unprotected_of c.verify_detached-verdict.new.verifier) c.reply_to.result e run.2.bytes.0 run.2.bytes.1 within (λ unsettled. (run.2.answer.0.ends.unsettled unsettled).1) run.2.none_after_end
    run.2.answer.0.answer run.2.answer.0.counted run.3.0 (ap (λ (x : Shown). x.sign_input) run.3.1) (ap (λ (x : Shown). x.protected) run.3.1) (ap (λ (x : Shown). x.unprotected) run.3.1) (λ some. run.2.answer.1.missing some) c.reply_to.ensures.says))
