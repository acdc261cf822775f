use Rattle.std.proofs.Common.{None, [], ap, option_map, sym}
use Rattle.cose_map.specs.Key.View.{contents}
use Rattle.cose_map.specs.KeyTable.{keys as usable}
use Rattle.cose_msg.specs.Shown.{Shown, protected_of, sign_input_of, unprotected_of}
use Rattle.cose_msg.specs.Verifier.{setting_of}
use Rattle.cose_answers.specs.Under.{under_of}
use Rattle.cose_answers.specs.Vouch.{vouching}
use Rattle.cose_answers.proofs.lemmas.Files.Failures.{then_failed}
use Rattle.cose_answers.proofs.lemmas.Messages.MessageReplies.{says_answered}
use Rattle.cose_answers.proofs.lemmas.Messages.Replies.{says_under}
use Rattle.cose_answers.proofs.answers.message.attached_reply.Goals as goal

pub returns-in-Ok-verify-clause-says : goal.returns-in-Ok-verify-clause-says
returns-in-Ok-verify-clause-says g c = λ bytes e.
    let under = under_of c.args.checks.now in
    let setting = setting_of usable c.context-context.result in
    let decides = vouching (option_map contents c.vouch-vouch.result.word) in
    let run = c.in-Ok-verify.ensures.run setting [] [] c.new-verifier.ensures.none_taken in
    says_under c.args.question.now under (usable c.in-Ok.keys) None setting bytes c.reply_to.result
    (rw c.requires.sizes.keys_are (sym c.in-Ok.ensures.exact)) c.context-context.ensures.setting
    (rw (c.requires.sizes.header_is, c.requires.sizes.nesting_is, sym c.vouch-vouch.ensures)
    (says_answered c.args.question.now g.row.H g.row.D setting bytes c.settled_stays.ensures.message c.deciding_goes_last.ensures.verifying decides c.spelled_is_read.ensures.read c.unrefused_is_message.ensures.any
    _ _ run.0 c.in-Ok-verify.verdict _ (sign_input_of c.verify.new.verifier) (protected_of c.verify.new.verifier) (unprotected_of c.verify.new.verifier) c.reply_to.result e run.1.bytes (λ unsettled. (run.1.answer.ends.unsettled unsettled).1) run.1.none_after_end run.1.answer.answer run.1.answer.counted run.2.0
    (ap (λ (x : Shown). x.sign_input) run.2.1) (ap (λ (x : Shown). x.protected) run.2.1) (ap (λ (x : Shown). x.unprotected) run.2.1) c.reply_to.ensures.says))

pub returns-in-Ok-verify-clause-input : goal.returns-in-Ok-verify-clause-input
returns-in-Ok-verify-clause-input g c = then_failed _ _ _ _ c.in-Ok-verify.ensures.intake_failure c.reply_to.ensures.input
