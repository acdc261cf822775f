use Rattle.std.proofs.Common.{None, ap, option_map, sym, ◌∙◌}
use Rattle.cose_map.specs.Key.View.{contents}
use Rattle.cose_map.specs.KeyTable.{keys as usable}
use Rattle.cose_msg.specs.Message.{Setting}
use Rattle.cose_answers.specs.Printed.{input_answer}
use Rattle.cose_answers.specs.Under.{under_of}
use Rattle.cose_answers.specs.Vouch.{vouching}
use Rattle.cose_answers.proofs.lemmas.Payloads.KeptPayloads.{payload_read}
use Rattle.cose_answers.proofs.lemmas.Messages.Replies.{says_verified}
use Rattle.cose_answers.proofs.answers.payload_to.reply_into.Goals as goal

pub returns-clause-says : goal.returns-clause-says
returns-clause-says g c = λ bytes e.
    let under = under_of c.args.checks.now in
    says_verified under (usable c.in-Ok.keys) None bytes c.in_ok-verdict.verdict c.reply_of.result
    (rw c.requires.sizes.keys_are (sym c.in-Ok.ensures.exact))
    (rw (c.requires.sizes.header_is, c.requires.sizes.nesting_is, sym c.vouch-vouch.ensures)
    (ap (λ (x : Setting). input_answer g.row.H g.row.D x (vouching (option_map contents c.vouch-vouch.result.word)) bytes) (sym c.context-context.ensures.setting) ∙ c.in_ok-verdict.ensures.verdict bytes e))
    c.reply_of.ensures.says

pub returns-clause-payload : goal.returns-clause-payload
returns-clause-payload g c = λ bytes e.
    payload_read (under_of c.args.checks.now) (usable c.in-Ok.keys) _ bytes _ _ c.reply_of.result
    (rw c.requires.sizes.keys_are (sym c.in-Ok.ensures.exact)) c.context-context.ensures.setting
    (rw (c.requires.sizes.header_is, c.requires.sizes.nesting_is, sym c.vouch-vouch.ensures) (c.in_ok-verdict.ensures.payload bytes e))
