use Rattle.std.proofs.Common.{sym}
use Rattle.cose_map.specs.KeyTable.{keys as usable}
use Rattle.cose_msg.specs.Verifier.{setting_of}
use Rattle.cose_answers.specs.Under.{under_of}
use Rattle.cose_answers.proofs.lemmas.Messages.Admissions.{says_admitted}
use Rattle.cose_answers.proofs.lemmas.Files.Failures.{failed_as_answered}
use Rattle.cose_answers.proofs.answers.cwt.admitted_reply.Goals as goal

pub returns-clause-says : goal.returns-clause-says
returns-clause-says g c = λ bytes e.
    let setting = setting_of usable c.token_context-context.result in
    says_admitted (under_of c.args.checks.now) (usable c.in-Ok.keys) setting _ _ c.args.printing bytes _ c.token_reply.result
    (rw c.requires.sizes.keys_are (sym c.in-Ok.ensures.exact)) (rw c.requires.claims c.token_context-context.ensures.setting)
    (rw (c.requires.sizes.header_is, c.requires.sizes.nesting_is, sym c.vouch-vouch.ensures) (c.whole_token-token.ensures.whole setting bytes c.new-verifier.ensures.none_taken e))
    c.token_reply.ensures.says c.token_reply.ensures.unstopped

pub returns-clause-input : goal.returns-clause-input
returns-clause-input g c = failed_as_answered _ _ _ _
    (c.whole_token-token.ensures.failure (setting_of usable c.token_context-context.result) c.new-verifier.ensures.none_taken) c.token_reply.ensures.input
