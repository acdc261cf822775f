use Rattle.std.proofs.Common.{sym, ◌∙◌}
use Rattle.cose_msg.specs.Verifier.{setting_in}
use Rattle.cose_answers.specs.Sequence.{verified_sequence}
use Rattle.cose_answers.specs.Under.{under_of}
use Rattle.cose_answers.proofs.lemmas.Requests.AskedSequences.{fails_as}
use Rattle.cose_answers.proofs.lemmas.Sequences.VerifiedSequences.{prints_as, verified_as, verified_in}
use Rattle.cose_answers.proofs.answers.sequence.messages.print_prepared.Goals as goal

pub returns-clause-prints : goal.returns-clause-prints
returns-clause-prints g c = λ bytes e.
    let under = under_of c.args.checks.now in
    let setting = setting_in c.new.result in
    prints_as (verified_in setting under) (verified_sequence under) bytes _ _ _
    (λ input. verified_as under _ setting input c.requires.keys_are (c.new.ensures.context ∙ c.context.ensures.setting))
    (rw (c.requires.sizes.header_is, c.requires.sizes.nesting_is, sym c.vouch.ensures) (c.print_read.ensures.prints bytes e))

pub returns-clause-fails : goal.returns-clause-fails
returns-clause-fails g c = λ bytes e two.
    let under = under_of c.args.checks.now in
    let setting = setting_in c.new.result in
    fails_as (verified_in setting under) (verified_sequence under) bytes _ _
    (λ input. verified_as under _ setting input c.requires.keys_are (c.new.ensures.context ∙ c.context.ensures.setting))
    (rw (c.requires.sizes.header_is, c.requires.sizes.nesting_is, sym c.vouch.ensures) (c.print_read.ensures.fails bytes e two))
