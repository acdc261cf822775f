use Rattle.std.proofs.Common.{[], ap, sym, ◌∙◌}
use Rattle.cose_msg.specs.Reading.{Reading}
use Rattle.cose_msg.specs.Shown.{Shown}
use Rattle.cose_msg.specs.Status.{status_of_reading}
use Rattle.cose_msg.specs.Task.{rules_of, to_inspect}
use Rattle.cose_msg.specs.Verifier.{setting_in}
use Rattle.cose_c.proofs.Messages.{read_as_fed}
use Rattle.cose_c.proofs.key_choice.take.Goals as goal

pub returns-clause-status : goal.returns-clause-status
returns-clause-status g c =
    let task = to_inspect (setting_in c.args.verifier.now) in
    c.feed.ensures.status task [] [] c.requires.fresh
    ∙ ap status_of_reading (sym (read_as_fed c.settled_stays.ensures.message (rules_of g.row.H g.row.D task) c.args.message.now c.feed.result.used (c.feed.ensures.uses task [] [] c.requires.fresh)))

pub returns-clause-protected : goal.returns-clause-protected
returns-clause-protected g c =
    let task = to_inspect (setting_in c.args.verifier.now) in
    ap (λ (shown : Shown). shown.protected) (c.feed.ensures.shows task [] [] c.requires.fresh)
    ∙ ap (λ (r : Reading). r.so_far.protected) (sym (read_as_fed c.settled_stays.ensures.message (rules_of g.row.H g.row.D task) c.args.message.now c.feed.result.used (c.feed.ensures.uses task [] [] c.requires.fresh)))

pub returns-clause-unprotected : goal.returns-clause-unprotected
returns-clause-unprotected g c =
    let task = to_inspect (setting_in c.args.verifier.now) in
    ap (λ (shown : Shown). shown.unprotected) (c.feed.ensures.shows task [] [] c.requires.fresh)
    ∙ ap (λ (r : Reading). r.so_far.unprotected) (sym (read_as_fed c.settled_stays.ensures.message (rules_of g.row.H g.row.D task) c.args.message.now c.feed.result.used (c.feed.ensures.uses task [] [] c.requires.fresh)))
