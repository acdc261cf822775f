use Rattle.std.proofs.Common.{[], ◌∷◌, refl}
use Rattle.cose_head.proofs.lemmas.Walker.WalkerSteps.{answers_after, put_after}
use Rattle.cose_head.proofs.walker.Walker.put.Goals as goal

pub returns-in-Going-clause-answer : goal.returns-in-Going-clause-answer
returns-in-Going-clause-answer g c = λ room put has.
    let then = c.advance-progress.new.self in
    let progress = c.advance-progress.result in
    rw c.step_after-self.ensures (answers_after c.args.self.now then room put (c.args.byte ∷ []) has progress c.advance-progress.ensures.leads c.advance-progress.ensures.taken c.advance-progress.ensures.left)

pub returns-in-Going-clause-put : goal.returns-in-Going-clause-put
returns-in-Going-clause-put g c = λ room put has is_going.
    let then = c.advance-progress.new.self in
    let progress = c.advance-progress.result in
    put_after c.args.self.now then room put (c.args.byte ∷ []) has _ (record { counts = refl; half = refl; string = refl; room = refl; place = refl }) progress c.advance-progress.ensures.leads c.advance-progress.ensures.taken c.advance-progress.ensures.left c.step_after-self.ensures is_going
