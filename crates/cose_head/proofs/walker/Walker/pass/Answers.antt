use Rattle.std.proofs.Common.{◌≡◌, ◌+◌, length, take, refl, arith}
use Rattle.std.proofs.lemmas.List.{length-take-le}
use Rattle.cose_head.proofs.lemmas.Walker.WalkerSteps.{answers_after, on_ok, put_after, string_open}
use Rattle.cose_head.proofs.walker.Walker.pass.Goals as goal

pub returns-then-count-gt0-clause-used : goal.returns-then-count-gt0-clause-used
returns-then-count-gt0-clause-used g c = λ room put has. rw (string_open c.args.self.now room put has) c.min-count.ensures

pub returns-else-count-gt0-clause-used : goal.returns-else-count-gt0-clause-used
returns-else-count-gt0-clause-used g c = λ room put has. rw (string_open c.args.self.now room put has) c.min-count.ensures

pub returns-then-count-gt0-clause-answer : goal.returns-then-count-gt0-clause-answer
returns-then-count-gt0-clause-answer g c = λ room put has some.
    let now = c.args.self.now in
    let then = c.advance_content-progress.new.self in
    let piece = take c.min-count.result c.args.piece.now in
    let count : length piece ≡ c.min-count.result = length-take-le c.min-count.result c.args.piece.now (omega (arith, c.min-count.ensures)) in
    let no_half : length now.half.items ≡ 0 = now.one_part (omega arith) in
    let is_at = c.advance_content-progress.ensures.is_at in
    let taken : then.place + length then.half.items ≡ now.place + length now.half.items + length piece = omega (arith, is_at.half, is_at.place) in
    let left : then.place + then.room ≡ now.place + now.room = omega (arith, now.fits, is_at.room, is_at.place) in
    rw c.step_after-self.ensures (answers_after now then room put piece has c.advance_content-progress.result (c.advance_content-progress.ensures.leads piece count)
    (on_ok _ taken) (on_ok _ left))

pub returns-then-count-gt0-clause-put : goal.returns-then-count-gt0-clause-put
returns-then-count-gt0-clause-put g c = λ room put has is_going.
    let now = c.args.self.now in
    let then = c.advance_content-progress.new.self in
    let piece = take c.min-count.result c.args.piece.now in
    let count : length piece ≡ c.min-count.result = length-take-le c.min-count.result c.args.piece.now (omega (arith, c.min-count.ensures)) in
    let no_half : length now.half.items ≡ 0 = now.one_part (omega arith) in
    let is_at = c.advance_content-progress.ensures.is_at in
    let taken : then.place + length then.half.items ≡ now.place + length now.half.items + length piece = omega (arith, is_at.half, is_at.place) in
    let left : then.place + then.room ≡ now.place + now.room = omega (arith, now.fits, is_at.room, is_at.place) in
    put_after now then room put piece has _ (record { counts = refl; half = refl; string = refl; room = refl; place = refl }) c.advance_content-progress.result (c.advance_content-progress.ensures.leads piece count)
    (on_ok _ taken) (on_ok _ left)
    c.step_after-self.ensures is_going
