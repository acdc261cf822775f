use Rattle.std.proofs.Common.{◌≤◌, refl, sym, ◌∙◌, arith}
use Rattle.std.proofs.Math.Bool.{or-false, or-true}
use Rattle.std.proofs.lemmas.Grind.{common_steps}
use Rattle.std.proofs.lemmas.List.{length-take}
use Rattle.cose_msg.proofs.lemmas.Run.Runs.{first_of, is_done, marks_nothing, promise_kept, put_done, put_failed}
use Rattle.cose_msg.proofs.lemmas.Made.Streaming.{first_is_taken, goes_on, marks_failure, sink_failed}
use Rattle.cose_msg.proofs.make.put_payload.Goals as goal

pub pieces-preserved : goal.pieces-preserved
pieces-preserved g c =
    let a = c.pieces.invariant.0 in
    let done = sym c.is_err.ensures.value ∙ c.if-is_err.false in
    let asked : c.in-Ok.count ≤ c.pieces.left = omega (arith, c.take.auto.into, c.in-Ok.ensures.within, c.min-asked.ensures, length-take c.min-asked.result c.pieces.chunk) in (
      goes_on _ _ a (first_of _ _ c.in-Ok.count c.take.new.into _ c.in-Ok.ensures.within c.in-Ok.ensures.bytes.0) (first_is_taken c.in-Ok.count c.pieces.left c.take.new.into _ c.in-Ok.ensures.within asked)
          (put_done _ _ _ c.put.result done c.put.ensures.bytes) c.update.ensures.fed_mac (c.put.ensures.failure ∙ marks_nothing _ c.put.result done)
          (promise_kept c.put.result _ _ _ done c.put.ensures.promise),
      c.in-Ok.ensures.failure ∙ c.pieces.invariant.1,
    )

pub returns-then-is_err-clause-streams : goal.returns-then-is_err-clause-streams
returns-then-is_err-clause-streams g c =
    let a = c.pieces.invariant.0 in
    let failed = sym c.is_err.ensures.value ∙ c.if-is_err.true in
    let asked : c.in-Ok.count ≤ c.pieces.left = omega (arith, c.take.auto.into, c.in-Ok.ensures.within, c.min-asked.ensures, length-take c.min-asked.result c.pieces.chunk) in (
      _,
      sink_failed _ _ _ _ _ _ a (first_of _ _ c.in-Ok.count c.take.new.into _ c.in-Ok.ensures.within c.in-Ok.ensures.bytes.0) (first_is_taken c.in-Ok.count c.pieces.left c.take.new.into _ c.in-Ok.ensures.within asked)
          (put_failed _ _ _ c.put.result failed c.put.ensures.bytes) (c.put.ensures.failure ∙ marks_failure _ c.put.result failed)
          (λ sure. is_done c.put.result failed (c.put.ensures.promised sure)),
    )

pub pieces-init : goal.pieces-init
pieces-init g c = grind (arith, common_steps)

pub returns-then-left-eq0-clause-streams : goal.returns-then-left-eq0-clause-streams
returns-then-left-eq0-clause-streams g c =
    let a = c.pieces.invariant.0 in (
      a.taken,
      record {
        bytes = a.bytes;
        count = omega (arith, a.count, c.if-left-eq0.true);
        put = a.put;
        answer = refl;
        fed = λ done. a.feeds;
        failure = a.failure ∙ sym (or-false _);
        promised = λ enough. refl;
        promise = omega (arith, a.promise, a.count, c.if-left-eq0.true);
      },
    )

pub returns-then-left-eq0-clause-intake_failure : goal.returns-then-left-eq0-clause-intake_failure
returns-then-left-eq0-clause-intake_failure g c = c.pieces.invariant.1 ∙ sym (or-false _)

pub returns-in-Err-clause-streams : goal.returns-in-Err-clause-streams
returns-in-Err-clause-streams g c = grind (arith, common_steps)

pub returns-in-Err-clause-intake_failure : goal.returns-in-Err-clause-intake_failure
returns-in-Err-clause-intake_failure g c = c.in-Err.ensures.failure ∙ sym (or-true _)

pub returns-then-count-eq0-clause-streams : goal.returns-then-count-eq0-clause-streams
returns-then-count-eq0-clause-streams g c = grind (arith, common_steps)

pub shared_whole_as_front-piece : goal.shared_whole_as_front-piece
shared_whole_as_front-piece g c = grind (arith, common_steps)

pub overflow_sub-left : goal.overflow_sub-left
overflow_sub-left g c = omega (arith, c.take.auto.into, c.in-Ok.ensures.within, c.min-asked.ensures, length-take c.min-asked.result c.pieces.chunk)

pub returns-then-is_err-clause-intake_failure : goal.returns-then-is_err-clause-intake_failure
returns-then-is_err-clause-intake_failure g c = c.in-Ok.ensures.failure ∙ c.pieces.invariant.1 ∙ sym (or-false _)

pub pieces-smaller : goal.pieces-smaller
pieces-smaller g c = omega (arith, c.take.auto.into, c.in-Ok.ensures.within, c.min-asked.ensures, length-take c.min-asked.result c.pieces.chunk, c.if-count-eq0.false)
