use Rattle.std.proofs.Common.{◌++◌, inl, refl, sym, ap, ◌∙◌, arith}
use Rattle.std.proofs.lemmas.Grind.{common_steps}
use Rattle.std.specs.Prelude.{is_err}
use Rattle.cose_msg.specs.Kept.{verdict_in}
use Rattle.cose_msg.specs.Message.{given}
use Rattle.cose_msg.specs.Task.{to_verify}
use Rattle.cose_msg.proofs.lemmas.Run.Answered.{kept_verdict_settles, still}
use Rattle.cose_msg.proofs.lemmas.Detached.BothAnswered.{done_wants_none, is_of_detached, kept_on_both, of_both, stopped_on_both, verdict_on_both}
use Rattle.cose_msg.proofs.lemmas.Detached.BothTaken.{none_awaited}
use Rattle.cose_msg.proofs.lemmas.Deciding.KeptAnswers.{kept_again, kept_intake, kept_sink, kept_stop, unfailed}
use Rattle.cose_msg.proofs.lemmas.Run.Purposes.{then_same_task, unchanged}
use Rattle.cose_msg.proofs.lemmas.Run.Runs.{counted_meaning, so_far_before}
use Rattle.cose_msg.proofs.lemmas.Feeding.Statuses.{left_by_answer, left_by_kept, left_by_stop}
use Rattle.cose_msg.proofs.run.detached.verify_detached.Goals as goal

pub returns-in-Some-clause-run : goal.returns-in-Some-clause-run
returns-in-Some-clause-run g c = λ setting s B h.
    let kept = sym c.kept_answer.ensures ∙ c.in-Some.is in
    let done = kept_verdict_settles c.in-Some.answer h kept in
    let d = still _ _ _ h (c.lemma_reading_so_far.ensures.payload (to_verify setting) B _ _ h.so_far h.came) (c.lemma_reading_so_far.ensures.shows (to_verify setting) B _ _ h.so_far h.came) done.0 in
    let none = done_wants_none g.row.H g.row.D (to_verify setting) (s ++ d.taken) (kept_verdict_settles c.in-Some.answer d.reads_on.0 kept) in
    let t = none_awaited h.came (is_of_detached h c.requires.detached) _ _ d none in (
      t.taken,
      t.came,
      kept_on_both c.deciding_goes_last.ensures.verifying c.nothing_stands_after_the_bytes.ensures.inside c.nothing_stands_after_the_bytes.ensures.fair (g.E.EcVerifier.decides c.args.ec.now) t c.in-Some.answer kept,
      (t.counted, t.shows, left_by_kept _ c.in-Some.answer t.reads_on.0 (c.lemma_reading_so_far.ensures.status _ _ _ _ t.reads_on.0.so_far t.reads_on.0.came) (kept_verdict_settles c.in-Some.answer t.reads_on.0 kept) kept),
    )

pub returns-in-Some-clause-answer : goal.returns-in-Some-clause-answer
returns-in-Some-clause-answer g c = λ setting s B bytes more h come beside.
    let r = returns-in-Some-clause-run g c setting s B h in
    of_both c.settled_stays.ensures.message c.payload_stays.ensures.complete g.row.H g.row.D setting (g.E.EcVerifier.decides c.args.ec.now) _ _ _ r.0 r.1 bytes more r.2 come beside

pub returns-in-Some-clause-before : goal.returns-in-Some-clause-before
returns-in-Some-clause-before g c = λ setting s B h. so_far_before g.row.H g.row.D (to_verify setting) s B (c.lemma_reading_so_far.ensures.payload (to_verify setting) B _ _ h.so_far h.came)

pub returns-in-Some-clause-kept : goal.returns-in-Some-clause-kept
returns-in-Some-clause-kept g c = kept_again c.args.verifier.now.stopped (verdict_in c.args.verifier.now.reader.phase) c.in-Some.answer (sym c.kept_answer.ensures ∙ c.in-Some.is)

pub returns-in-Some-clause-stopped : goal.returns-in-Some-clause-stopped
returns-in-Some-clause-stopped g c = kept_stop c.args.verifier.now.stopped (verdict_in c.args.verifier.now.reader.phase) c.in-Some.answer (sym c.kept_answer.ensures ∙ c.in-Some.is)

pub returns-in-Some-clause-purpose : goal.returns-in-Some-clause-purpose
returns-in-Some-clause-purpose g c = unchanged c.args.verifier.now

pub returns-in-Ok-clause-run : goal.returns-in-Ok-clause-run
returns-in-Ok-clause-run g c = λ setting s B h.
    let t = rw c.in-Ok.is at (c.take_detached.ensures.takes (to_verify setting) s B h) in
    let reads_on = counted_meaning t.reads_on.0 in (
      t.taken,
      t.came,
      verdict_on_both c.deciding_goes_last.ensures.verifying c.nothing_stands_after_the_bytes.ensures.inside c.nothing_stands_after_the_bytes.ensures.fair (g.E.EcVerifier.decides c.args.ec.now) c.conclude.result t (c.conclude.ensures.answer _ _ _ reads_on t.reads_on.0.came) (c.conclude.ensures.counted _ _ _ reads_on t.reads_on.0.came),
      (c.conclude.ensures.counts ∙ t.counted, c.conclude.ensures.shown ∙ t.shows, left_by_answer (to_verify (given (B ++ t.came) setting)) (s ++ t.taken) c.conclude.new.self (c.conclude.ensures.status _ _ _ reads_on t.reads_on.0.came t.reads_on.0.goes_on)),
    )

pub returns-in-Ok-clause-answer : goal.returns-in-Ok-clause-answer
returns-in-Ok-clause-answer g c = λ setting s B bytes more h come beside.
    let r = returns-in-Ok-clause-run g c setting s B h in
    of_both c.settled_stays.ensures.message c.payload_stays.ensures.complete g.row.H g.row.D setting (g.E.EcVerifier.decides c.args.ec.now) _ _ _ r.0 r.1 bytes more r.2 come beside

pub returns-in-Ok-clause-before : goal.returns-in-Ok-clause-before
returns-in-Ok-clause-before g c = λ setting s B h. so_far_before g.row.H g.row.D (to_verify setting) s B (c.lemma_reading_so_far.ensures.payload (to_verify setting) B _ _ h.so_far h.came)

pub returns-in-Ok-clause-purpose : goal.returns-in-Ok-clause-purpose
returns-in-Ok-clause-purpose g c = then_same_task c.take_detached.ensures.purpose c.conclude.ensures.purpose

pub returns-in-Err-clause-run : goal.returns-in-Err-clause-run
returns-in-Err-clause-run g c = λ setting s B h.
    let t = rw c.in-Err.is at (c.take_detached.ensures.takes (to_verify setting) s B h) in
    (t.taken, t.came, stopped_on_both c.deciding_goes_last.ensures.verifying (g.E.EcVerifier.decides c.args.ec.now) c.in-Err.stop t, (t.counted, t.shows, left_by_stop c.take_detached.new.verifier (c.take_detached.ensures.stopped ∙ ap is_err c.in-Err.is)))

pub returns-in-Err-clause-answer : goal.returns-in-Err-clause-answer
returns-in-Err-clause-answer g c = λ setting s B bytes more h come beside. tt

pub returns-in-Err-clause-before : goal.returns-in-Err-clause-before
returns-in-Err-clause-before g c = λ setting s B h. so_far_before g.row.H g.row.D (to_verify setting) s B (c.lemma_reading_so_far.ensures.payload (to_verify setting) B _ _ h.so_far h.came)

pub returns-in-Err-clause-purpose : goal.returns-in-Err-clause-purpose
returns-in-Err-clause-purpose g c = c.take_detached.ensures.purpose

pub returns-in-Err-clause-sure : goal.returns-in-Err-clause-sure
returns-in-Err-clause-sure g c = λ setting s B h enough. rw c.in-Err.is at (c.take_detached.ensures.sure (to_verify setting) s B h enough)

pub returns-in-Some-clause-again : goal.returns-in-Some-clause-again
returns-in-Some-clause-again g c = grind (arith, common_steps)

pub returns-in-Ok-clause-kept : goal.returns-in-Ok-clause-kept
returns-in-Ok-clause-kept g c = grind (arith, common_steps)

pub returns-in-Ok-clause-again : goal.returns-in-Ok-clause-again
returns-in-Ok-clause-again g c = grind (arith, common_steps)

pub returns-in-Ok-clause-stopped : goal.returns-in-Ok-clause-stopped
returns-in-Ok-clause-stopped g c = grind (arith, common_steps)

pub returns-in-Ok-clause-sink_failure : goal.returns-in-Ok-clause-sink_failure
returns-in-Ok-clause-sink_failure g c = grind (arith, common_steps)

pub returns-in-Ok-clause-sure : goal.returns-in-Ok-clause-sure
returns-in-Ok-clause-sure g c = grind (arith, common_steps)

pub returns-in-Err-clause-kept : goal.returns-in-Err-clause-kept
returns-in-Err-clause-kept g c = grind (arith, common_steps)

pub returns-in-Err-clause-again : goal.returns-in-Err-clause-again
returns-in-Err-clause-again g c = grind (arith, common_steps)

pub returns-in-Err-clause-stopped : goal.returns-in-Err-clause-stopped
returns-in-Err-clause-stopped g c = grind (arith, common_steps)

pub returns-in-Err-clause-sink_failure : goal.returns-in-Err-clause-sink_failure
returns-in-Err-clause-sink_failure g c = grind (arith, common_steps)

pub returns-in-Some-clause-intake_failure : goal.returns-in-Some-clause-intake_failure
returns-in-Some-clause-intake_failure g c = inl (unfailed _ _ (kept_intake c.args.verifier.now.stopped (verdict_in c.args.verifier.now.reader.phase) c.in-Some.answer (sym c.kept_answer.ensures ∙ c.in-Some.is)), refl)

pub returns-in-Some-clause-sink_failure : goal.returns-in-Some-clause-sink_failure
returns-in-Some-clause-sink_failure g c = unfailed _ _ (kept_sink c.args.verifier.now.stopped (verdict_in c.args.verifier.now.reader.phase) c.in-Some.answer (sym c.kept_answer.ensures ∙ c.in-Some.is))

pub returns-in-Some-clause-sure : goal.returns-in-Some-clause-sure
returns-in-Some-clause-sure g c = λ setting s B h enough. kept_sink c.args.verifier.now.stopped (verdict_in c.args.verifier.now.reader.phase) c.in-Some.answer (sym c.kept_answer.ensures ∙ c.in-Some.is)

pub returns-in-Ok-clause-intake_failure : goal.returns-in-Ok-clause-intake_failure
returns-in-Ok-clause-intake_failure g c = c.in-Ok.ensures.intake_failure

pub returns-in-Err-clause-intake_failure : goal.returns-in-Err-clause-intake_failure
returns-in-Err-clause-intake_failure g c = c.in-Err.ensures.intake_failure
