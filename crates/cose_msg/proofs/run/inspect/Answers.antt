use Rattle.std.proofs.Common.{sym, ap, ◌∙◌, ◌++◌, arith}
use Rattle.std.proofs.lemmas.Grind.{common_steps}
use Rattle.std.specs.Prelude.{is_err}
use Rattle.cose_msg.specs.Message.{inspecting}
use Rattle.cose_msg.specs.Run.{inspection}
use Rattle.cose_msg.specs.Task.{to_inspect}
use Rattle.cose_msg.specs.Kept.{inspected_in}
use Rattle.cose_msg.proofs.lemmas.Deciding.KeptAnswers.{kept_again, kept_intake, kept_sink, kept_stop, unfailed}
use Rattle.cose_msg.proofs.lemmas.Run.Answered.{alike, inspection_run, kept_inspection_run, kept_inspection_settles, of_any, still, stopped}
use Rattle.cose_msg.proofs.lemmas.Run.Runs.{counted_meaning, so_far_before}
use Rattle.cose_msg.proofs.lemmas.Feeding.Statuses.{left_by_answer, left_by_kept, left_by_stop}
use Rattle.cose_msg.proofs.lemmas.Run.Purposes.{then_same_task, unchanged}
use Rattle.cose_msg.proofs.run.inspect.Goals as goal

pub returns-in-Some-clause-run : goal.returns-in-Some-clause-run
returns-in-Some-clause-run g c = λ setting s B h.
    let kept = sym c.kept_inspection.ensures ∙ c.in-Some.is in
    let d = still _ _ _ h (c.lemma_reading_so_far.ensures.payload (to_inspect setting) B _ _ h.so_far h.came) (c.lemma_reading_so_far.ensures.shows (to_inspect setting) B _ _ h.so_far h.came) (kept_inspection_settles setting c.in-Some.answer h kept).0 in (
      d.taken,
      kept_inspection_run setting c.nothing_stands_after_the_bytes.ensures.inside c.nothing_stands_after_the_bytes.ensures.fair d c.in-Some.answer kept,
      (d.counted, d.shows, left_by_kept _ c.in-Some.answer d.reads_on.0 (c.lemma_reading_so_far.ensures.status (to_inspect setting) _ _ _ d.reads_on.0.so_far d.reads_on.0.came) (kept_inspection_settles setting c.in-Some.answer d.reads_on.0 kept) kept),
    )

pub returns-in-Some-clause-answer : goal.returns-in-Some-clause-answer
returns-in-Some-clause-answer g c = λ setting s B bytes h come.
    let r = returns-in-Some-clause-run g c setting s B h in
    of_any inspection (inspecting g.row.H g.row.D setting) (c.settled_stays.ensures.message (inspecting g.row.H g.row.D setting)) _ _ r.0 bytes r.1 come

pub returns-in-Ok-clause-run : goal.returns-in-Ok-clause-run
returns-in-Ok-clause-run g c = λ setting s B h.
    let d = rw c.in-Ok.is at (c.take_message.ensures.drive (to_inspect setting) s B h) in
    let reads_on = counted_meaning d.reads_on.0 in (
      d.taken,
      inspection_run setting c.nothing_stands_after_the_bytes.ensures.inside c.nothing_stands_after_the_bytes.ensures.fair c.conclude_inspection.result d (c.conclude_inspection.ensures.answer setting _ _ reads_on d.reads_on.0.came) (c.conclude_inspection.ensures.counted setting _ _ reads_on d.reads_on.0.came),
      (c.conclude_inspection.ensures.counts ∙ d.counted, c.conclude_inspection.ensures.shown setting _ _ reads_on d.reads_on.0.came ∙ d.shows, left_by_answer (to_inspect setting) (s ++ d.taken) c.conclude_inspection.new.self (c.conclude_inspection.ensures.status setting _ _ reads_on d.reads_on.0.came d.reads_on.0.goes_on)),
    )

pub returns-in-Ok-clause-answer : goal.returns-in-Ok-clause-answer
returns-in-Ok-clause-answer g c = λ setting s B bytes h come.
    let r = returns-in-Ok-clause-run g c setting s B h in
    of_any inspection (inspecting g.row.H g.row.D setting) (c.settled_stays.ensures.message (inspecting g.row.H g.row.D setting)) _ _ r.0 bytes r.1 come

pub returns-in-Err-clause-run : goal.returns-in-Err-clause-run
returns-in-Err-clause-run g c = λ setting s B h.
    let d = rw c.in-Err.is at (c.take_message.ensures.drive (to_inspect setting) s B h) in
    (d.taken, stopped inspection (inspecting g.row.H g.row.D setting) (alike (inspecting g.row.H g.row.D setting)) c.in-Err.stop d, (d.counted, d.shows, left_by_stop c.take_message.new.verifier (c.take_message.ensures.stopped ∙ ap is_err c.in-Err.is)))

pub returns-in-Err-clause-sure : goal.returns-in-Err-clause-sure
returns-in-Err-clause-sure g c = λ setting s B h enough. rw c.in-Err.is at (c.take_message.ensures.sure (to_inspect setting) s B h enough)

pub returns-in-Some-clause-before : goal.returns-in-Some-clause-before
returns-in-Some-clause-before g c = λ setting s B h. so_far_before g.row.H g.row.D (to_inspect setting) s B (c.lemma_reading_so_far.ensures.payload (to_inspect setting) B _ _ h.so_far h.came)

pub returns-in-Ok-clause-before : goal.returns-in-Ok-clause-before
returns-in-Ok-clause-before g c = λ setting s B h. so_far_before g.row.H g.row.D (to_inspect setting) s B (c.lemma_reading_so_far.ensures.payload (to_inspect setting) B _ _ h.so_far h.came)

pub returns-in-Err-clause-before : goal.returns-in-Err-clause-before
returns-in-Err-clause-before g c = λ setting s B h. so_far_before g.row.H g.row.D (to_inspect setting) s B (c.lemma_reading_so_far.ensures.payload (to_inspect setting) B _ _ h.so_far h.came)

pub returns-in-Some-clause-purpose : goal.returns-in-Some-clause-purpose
returns-in-Some-clause-purpose g c = unchanged c.args.verifier.now

pub returns-in-Ok-clause-purpose : goal.returns-in-Ok-clause-purpose
returns-in-Ok-clause-purpose g c = then_same_task c.take_message.ensures.purpose c.conclude_inspection.ensures.purpose

pub returns-in-Err-clause-purpose : goal.returns-in-Err-clause-purpose
returns-in-Err-clause-purpose g c = c.take_message.ensures.purpose

pub returns-in-Some-clause-kept : goal.returns-in-Some-clause-kept
returns-in-Some-clause-kept g c = kept_again c.args.verifier.now.stopped (inspected_in c.args.verifier.now.reader.phase) c.in-Some.answer (sym c.kept_inspection.ensures ∙ c.in-Some.is)

pub returns-in-Some-clause-again : goal.returns-in-Some-clause-again
returns-in-Some-clause-again g c = grind (arith, common_steps)

pub returns-in-Some-clause-stopped : goal.returns-in-Some-clause-stopped
returns-in-Some-clause-stopped g c = kept_stop c.args.verifier.now.stopped (inspected_in c.args.verifier.now.reader.phase) c.in-Some.answer (sym c.kept_inspection.ensures ∙ c.in-Some.is)

pub returns-in-Some-clause-intake_failure : goal.returns-in-Some-clause-intake_failure
returns-in-Some-clause-intake_failure g c = unfailed _ _ (kept_intake c.args.verifier.now.stopped (inspected_in c.args.verifier.now.reader.phase) c.in-Some.answer (sym c.kept_inspection.ensures ∙ c.in-Some.is))

pub returns-in-Some-clause-sink_failure : goal.returns-in-Some-clause-sink_failure
returns-in-Some-clause-sink_failure g c = unfailed _ _ (kept_sink c.args.verifier.now.stopped (inspected_in c.args.verifier.now.reader.phase) c.in-Some.answer (sym c.kept_inspection.ensures ∙ c.in-Some.is))

pub returns-in-Some-clause-sure : goal.returns-in-Some-clause-sure
returns-in-Some-clause-sure g c = λ setting s B h enough. kept_sink c.args.verifier.now.stopped (inspected_in c.args.verifier.now.reader.phase) c.in-Some.answer (sym c.kept_inspection.ensures ∙ c.in-Some.is)

pub returns-in-Ok-clause-kept : goal.returns-in-Ok-clause-kept
returns-in-Ok-clause-kept g c = grind (arith, common_steps)

pub returns-in-Ok-clause-again : goal.returns-in-Ok-clause-again
returns-in-Ok-clause-again g c = grind (arith, common_steps)

pub returns-in-Ok-clause-stopped : goal.returns-in-Ok-clause-stopped
returns-in-Ok-clause-stopped g c = grind (arith, common_steps)

pub returns-in-Ok-clause-intake_failure : goal.returns-in-Ok-clause-intake_failure
returns-in-Ok-clause-intake_failure g c = grind (arith, common_steps)

pub returns-in-Ok-clause-sink_failure : goal.returns-in-Ok-clause-sink_failure
returns-in-Ok-clause-sink_failure g c = grind (arith, common_steps)

pub returns-in-Ok-clause-sure : goal.returns-in-Ok-clause-sure
returns-in-Ok-clause-sure g c = grind (arith, common_steps)

pub returns-in-Err-clause-answer : goal.returns-in-Err-clause-answer
returns-in-Err-clause-answer g c = grind (arith, common_steps)

pub returns-in-Err-clause-kept : goal.returns-in-Err-clause-kept
returns-in-Err-clause-kept g c = grind (arith, common_steps)

pub returns-in-Err-clause-again : goal.returns-in-Err-clause-again
returns-in-Err-clause-again g c = grind (arith, common_steps)

pub returns-in-Err-clause-stopped : goal.returns-in-Err-clause-stopped
returns-in-Err-clause-stopped g c = grind (arith, common_steps)

pub returns-in-Err-clause-intake_failure : goal.returns-in-Err-clause-intake_failure
returns-in-Err-clause-intake_failure g c = grind (arith, common_steps)

pub returns-in-Err-clause-sink_failure : goal.returns-in-Err-clause-sink_failure
returns-in-Err-clause-sink_failure g c = grind (arith, common_steps)
