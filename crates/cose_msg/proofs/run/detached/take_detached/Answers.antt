use Rattle.std.proofs.Common.{◌≡◌, ◌<◌, ◌||◌, ◌++◌, Bool, false, inl, inr, refl, sym, ap, ◌∙◌, arith}
use Rattle.std.proofs.lemmas.Result.{err_from_is_err_and}
use Rattle.cose_msg.specs.Message.{message}
use Rattle.cose_msg.specs.Run.{stop_in}
use Rattle.cose_msg.specs.Status.{payload_wanted_in}
use Rattle.cose_msg.specs.Task.{given_to, rules_of}
use Rattle.cose_msg.proofs.lemmas.Detached.BothAnswered.{is_of_detached}
use Rattle.cose_msg.proofs.lemmas.Detached.BothTaken.{all_there, detached_given, ended_in_payload, none_awaited, settled_awaiting, stopped_before_nil, stopped_in_payload, taken_alone, took_or_stopped}
use Rattle.cose_msg.proofs.lemmas.Deciding.KeptAnswers.{then_failed, unfailed}
use Rattle.std.proofs.lemmas.Bool.{false≢true}
use Rattle.std.specs.Prelude.{is_err}
use Rattle.cose_msg.proofs.run.detached.take_detached.Goals as goal

-- A call that stopped for nothing.
same : (old new : Bool) → new ≡ (old || false) → new ≡ old
same old new e = e ∙ sym (unfailed old false refl)

pub returns-in_err-take_message-clause-takes : goal.returns-in_err-take_message-clause-takes
returns-in_err-take_message-clause-takes g c = λ task s B h.
    let detached = is_of_detached h c.requires.detached in
    let p = err_from_is_err_and c.from_residual.result c.from_residual.ensures.1 in
    rw (p.1, p.2) (stopped_before_nil h.came detached _ _ _ (c.in_err-take_message.ensures.drive task s B h))

pub returns-in_err-take_message-clause-purpose : goal.returns-in_err-take_message-clause-purpose
returns-in_err-take_message-clause-purpose g c = c.take_message.ensures.purpose

pub returns-in_err-take_message-clause-sure : goal.returns-in_err-take_message-clause-sure
returns-in_err-take_message-clause-sure g c = λ task s B h enough.
    let detached = is_of_detached h c.requires.detached in
    let p = err_from_is_err_and c.from_residual.result c.from_residual.ensures.1 in
    rw (p.1, p.2) (c.in_err-take_message.ensures.beside task s B h detached).0

pub returns-then-payload_wanted-eq0-clause-takes : goal.returns-then-payload_wanted-eq0-clause-takes
returns-then-payload_wanted-eq0-clause-takes g c = λ task s B h.
    let detached = is_of_detached h c.requires.detached in
    let d = c.in_ok-take_message.ensures.drive task s B h in
    none_awaited h.came detached _ _ d (sym (c.payload_wanted.ensures.reads task _ _ d.reads_on.0) ∙ omega (arith, c.if-payload_wanted-eq0.true))

pub returns-then-payload_wanted-eq0-clause-purpose : goal.returns-then-payload_wanted-eq0-clause-purpose
returns-then-payload_wanted-eq0-clause-purpose g c = c.take_message.ensures.purpose

pub returns-in_err-take_payload-clause-takes : goal.returns-in_err-take_payload-clause-takes
returns-in_err-take_payload-clause-takes g c = λ task s B h.
    let detached = is_of_detached h c.requires.detached in
    let p = err_from_is_err_and c.from_residual-in_err-take_payload.result c.from_residual-in_err-take_payload.ensures.1 in
    let d = c.in_ok-take_message.ensures.drive task s B h in
    rw (p.1, p.2) (stopped_in_payload c.payload_stays.ensures.unsettled h.came detached d _ (c.in_err-take_payload.ensures.brings task _ B (taken_alone (d.beside detached) d.reads_on.0)))

pub returns-in_err-take_payload-clause-purpose : goal.returns-in_err-take_payload-clause-purpose
returns-in_err-take_payload-clause-purpose g c =
    record {
      inspects = c.take_payload.ensures.purpose.inspects ∙ c.take_message.ensures.purpose.inspects;
      detached = c.take_payload.ensures.purpose.detached ∙ c.take_message.ensures.purpose.detached;
      context = λ h. (let d = c.in_ok-take_message.ensures.drive _ _ _ h in c.take_payload.ensures.purpose.context (taken_alone (d.beside (is_of_detached h c.requires.detached)) d.reads_on.0) ∙ c.take_message.ensures.purpose.context h);
    }

pub returns-in_err-take_payload-clause-sure : goal.returns-in_err-take_payload-clause-sure
returns-in_err-take_payload-clause-sure g c = λ task s B h enough.
    let detached = is_of_detached h c.requires.detached in
    let p = err_from_is_err_and c.from_residual-in_err-take_payload.result c.from_residual-in_err-take_payload.ensures.1 in
    let d = c.in_ok-take_message.ensures.drive task s B h in
    let later = (c.in_ok-take_message.ensures.beside task s B h detached).1 in
    rw (p.1, p.2) (c.in_err-take_payload.ensures.sure task _ B (taken_alone (d.beside detached) d.reads_on.0) (omega (arith, enough, later)))

pub returns-then-payload_wanted-gt0-clause-takes : goal.returns-then-payload_wanted-gt0-clause-takes
returns-then-payload_wanted-gt0-clause-takes g c = λ task s B h.
    let detached = is_of_detached h c.requires.detached in
    let d = c.in_ok-take_message.ensures.drive task s B h in
    let alone = taken_alone (d.beside detached) d.reads_on.0 in
    let b = c.in_ok-take_payload.ensures.brings task _ B alone in
    let wanted : 0 < payload_wanted_in c.take_message.new.verifier = omega (arith, c.if-payload_wanted-eq0.false, c.payload_wanted.ensures.value) in
    let wanted_then : 0 < payload_wanted_in c.take_payload.new.verifier = omega (arith, c.if-payload_wanted-gt0.true, c.payload_wanted-2.ensures.value) in
    ended_in_payload c.payload_stays.ensures.unsettled h.came detached d b (settled_awaiting alone (c.lemma_reading_so_far.ensures.settled task _ _ _ alone.so_far alone.came) wanted)
    (settled_awaiting b.reads_on.0 (c.lemma_reading_so_far-2.ensures.settled _ _ _ _ b.reads_on.0.so_far b.reads_on.0.came) wanted_then)

pub returns-then-payload_wanted-gt0-clause-purpose : goal.returns-then-payload_wanted-gt0-clause-purpose
returns-then-payload_wanted-gt0-clause-purpose g c =
    record {
      inspects = c.take_payload.ensures.purpose.inspects ∙ c.take_message.ensures.purpose.inspects;
      detached = c.take_payload.ensures.purpose.detached ∙ c.take_message.ensures.purpose.detached;
      context = λ h. (let d = c.in_ok-take_message.ensures.drive _ _ _ h in c.take_payload.ensures.purpose.context (taken_alone (d.beside (is_of_detached h c.requires.detached)) d.reads_on.0) ∙ c.take_message.ensures.purpose.context h);
    }

pub returns-clause-takes : goal.returns-clause-takes
returns-clause-takes g c = λ task s B h.
    let detached = is_of_detached h c.requires.detached in
    let d = c.in_ok-take_message.ensures.drive task s B h in
    let alone = taken_alone (d.beside detached) d.reads_on.0 in
    let b = c.in_ok-take_payload.ensures.brings task _ B alone in
    let none : (message (rules_of g.row.H g.row.D (given_to (B ++ b.came) task)) (s ++ d.taken)).payload_wanted ≡ 0 = sym (c.payload_wanted-2.ensures.reads _ _ _ b.reads_on.0) ∙ omega (arith, c.if-payload_wanted-gt0.false) in
    let there = b.reads_on.2 none in
    took_or_stopped c.payload_stays.ensures.unsettled h.came detached d b there.0 (detached_given (B ++ b.came) task detached) (stop_in c.take_message-result.result)
    (λ r. let now = taken_alone (r.beside (detached_given (B ++ b.came) task detached)) r.reads_on.0 in all_there now (c.lemma_reading_so_far-3.ensures.payload_wanted _ _ _ _ now.so_far now.came) there.1) none
    (c.take_message-result.ensures.drive _ _ _ b.reads_on.0)

pub returns-clause-purpose : goal.returns-clause-purpose
returns-clause-purpose g c =
    record {
      inspects = c.take_message-result.ensures.purpose.inspects ∙ c.take_payload.ensures.purpose.inspects ∙ c.take_message.ensures.purpose.inspects;
      detached = c.take_message-result.ensures.purpose.detached ∙ c.take_payload.ensures.purpose.detached ∙ c.take_message.ensures.purpose.detached;
      context = λ h. (
          let d = c.in_ok-take_message.ensures.drive _ _ _ h in
          let alone = taken_alone (d.beside (is_of_detached h c.requires.detached)) d.reads_on.0 in
          let b = c.in_ok-take_payload.ensures.brings _ _ _ alone in
          c.take_message-result.ensures.purpose.context b.reads_on.0 ∙ c.take_payload.ensures.purpose.context alone ∙ c.take_message.ensures.purpose.context h);
    }

pub returns-clause-sure : goal.returns-clause-sure
returns-clause-sure g c = λ task s B h enough.
    let detached = is_of_detached h c.requires.detached in
    let d = c.in_ok-take_message.ensures.drive task s B h in
    let b = c.in_ok-take_payload.ensures.brings task _ B (taken_alone (d.beside detached) d.reads_on.0) in
    (c.take_message-result.ensures.beside _ _ _ b.reads_on.0 (detached_given (B ++ b.came) task detached)).0

pub returns-in_err-take_message-clause-stopped : goal.returns-in_err-take_message-clause-stopped
returns-in_err-take_message-clause-stopped g c = let p = err_from_is_err_and c.from_residual.result c.from_residual.ensures.1 in rw p.1 c.in_err-take_message.ensures.stopped

pub returns-in_err-take_message-clause-once : goal.returns-in_err-take_message-clause-once
returns-in_err-take_message-clause-once g c = let p = err_from_is_err_and c.from_residual.result c.from_residual.ensures.1 in rw (p.1, p.2) c.in_err-take_message.ensures.once

pub returns-then-payload_wanted-eq0-clause-once : goal.returns-then-payload_wanted-eq0-clause-once
returns-then-payload_wanted-eq0-clause-once g c = λ e. false≢true (ap is_err e)

pub returns-then-payload_wanted-eq0-clause-sure : goal.returns-then-payload_wanted-eq0-clause-sure
returns-then-payload_wanted-eq0-clause-sure g c = λ task s B h enough. refl

pub returns-in_err-take_payload-clause-stopped : goal.returns-in_err-take_payload-clause-stopped
returns-in_err-take_payload-clause-stopped g c = let p = err_from_is_err_and c.from_residual-in_err-take_payload.result c.from_residual-in_err-take_payload.ensures.1 in rw p.1 c.in_err-take_payload.ensures.stopped

pub returns-in_err-take_payload-clause-once : goal.returns-in_err-take_payload-clause-once
returns-in_err-take_payload-clause-once g c = let p = err_from_is_err_and c.from_residual-in_err-take_payload.result c.from_residual-in_err-take_payload.ensures.1 in rw (p.1, p.2) c.in_err-take_payload.ensures.once

pub returns-then-payload_wanted-gt0-clause-once : goal.returns-then-payload_wanted-gt0-clause-once
returns-then-payload_wanted-gt0-clause-once g c = λ e. false≢true (ap is_err e)

pub returns-then-payload_wanted-gt0-clause-sure : goal.returns-then-payload_wanted-gt0-clause-sure
returns-then-payload_wanted-gt0-clause-sure g c = λ task s B h enough. refl

pub returns-clause-stopped : goal.returns-clause-stopped
returns-clause-stopped g c = c.take_message-result.ensures.stopped

pub returns-clause-once : goal.returns-clause-once
returns-clause-once g c = c.take_message-result.ensures.once

pub returns-in_err-take_message-clause-intake_failure : goal.returns-in_err-take_message-clause-intake_failure
returns-in_err-take_message-clause-intake_failure g c = let p = err_from_is_err_and c.from_residual.result c.from_residual.ensures.1 in rw (p.1, p.2) (inl (c.in_err-take_message.ensures.intake_failure, refl))

pub returns-in_err-take_message-clause-sink_failure : goal.returns-in_err-take_message-clause-sink_failure
returns-in_err-take_message-clause-sink_failure g c = let p = err_from_is_err_and c.from_residual.result c.from_residual.ensures.1 in rw (p.1, p.2) c.in_err-take_message.ensures.sink_failure

pub returns-then-payload_wanted-eq0-clause-stopped : goal.returns-then-payload_wanted-eq0-clause-stopped
returns-then-payload_wanted-eq0-clause-stopped g c = c.in_ok-take_message.ensures.stopped

pub returns-then-payload_wanted-eq0-clause-intake_failure : goal.returns-then-payload_wanted-eq0-clause-intake_failure
returns-then-payload_wanted-eq0-clause-intake_failure g c = inl (c.in_ok-take_message.ensures.intake_failure, refl)

pub returns-then-payload_wanted-eq0-clause-sink_failure : goal.returns-then-payload_wanted-eq0-clause-sink_failure
returns-then-payload_wanted-eq0-clause-sink_failure g c = c.in_ok-take_message.ensures.sink_failure

pub returns-in_err-take_payload-clause-intake_failure : goal.returns-in_err-take_payload-clause-intake_failure
returns-in_err-take_payload-clause-intake_failure g c = let p = err_from_is_err_and c.from_residual-in_err-take_payload.result c.from_residual-in_err-take_payload.ensures.1 in rw (p.1, p.2) (inr (same _ _ c.in_ok-take_message.ensures.intake_failure, c.in_err-take_payload.ensures.payload_failure))

pub returns-in_err-take_payload-clause-sink_failure : goal.returns-in_err-take_payload-clause-sink_failure
returns-in_err-take_payload-clause-sink_failure g c = let p = err_from_is_err_and c.from_residual-in_err-take_payload.result c.from_residual-in_err-take_payload.ensures.1 in rw (p.1, p.2) (then_failed _ _ _ _ (same _ _ c.in_ok-take_message.ensures.sink_failure) c.in_err-take_payload.ensures.sink_failure)

pub returns-then-payload_wanted-gt0-clause-stopped : goal.returns-then-payload_wanted-gt0-clause-stopped
returns-then-payload_wanted-gt0-clause-stopped g c = c.in_ok-take_payload.ensures.stopped

pub returns-then-payload_wanted-gt0-clause-intake_failure : goal.returns-then-payload_wanted-gt0-clause-intake_failure
returns-then-payload_wanted-gt0-clause-intake_failure g c = inr (same _ _ c.in_ok-take_message.ensures.intake_failure, c.in_ok-take_payload.ensures.payload_failure)

pub returns-then-payload_wanted-gt0-clause-sink_failure : goal.returns-then-payload_wanted-gt0-clause-sink_failure
returns-then-payload_wanted-gt0-clause-sink_failure g c = then_failed _ _ _ _ (same _ _ c.in_ok-take_message.ensures.sink_failure) c.in_ok-take_payload.ensures.sink_failure

pub returns-clause-intake_failure : goal.returns-clause-intake_failure
returns-clause-intake_failure g c = inl (then_failed _ _ _ _ (same _ _ c.in_ok-take_message.ensures.intake_failure) c.take_message-result.ensures.intake_failure, same _ _ c.in_ok-take_payload.ensures.payload_failure)

pub returns-clause-sink_failure : goal.returns-clause-sink_failure
returns-clause-sink_failure g c = then_failed _ _ _ _ (same _ _ (then_failed _ _ _ false (same _ _ c.in_ok-take_message.ensures.sink_failure) c.in_ok-take_payload.ensures.sink_failure)) c.take_message-result.ensures.sink_failure
