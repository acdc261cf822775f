use Rattle.std.proofs.Common.{◌≡◌, ℕ, ◌+◌, ◌<◌, ◌≤◌, List, ◌++◌, length, take, drop, refl, sym, ◌∙◌, arith, length-append, ap}
use Rattle.std.proofs.Math.Bool.{or-true}
use Rattle.std.proofs.lemmas.Grind.{common_steps}
use Rattle.std.proofs.lemmas.List.{length-drop, length-take}
use Rattle.std.proofs.KnownBytes.{Consumes-nil}
use Rattle.cose_msg.specs.Kept.{SamePurpose}
use Rattle.cose_msg.specs.Status.{payload_wanted_in}
use Rattle.cose_msg.specs.Task.{rules_of}
use Rattle.cose_msg.proofs.lemmas.Detached.PayloadRuns.{brings_more, brings_nothing, brings_until, brought, came_next, payload_is_sure, wanted_is_open, within_more, keeps_setting, whole_piece}
use Rattle.cose_msg.proofs.lemmas.Deciding.KeptAnswers.{unfailed}
use Rattle.cose_msg.proofs.lemmas.Run.PayloadLimit.{payload_within}
use Rattle.cose_msg.proofs.lemmas.Run.Purposes.{then_same_task}
use Rattle.cose_msg.proofs.lemmas.Run.Runs.{AppendsFront-then, first_of, is_done, marks_fault, marks_nothing, not_at_end, promise_kept, put_done, put_failed, taken_before_failure}
use Rattle.std.proofs.KnownBytes.{Consumes-trans}
use Rattle.cose_msg.proofs.lemmas.Feeding.Statuses.{open_goes_on}
use Rattle.std.proofs.lemmas.Bool.{false≢true, true≢false}
use Rattle.std.specs.Prelude.{is_err}
use Rattle.cose_msg.specs.Run.{stops_for_intake, stops_for_sink}
use Rattle.cose_msg.proofs.run.detached.take_payload.Goals as goal

pub pieces-init : goal.pieces-init
pieces-init g c =
    let going = wanted_is_open c.args.verifier.now c.requires.wanted in
    (λ task s B h. brings_nothing _ _ _ _ c.requires.wanted h, going.0, going.1, refl, refl, refl, refl, refl)

pub returns-then-asked-eq0-clause-brings : goal.returns-then-asked-eq0-clause-brings
returns-then-asked-eq0-clause-brings g c = λ task s B h.
    let a = c.pieces.invariant.0 task s B h in
    let none : payload_wanted_in c.pieces.verifier ≡ 0 = omega (arith, c.if-asked-eq0.true, c.min-asked.ensures, c.payload_wanted.ensures.value, c.pieces.invariant.7, c.requires.some) in
    brought a (Consumes-nil _)
    (record { so_far = c.lemma_reading_so_far.ensures.payload _ _ _ _ a.reads_on.so_far a.reads_on.came; shown = c.lemma_reading_so_far.ensures.shows _ _ _ _ a.reads_on.so_far a.reads_on.came; status = c.lemma_reading_so_far.ensures.status _ _ _ _ a.reads_on.so_far a.reads_on.came; wanted = c.lemma_reading_so_far.ensures.payload_wanted _ _ _ _ a.reads_on.so_far a.reads_on.came })
    c.pieces.invariant.2 (λ some. absurd (omega (arith, some, none))) (λ zero. a.not_ended)

pub returns-then-asked-eq0-clause-purpose : goal.returns-then-asked-eq0-clause-purpose
returns-then-asked-eq0-clause-purpose g c = record { inspects = c.pieces.invariant.3; detached = c.pieces.invariant.4; context = λ h. keeps_setting _ (c.pieces.invariant.0 _ _ _ h).reads_on h }

pub returns-in-Err-clause-brings : goal.returns-in-Err-clause-brings
returns-in-Err-clause-brings g c = λ task s B h.
    let a = c.pieces.invariant.0 task s B h in
    brings_until _ a.came (taken_before_failure _ _ _ a.came a.bytes c.in-Err.ensures.bytes) a.within a.reads_on
    (record { so_far = c.lemma_reading_so_far.ensures.payload _ _ _ _ a.reads_on.so_far a.reads_on.came; shown = c.lemma_reading_so_far.ensures.shows _ _ _ _ a.reads_on.so_far a.reads_on.came; status = c.lemma_reading_so_far.ensures.status _ _ _ _ a.reads_on.so_far a.reads_on.came; wanted = c.lemma_reading_so_far.ensures.payload_wanted _ _ _ _ a.reads_on.so_far a.reads_on.came })
    c.pieces.invariant.2 a.payload c.stop.ensures.taken c.stop.ensures.shown

pub returns-in-Err-clause-purpose : goal.returns-in-Err-clause-purpose
returns-in-Err-clause-purpose g c =
    let purpose : SamePurpose c.args.verifier.now c.pieces.verifier = record { inspects = c.pieces.invariant.3; detached = c.pieces.invariant.4; context = λ h. keeps_setting _ (c.pieces.invariant.0 _ _ _ h).reads_on h } in
    then_same_task purpose c.stop.ensures.purpose

pub returns-then-count-eq0-clause-brings : goal.returns-then-count-eq0-clause-brings
returns-then-count-eq0-clause-brings g c = λ task s B h.
    let a = c.pieces.invariant.0 task s B h in
    let some : 0 < payload_wanted_in c.pieces.verifier = omega (arith, c.if-asked-eq0.false, c.min-asked.ensures, c.payload_wanted.ensures.value) in
    let none : c.in-Ok.count ≡ 0 = omega (arith, c.if-count-eq0.true) in
    let took = rw none at c.in-Ok.ensures.bytes in
    let ended = rw none at c.in-Ok.ensures.end in
    brought a took.0
    (record { so_far = c.lemma_reading_so_far.ensures.payload _ _ _ _ a.reads_on.so_far a.reads_on.came; shown = c.lemma_reading_so_far.ensures.shows _ _ _ _ a.reads_on.so_far a.reads_on.came; status = c.lemma_reading_so_far.ensures.status _ _ _ _ a.reads_on.so_far a.reads_on.came; wanted = c.lemma_reading_so_far.ensures.payload_wanted _ _ _ _ a.reads_on.so_far a.reads_on.came })
    c.pieces.invariant.2 (λ wanted. (ended, took.1 refl)) (λ zero. absurd (omega (arith, some, zero)))

pub returns-then-count-eq0-clause-purpose : goal.returns-then-count-eq0-clause-purpose
returns-then-count-eq0-clause-purpose g c = record { inspects = c.pieces.invariant.3; detached = c.pieces.invariant.4; context = λ h. keeps_setting _ (c.pieces.invariant.0 _ _ _ h).reads_on h }

pub returns-then-is_err-clause-brings : goal.returns-then-is_err-clause-brings
returns-then-is_err-clause-brings g c = λ task s B h.
    let a = c.pieces.invariant.0 task s B h in
    let piece : List ℕ = take c.in-Ok.count (c.take.new.into ++ drop c.min-asked.result c.pieces.chunk) in
    let size : length piece ≡ c.in-Ok.count = omega (arith, c.in-Ok.ensures.within, length-take c.in-Ok.count (c.take.new.into ++ drop c.min-asked.result c.pieces.chunk), length-append c.take.new.into (drop c.min-asked.result c.pieces.chunk)) in
    let some : 0 < length piece = omega (arith, size, c.if-count-eq0.false) in
    let fits : length piece ≤ payload_wanted_in c.pieces.verifier = omega (arith, size, c.in-Ok.ensures.within, c.take.auto.into, c.min-asked.ensures, c.payload_wanted.ensures.value, length-take c.min-asked.result c.pieces.chunk) in
    let reads_on = came_next a piece c.feed_payload.result (whole_piece c.feed_payload.ensures.uses fits) (c.feed_payload.ensures.taken _ _ _ a.reads_on) in
    brings_until _ (a.came ++ piece) (Consumes-trans _ _ _ a.came piece a.bytes (first_of _ _ c.in-Ok.count c.take.new.into _ c.in-Ok.ensures.within c.in-Ok.ensures.bytes.0)) (within_more a piece some fits) reads_on
    (record { so_far = c.lemma_reading_so_far-in-pieces.ensures.payload _ _ _ _ reads_on.so_far reads_on.came; shown = c.lemma_reading_so_far-in-pieces.ensures.shows _ _ _ _ reads_on.so_far reads_on.came; status = c.lemma_reading_so_far-in-pieces.ensures.status _ _ _ _ reads_on.so_far reads_on.came; wanted = c.lemma_reading_so_far-in-pieces.ensures.payload_wanted _ _ _ _ reads_on.so_far reads_on.came })
    c.feed_payload.ensures.further (AppendsFront-then _ _ _ a.came piece a.payload (put_failed _ _ _ c.put.result (sym c.is_err.ensures.value ∙ c.if-is_err.true) c.put.ensures.bytes))
    c.stop-then-is_err.ensures.taken c.stop-then-is_err.ensures.shown

pub returns-then-is_err-clause-purpose : goal.returns-then-is_err-clause-purpose
returns-then-is_err-clause-purpose g c =
    let taken : SamePurpose c.args.verifier.now c.feed_payload.new.self = record {
      inspects = c.feed_payload.ensures.purpose.inspects ∙ c.pieces.invariant.3;
      detached = c.feed_payload.ensures.purpose.detached ∙ c.pieces.invariant.4;
      context = λ h. (let a = c.pieces.invariant.0 _ _ _ h in c.feed_payload.ensures.purpose.context a.reads_on ∙ keeps_setting _ a.reads_on h);
    } in
    then_same_task taken c.stop-then-is_err.ensures.purpose

pub returns-then-is_err-clause-payload_failure : goal.returns-then-is_err-clause-payload_failure
returns-then-is_err-clause-payload_failure g c = c.in-Ok.ensures.failure ∙ c.pieces.invariant.5 ∙ unfailed _ _ refl

pub returns-then-is_err-clause-sink_failure : goal.returns-then-is_err-clause-sink_failure
returns-then-is_err-clause-sink_failure g c = c.put.ensures.failure ∙ marks_fault _ _ c.put.result (sym c.is_err.ensures.value ∙ c.if-is_err.true)

pub returns-then-is_err-clause-sure : goal.returns-then-is_err-clause-sure
returns-then-is_err-clause-sure g c = λ task s B h enough.
    let a = c.pieces.invariant.0 task s B h in
    let piece : List ℕ = take c.in-Ok.count (c.take.new.into ++ drop c.min-asked.result c.pieces.chunk) in
    let size : length piece ≡ c.in-Ok.count = omega (arith, c.in-Ok.ensures.within, length-take c.in-Ok.count (c.take.new.into ++ drop c.min-asked.result c.pieces.chunk), length-append c.take.new.into (drop c.min-asked.result c.pieces.chunk)) in
    let fits : length piece ≤ payload_wanted_in c.pieces.verifier = omega (arith, size, c.in-Ok.ensures.within, c.take.auto.into, c.min-asked.ensures, c.payload_wanted.ensures.value, length-take c.min-asked.result c.pieces.chunk) in
    let reads_on = came_next a piece c.feed_payload.result (whole_piece c.feed_payload.ensures.uses fits) (c.feed_payload.ensures.taken _ _ _ a.reads_on) in
    let known = c.lemma_reading_so_far-in-pieces.ensures.payload _ _ _ _ reads_on.so_far reads_on.came in
    let limit : length (B ++ (a.came ++ piece)) ≤ task.setting.payload_limit = rw (sym known) (payload_within (rules_of g.row.H g.row.D _) _) in
    absurd (is_done c.put.result (sym c.is_err.ensures.value ∙ c.if-is_err.true) (c.put.ensures.promised (payload_is_sure a piece limit enough)))

pub pieces-preserved : goal.pieces-preserved
pieces-preserved g c =
    let piece : List ℕ = take c.in-Ok.count (c.take.new.into ++ drop c.min-asked.result c.pieces.chunk) in
    let size : length piece ≡ c.in-Ok.count = omega (arith, c.in-Ok.ensures.within, length-take c.in-Ok.count (c.take.new.into ++ drop c.min-asked.result c.pieces.chunk), length-append c.take.new.into (drop c.min-asked.result c.pieces.chunk)) in
    let some : 0 < length piece = omega (arith, size, c.if-count-eq0.false) in
    let fits : length piece ≤ payload_wanted_in c.pieces.verifier = omega (arith, size, c.in-Ok.ensures.within, c.take.auto.into, c.min-asked.ensures, c.payload_wanted.ensures.value, length-take c.min-asked.result c.pieces.chunk) in
    let used : c.feed_payload.result ≡ length piece = whole_piece c.feed_payload.ensures.uses fits in
    let left : payload_wanted_in c.feed_payload.new.self + length piece ≡ payload_wanted_in c.pieces.verifier = omega (arith, used, c.feed_payload.ensures.left) in
    let done = sym c.is_err.ensures.value ∙ c.if-is_err.false in
    let room : length (c.take.new.into ++ drop c.min-asked.result c.pieces.chunk) ≡ length c.args.chunk.now = omega (arith, c.take.auto.into, c.pieces.invariant.7, length-append c.take.new.into (drop c.min-asked.result c.pieces.chunk), length-take c.min-asked.result c.pieces.chunk, length-drop c.min-asked.result c.pieces.chunk) in (
      λ task s B h.
          (let a = c.pieces.invariant.0 task s B h in
          let reads_on = came_next a piece c.feed_payload.result used (c.feed_payload.ensures.taken _ _ _ a.reads_on) in
          brings_more a piece some fits (first_of _ _ c.in-Ok.count c.take.new.into _ c.in-Ok.ensures.within c.in-Ok.ensures.bytes.0) reads_on left (c.in-Ok.ensures.end ∙ not_at_end _ (omega (arith, size, some)))
          (put_done _ _ _ c.put.result done c.put.ensures.bytes) (promise_kept c.put.result _ _ _ done c.put.ensures.promise)),
      open_goes_on c.feed_payload.new.self.stopped _ c.feed_payload.ensures.further,
      c.feed_payload.ensures.further,
      c.feed_payload.ensures.purpose.inspects ∙ c.pieces.invariant.3,
      c.feed_payload.ensures.purpose.detached ∙ c.pieces.invariant.4,
      c.in-Ok.ensures.failure ∙ c.pieces.invariant.5,
      c.put.ensures.failure ∙ marks_nothing _ c.put.result done ∙ c.pieces.invariant.6,
      room,
    )

pub returns-then-asked-eq0-clause-stopped : goal.returns-then-asked-eq0-clause-stopped
returns-then-asked-eq0-clause-stopped g c = c.pieces.invariant.1

pub returns-then-asked-eq0-clause-once : goal.returns-then-asked-eq0-clause-once
returns-then-asked-eq0-clause-once g c = λ e. false≢true (ap is_err e)

pub returns-then-asked-eq0-clause-sure : goal.returns-then-asked-eq0-clause-sure
returns-then-asked-eq0-clause-sure g c = λ task s B h enough. refl

pub returns-in-Err-clause-stopped : goal.returns-in-Err-clause-stopped
returns-in-Err-clause-stopped g c = cc

pub returns-in-Err-clause-once : goal.returns-in-Err-clause-once
returns-in-Err-clause-once g c = λ e. true≢false (ap stops_for_intake e)

pub returns-in-Err-clause-sure : goal.returns-in-Err-clause-sure
returns-in-Err-clause-sure g c = λ task s B h enough. refl

pub returns-then-count-eq0-clause-stopped : goal.returns-then-count-eq0-clause-stopped
returns-then-count-eq0-clause-stopped g c = c.pieces.invariant.1

pub returns-then-count-eq0-clause-once : goal.returns-then-count-eq0-clause-once
returns-then-count-eq0-clause-once g c = λ e. false≢true (ap is_err e)

pub returns-then-count-eq0-clause-sure : goal.returns-then-count-eq0-clause-sure
returns-then-count-eq0-clause-sure g c = λ task s B h enough. refl

pub returns-then-is_err-clause-stopped : goal.returns-then-is_err-clause-stopped
returns-then-is_err-clause-stopped g c = cc

pub returns-then-is_err-clause-once : goal.returns-then-is_err-clause-once
returns-then-is_err-clause-once g c = λ e. true≢false (ap stops_for_sink e)

pub returns-then-asked-eq0-clause-sink_failure : goal.returns-then-asked-eq0-clause-sink_failure
returns-then-asked-eq0-clause-sink_failure g c = c.pieces.invariant.6 ∙ unfailed _ _ refl

pub returns-then-count-eq0-clause-sink_failure : goal.returns-then-count-eq0-clause-sink_failure
returns-then-count-eq0-clause-sink_failure g c = c.pieces.invariant.6 ∙ unfailed _ _ refl

pub returns-in-Err-clause-sink_failure : goal.returns-in-Err-clause-sink_failure
returns-in-Err-clause-sink_failure g c = c.pieces.invariant.6 ∙ unfailed _ _ refl

pub returns-then-asked-eq0-clause-payload_failure : goal.returns-then-asked-eq0-clause-payload_failure
returns-then-asked-eq0-clause-payload_failure g c = c.pieces.invariant.5 ∙ unfailed _ _ refl

pub slice_bounds-take-end : goal.slice_bounds-take-end
slice_bounds-take-end g c = omega (arith, c.min-asked.ensures)

pub slice_bounds-take-end-in-pieces : goal.slice_bounds-take-end-in-pieces
slice_bounds-take-end-in-pieces g c = omega (arith, c.min-asked.ensures, length-take c.min-asked.result c.pieces.chunk)

pub slice_bounds-piece-end : goal.slice_bounds-piece-end
slice_bounds-piece-end g c = omega (arith, c.in-Ok.ensures.within, length-append c.take.new.into (drop c.min-asked.result c.pieces.chunk))

pub slice_bounds-piece-end-in-pieces : goal.slice_bounds-piece-end-in-pieces
slice_bounds-piece-end-in-pieces g c = omega (arith, c.in-Ok.ensures.within, length-take c.in-Ok.count (c.take.new.into ++ drop c.min-asked.result c.pieces.chunk), length-append c.take.new.into (drop c.min-asked.result c.pieces.chunk))

pub pieces-smaller : goal.pieces-smaller
pieces-smaller g c =
    let piece : List ℕ = take c.in-Ok.count (c.take.new.into ++ drop c.min-asked.result c.pieces.chunk) in
    let size : length piece ≡ c.in-Ok.count = omega (arith, c.in-Ok.ensures.within, length-take c.in-Ok.count (c.take.new.into ++ drop c.min-asked.result c.pieces.chunk), length-append c.take.new.into (drop c.min-asked.result c.pieces.chunk)) in
    let some : 0 < length piece = omega (arith, size, c.if-count-eq0.false) in
    let fits : length piece ≤ payload_wanted_in c.pieces.verifier = omega (arith, size, c.in-Ok.ensures.within, c.take.auto.into, c.min-asked.ensures, c.payload_wanted.ensures.value, length-take c.min-asked.result c.pieces.chunk) in
    let used : c.feed_payload.result ≡ length piece = whole_piece c.feed_payload.ensures.uses fits in
    omega (arith, some, used, c.feed_payload.ensures.left)

pub lemma_reading_so_far-requires : goal.lemma_reading_so_far-requires
lemma_reading_so_far-requires g c = grind (arith, common_steps)

pub lemma_reading_so_far-requires-in-pieces : goal.lemma_reading_so_far-requires-in-pieces
lemma_reading_so_far-requires-in-pieces g c = grind (arith, common_steps)

pub stop-requires : goal.stop-requires
stop-requires g c = grind (arith, common_steps)

pub stop-requires-then-is_err : goal.stop-requires-then-is_err
stop-requires-then-is_err g c = grind (arith, common_steps)

pub returns-in-Err-clause-payload_failure : goal.returns-in-Err-clause-payload_failure
returns-in-Err-clause-payload_failure g c = c.in-Err.ensures.failure ∙ sym (or-true _)

pub returns-then-count-eq0-clause-payload_failure : goal.returns-then-count-eq0-clause-payload_failure
returns-then-count-eq0-clause-payload_failure g c = c.in-Ok.ensures.failure ∙ c.pieces.invariant.5 ∙ unfailed _ _ refl
