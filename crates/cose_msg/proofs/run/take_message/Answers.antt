use Rattle.std.proofs.Common.{◌≡◌, ℕ, ◌<◌, ◌≤◌, rules, length-append, true, false, List, [], ◌++◌, length, take, drop, refl, sym, ◌∙◌, arith, ap}
use Rattle.std.proofs.lemmas.Bool.{true≢false, false≢true}
use Rattle.std.proofs.Math.Bool.{or-true}
use Rattle.std.proofs.lemmas.Grind.{common_steps}
use Rattle.std.proofs.lemmas.List.{length-drop, length-take}
use Rattle.std.proofs.KnownBytes.{Consumes-nil, Appends-nil}
use Rattle.cose_msg.specs.Kept.{SamePurpose}
use Rattle.cose_msg.specs.Phase.{in_payload, want_of}
use Rattle.cose_msg.specs.Task.{rules_of}
use Rattle.cose_msg.proofs.lemmas.Run.PayloadLimit.{payload_within}
use Rattle.cose_msg.proofs.lemmas.Run.Purposes.{same_setting_of, then_same_task}
use Rattle.cose_msg.proofs.lemmas.Run.Runs.{at_start, concluded, first_of, goes_on, is_done, marks_fault, marks_nothing, none_apart, not_at_end, promise_kept, put_done, put_failed, put_none, sure_enough, settled_if_none_asked, stopped_by_intake, stopped_by_sink, take_short}
use Rattle.cose_msg.proofs.lemmas.Deciding.KeptAnswers.{unfailed}
use Rattle.cose_msg.proofs.run.take_message.Goals.{else-in_payload-via-then-in_payload+else-is_err, else-in_payload-via-else-in_payload}
use Rattle.std.specs.Prelude.{is_err}
use Rattle.cose_msg.specs.Run.{stops_for_intake, stops_for_sink}
use Rattle.cose_msg.proofs.run.take_message.Goals as goal

pub pieces-init : goal.pieces-init
pieces-init g c = (λ task s B h. at_start _ _ _ _ h, c.requires.goes_on, refl, refl, refl, refl, refl)

pub pieces-preserved : goal.pieces-preserved
pieces-preserved g c =
    let count : c.in-Ok.count ≤ want_of c.pieces.verifier.reader.phase = omega (arith, c.take.auto.into, c.in-Ok.ensures.within, c.request-asked.ensures.wanted, length-take c.request-asked.result c.pieces.chunk) in
    let fits : (l : List ℕ) → length (take c.in-Ok.count l) ≤ want_of c.pieces.verifier.reader.phase = λ l. omega (arith, take_short c.in-Ok.count l) in
    let within : (l more : List ℕ) → length more < length (take c.in-Ok.count l) → length more < want_of c.pieces.verifier.reader.phase = λ l more lt. omega (arith, fits l, lt) in
    let some : 0 < c.in-Ok.count = omega (arith, c.if-count-eq0.false) in
    let stopped = c.take_piece.ensures.marked ∙ c.pieces.invariant.1 in
    let inspects = c.take_piece.ensures.purpose.inspects ∙ c.pieces.invariant.2 in
    let detached = c.take_piece.ensures.purpose.detached ∙ c.pieces.invariant.5 in
    let room : length (c.take.new.into ++ drop c.request-asked.result c.pieces.chunk) ≡ length c.args.chunk.now = omega (arith, c.take.auto.into, c.pieces.invariant.6, length-append c.take.new.into (drop c.request-asked.result c.pieces.chunk), length-take c.request-asked.result c.pieces.chunk, length-drop c.request-asked.result c.pieces.chunk) in
    elim c.else-in_payload.branch [
      | else-in_payload-via-then-in_payload+else-is_err w ↦
          (let in_it : in_payload c.pieces.verifier.reader.phase ≡ true = sym c.is_in_payload-in_payload.ensures ∙ w.if-in_payload.true in
          let done = sym w.is_err.ensures.value ∙ w.if-is_err.false in
          rw w.sink-is (
            λ task s B h.
                (let a = c.pieces.invariant.0 task s B h in
                goes_on _ a (first_of _ _ c.in-Ok.count c.take.new.into _ c.in-Ok.ensures.within c.in-Ok.ensures.bytes.0) (λ more lt. c.lemma_reading_so_far.ensures.open task _ _ _ more a.reads_on.so_far (within _ more lt))
                (c.take_piece.ensures.taken task _ _ a.reads_on) (c.in-Ok.ensures.end ∙ not_at_end _ some) (rw in_it (put_done _ _ _ w.put.result done w.put.ensures.bytes)) (rw in_it (promise_kept w.put.result _ _ _ done w.put.ensures.promise))),
            stopped,
            inspects,
            c.in-Ok.ensures.failure ∙ c.pieces.invariant.3,
            w.put.ensures.failure ∙ marks_nothing _ w.put.result done ∙ c.pieces.invariant.4,
            detached,
            room,
          ))
      | else-in_payload-via-else-in_payload w ↦
          (let in_it : in_payload c.pieces.verifier.reader.phase ≡ false = sym c.is_in_payload-in_payload.ensures ∙ w.if-in_payload.false in
          rw w.sink-is (
            λ task s B h.
                (let a = c.pieces.invariant.0 task s B h in
                goes_on _ a (first_of _ _ c.in-Ok.count c.take.new.into _ c.in-Ok.ensures.within c.in-Ok.ensures.bytes.0) (λ more lt. c.lemma_reading_so_far.ensures.open task _ _ _ more a.reads_on.so_far (within _ more lt))
                (c.take_piece.ensures.taken task _ _ a.reads_on) (c.in-Ok.ensures.end ∙ not_at_end _ some) (rw in_it (Appends-nil _)) (rw in_it (omega arith))),
            stopped,
            inspects,
            c.in-Ok.ensures.failure ∙ c.pieces.invariant.3,
            c.pieces.invariant.4,
            detached,
            room,
          ))
    ]

pub returns-then-asked-eq0-clause-drive : goal.returns-then-asked-eq0-clause-drive
returns-then-asked-eq0-clause-drive g c = λ task s B h.
    let a = c.pieces.invariant.0 task s B h in
    let none : c.request-asked.result ≡ 0 = omega (arith, c.if-asked-eq0.true) in
    let room : g.row.H ≤ 65535 = c.pieces.verifier.reader.limit in
    let done = settled_if_none_asked (record { read = c.messages_are_bounded.ensures.verified.0; compared = c.messages_are_bounded.ensures.verified.1; inspected = c.messages_are_bounded.ensures.inspected }) room c.request-asked.result a.reads_on (c.lemma_reading_so_far.ensures.settled task _ _ _ a.reads_on.so_far a.reads_on.came) c.request-asked.ensures.some none in
    concluded a (Consumes-nil _) (c.lemma_reading_so_far.ensures.payload task _ _ _ a.reads_on.so_far a.reads_on.came) (c.lemma_reading_so_far.ensures.shows task _ _ _ a.reads_on.so_far a.reads_on.came)
    (λ e. absurd (true≢false (sym done ∙ e))) (λ e. a.not_ended)

pub returns-in-Err-clause-drive : goal.returns-in-Err-clause-drive
returns-in-Err-clause-drive g c = λ task s B h.
    let a = c.pieces.invariant.0 task s B h in
    let wanted : 0 < want_of c.pieces.verifier.reader.phase = omega (arith, c.if-asked-eq0.false, c.request-asked.ensures.wanted) in
    stopped_by_intake a c.in-Err.ensures.bytes (c.lemma_reading_so_far.ensures.payload task _ _ _ a.reads_on.so_far a.reads_on.came) (c.lemma_reading_so_far.ensures.shows task _ _ _ a.reads_on.so_far a.reads_on.came) (c.lemma_reading_so_far.ensures.open task _ _ _ [] a.reads_on.so_far wanted) c.stop.ensures.taken c.stop.ensures.shown

pub returns-then-count-eq0-clause-drive : goal.returns-then-count-eq0-clause-drive
returns-then-count-eq0-clause-drive g c = λ task s B h.
    let a = c.pieces.invariant.0 task s B h in
    let wanted : 0 < want_of c.pieces.verifier.reader.phase = omega (arith, c.if-asked-eq0.false, c.request-asked.ensures.wanted) in
    let none : c.in-Ok.count ≡ 0 = omega (arith, c.if-count-eq0.true) in
    let open_yet = c.lemma_reading_so_far.ensures.open task _ _ _ [] a.reads_on.so_far wanted in
    let took = rw none at c.in-Ok.ensures.bytes in
    let ended = rw none at c.in-Ok.ensures.end in
    concluded a took.0 (c.lemma_reading_so_far.ensures.payload task _ _ _ a.reads_on.so_far a.reads_on.came) (c.lemma_reading_so_far.ensures.shows task _ _ _ a.reads_on.so_far a.reads_on.came)
    (λ e. (ended, took.1 refl)) (λ e. absurd (true≢false (sym e ∙ open_yet)))

pub returns-then-is_err-clause-drive : goal.returns-then-is_err-clause-drive
returns-then-is_err-clause-drive g c = λ task s B h.
    let a = c.pieces.invariant.0 task s B h in
    let reads_on = c.take_piece.ensures.taken task _ _ a.reads_on in
    let in_it : in_payload c.pieces.verifier.reader.phase ≡ true = sym c.is_in_payload-in_payload.ensures ∙ c.if-in_payload.true in
    let count : c.in-Ok.count ≤ want_of c.pieces.verifier.reader.phase = omega (arith, c.take.auto.into, c.in-Ok.ensures.within, c.request-asked.ensures.wanted, length-take c.request-asked.result c.pieces.chunk) in
    let fits : (l : List ℕ) → length (take c.in-Ok.count l) ≤ want_of c.pieces.verifier.reader.phase = λ l. omega (arith, take_short c.in-Ok.count l) in
    let within : (l more : List ℕ) → length more < length (take c.in-Ok.count l) → length more < want_of c.pieces.verifier.reader.phase = λ l more lt. omega (arith, fits l, lt) in
    stopped_by_sink c.take_piece.new.self _ a (first_of _ _ c.in-Ok.count c.take.new.into _ c.in-Ok.ensures.within c.in-Ok.ensures.bytes.0)
    (λ more lt. c.lemma_reading_so_far.ensures.open task _ _ _ more a.reads_on.so_far (within _ more lt)) (c.lemma_reading_so_far.ensures.open_payload task _ _ _ _ a.reads_on.so_far in_it (fits _)) in_it
    (c.lemma_reading_so_far-in-pieces.ensures.payload task _ _ _ reads_on.so_far reads_on.came) (c.lemma_reading_so_far-in-pieces.ensures.shows task _ _ _ reads_on.so_far reads_on.came) (put_failed _ _ _ c.put.result (sym c.is_err.ensures.value ∙ c.if-is_err.true) c.put.ensures.bytes)
    reads_on.counted c.stop-then-is_err.ensures.taken c.stop-then-is_err.ensures.shown

-- The payload is within its limit, so the sink has promised to take the piece.
pub returns-then-is_err-clause-sure : goal.returns-then-is_err-clause-sure
returns-then-is_err-clause-sure g c = λ task s B h enough.
    let a = c.pieces.invariant.0 task s B h in
    let reads_on = c.take_piece.ensures.taken task _ _ a.reads_on in
    let in_it : in_payload c.pieces.verifier.reader.phase ≡ true = sym c.is_in_payload-in_payload.ensures ∙ c.if-in_payload.true in
    let known = c.lemma_reading_so_far-in-pieces.ensures.payload task _ _ _ reads_on.so_far reads_on.came in
    let limit = payload_within (rules_of g.row.H g.row.D task) _ in
    let promised = c.put.ensures.promised (sure_enough _ _ a in_it known limit enough) in
    absurd (is_done c.put.result (sym c.is_err.ensures.value ∙ c.if-is_err.true) promised)

pub returns-then-asked-eq0-clause-purpose : goal.returns-then-asked-eq0-clause-purpose
returns-then-asked-eq0-clause-purpose g c = record { inspects = c.pieces.invariant.2; detached = c.pieces.invariant.5; context = λ h. same_setting_of h (c.pieces.invariant.0 _ _ _ h).reads_on }

pub returns-in-Err-clause-purpose : goal.returns-in-Err-clause-purpose
returns-in-Err-clause-purpose g c =
    let purpose : SamePurpose c.args.verifier.now c.pieces.verifier = record { inspects = c.pieces.invariant.2; detached = c.pieces.invariant.5; context = λ h. same_setting_of h (c.pieces.invariant.0 _ _ _ h).reads_on } in
    then_same_task purpose c.stop.ensures.purpose

pub returns-then-count-eq0-clause-purpose : goal.returns-then-count-eq0-clause-purpose
returns-then-count-eq0-clause-purpose g c = record { inspects = c.pieces.invariant.2; detached = c.pieces.invariant.5; context = λ h. same_setting_of h (c.pieces.invariant.0 _ _ _ h).reads_on }

pub returns-then-is_err-clause-purpose : goal.returns-then-is_err-clause-purpose
returns-then-is_err-clause-purpose g c =
    let taken : SamePurpose c.args.verifier.now c.take_piece.new.self = record {
      inspects = c.take_piece.ensures.purpose.inspects ∙ c.pieces.invariant.2;
      detached = c.take_piece.ensures.purpose.detached ∙ c.pieces.invariant.5;
      context = λ h. same_setting_of h (c.take_piece.ensures.taken _ _ _ (c.pieces.invariant.0 _ _ _ h).reads_on);
    } in
    then_same_task taken c.stop-then-is_err.ensures.purpose

pub messages_are_bounded-requires : goal.messages_are_bounded-requires
messages_are_bounded-requires g c = cc

pub returns-then-asked-eq0-clause-stopped : goal.returns-then-asked-eq0-clause-stopped
returns-then-asked-eq0-clause-stopped g c = cc

pub returns-then-asked-eq0-clause-once : goal.returns-then-asked-eq0-clause-once
returns-then-asked-eq0-clause-once g c = λ e. false≢true (ap is_err e)

pub returns-then-asked-eq0-clause-sink_failure : goal.returns-then-asked-eq0-clause-sink_failure
returns-then-asked-eq0-clause-sink_failure g c = c.pieces.invariant.4 ∙ unfailed _ _ refl

pub returns-then-asked-eq0-clause-sure : goal.returns-then-asked-eq0-clause-sure
returns-then-asked-eq0-clause-sure g c = λ task s B h enough. refl

pub returns-in-Err-clause-stopped : goal.returns-in-Err-clause-stopped
returns-in-Err-clause-stopped g c = cc

pub returns-in-Err-clause-once : goal.returns-in-Err-clause-once
returns-in-Err-clause-once g c = λ e. true≢false (ap stops_for_intake e)

pub returns-in-Err-clause-sure : goal.returns-in-Err-clause-sure
returns-in-Err-clause-sure g c = λ task s B h enough. refl

pub returns-then-count-eq0-clause-stopped : goal.returns-then-count-eq0-clause-stopped
returns-then-count-eq0-clause-stopped g c = cc

pub returns-then-count-eq0-clause-once : goal.returns-then-count-eq0-clause-once
returns-then-count-eq0-clause-once g c = λ e. false≢true (ap is_err e)

pub returns-then-count-eq0-clause-sink_failure : goal.returns-then-count-eq0-clause-sink_failure
returns-then-count-eq0-clause-sink_failure g c = c.pieces.invariant.4 ∙ unfailed _ _ refl

pub returns-then-count-eq0-clause-sure : goal.returns-then-count-eq0-clause-sure
returns-then-count-eq0-clause-sure g c = λ task s B h enough. refl

pub returns-then-is_err-clause-stopped : goal.returns-then-is_err-clause-stopped
returns-then-is_err-clause-stopped g c = cc

pub returns-then-is_err-clause-once : goal.returns-then-is_err-clause-once
returns-then-is_err-clause-once g c = λ e. true≢false (ap stops_for_sink e)

pub returns-then-is_err-clause-intake_failure : goal.returns-then-is_err-clause-intake_failure
returns-then-is_err-clause-intake_failure g c = c.in-Ok.ensures.failure ∙ c.pieces.invariant.3 ∙ unfailed _ false refl

pub returns-then-is_err-clause-sink_failure : goal.returns-then-is_err-clause-sink_failure
returns-then-is_err-clause-sink_failure g c = c.put.ensures.failure ∙ marks_fault _ _ c.put.result (sym c.is_err.ensures.value ∙ c.if-is_err.true)

pub take_piece-requires : goal.take_piece-requires
take_piece-requires g c κs =
    let count : c.in-Ok.count ≤ want_of c.pieces.verifier.reader.phase = omega (arith, c.take.auto.into, c.in-Ok.ensures.within, c.request-asked.ensures.wanted, length-take c.request-asked.result c.pieces.chunk) in (
      search rules,
      (
        (refl, tt),
        (
          omega (arith, c.if-count-eq0.false, c.in-Ok.ensures.within, length-take c.in-Ok.count (c.take.new.into ++ drop c.request-asked.result c.pieces.chunk), length-append c.take.new.into (drop c.request-asked.result c.pieces.chunk)),
          (
            omega (arith, count, take_short c.in-Ok.count (c.take.new.into ++ drop c.request-asked.result c.pieces.chunk)),
            (
              c.request-asked.ensures.early (omega (arith, c.if-asked-eq0.false)),
              omega (arith, take_short c.in-Ok.count (c.take.new.into ++ drop c.request-asked.result c.pieces.chunk), c.take.auto.into, c.in-Ok.ensures.within, c.request-asked.ensures.most, c.requires.limit, length-take c.request-asked.result c.pieces.chunk),
            ),
          ),
        ),
      ),
    )

-- Of a detached payload nothing was put.
pub returns-then-asked-eq0-clause-beside : goal.returns-then-asked-eq0-clause-beside
returns-then-asked-eq0-clause-beside g c = λ task s B h detached. (refl, put_none (c.pieces.invariant.0 task s B h) detached)

pub returns-in-Err-clause-beside : goal.returns-in-Err-clause-beside
returns-in-Err-clause-beside g c = λ task s B h detached. (refl, put_none (c.pieces.invariant.0 task s B h) detached)

pub returns-then-count-eq0-clause-beside : goal.returns-then-count-eq0-clause-beside
returns-then-count-eq0-clause-beside g c = λ task s B h detached. (refl, put_none (c.pieces.invariant.0 task s B h) detached)

pub returns-then-is_err-clause-beside : goal.returns-then-is_err-clause-beside
returns-then-is_err-clause-beside g c = λ task s B h detached.
    absurd (none_apart (c.pieces.invariant.0 task s B h).reads_on.so_far detached (sym c.is_in_payload-in_payload.ensures ∙ c.if-in_payload.true))

pub slice_bounds-take-end : goal.slice_bounds-take-end
slice_bounds-take-end g c = omega (arith, c.request-asked.ensures.most)

pub slice_bounds-take-end-in-pieces : goal.slice_bounds-take-end-in-pieces
slice_bounds-take-end-in-pieces g c = omega (arith, c.request-asked.ensures.most, length-take c.request-asked.result c.pieces.chunk)

pub slice_bounds-piece-end : goal.slice_bounds-piece-end
slice_bounds-piece-end g c = omega (arith, c.in-Ok.ensures.within, length-append c.take.new.into (drop c.request-asked.result c.pieces.chunk))

pub slice_bounds-piece-end-in-pieces : goal.slice_bounds-piece-end-in-pieces
slice_bounds-piece-end-in-pieces g c = omega (arith, c.in-Ok.ensures.within, length-take c.in-Ok.count (c.take.new.into ++ drop c.request-asked.result c.pieces.chunk), length-append c.take.new.into (drop c.request-asked.result c.pieces.chunk))

pub lemma_reading_so_far-requires : goal.lemma_reading_so_far-requires
lemma_reading_so_far-requires g c = grind (arith, common_steps)

pub stop-requires : goal.stop-requires
stop-requires g c = grind (arith, common_steps)

pub lemma_reading_so_far-requires-in-pieces : goal.lemma_reading_so_far-requires-in-pieces
lemma_reading_so_far-requires-in-pieces g c = grind (arith, common_steps)

pub stop-requires-then-is_err : goal.stop-requires-then-is_err
stop-requires-then-is_err g c = grind (arith, common_steps)

pub returns-then-asked-eq0-clause-intake_failure : goal.returns-then-asked-eq0-clause-intake_failure
returns-then-asked-eq0-clause-intake_failure g c = c.pieces.invariant.3 ∙ unfailed _ _ refl

pub returns-in-Err-clause-intake_failure : goal.returns-in-Err-clause-intake_failure
returns-in-Err-clause-intake_failure g c = c.in-Err.ensures.failure ∙ sym (or-true _)

pub returns-in-Err-clause-sink_failure : goal.returns-in-Err-clause-sink_failure
returns-in-Err-clause-sink_failure g c = c.pieces.invariant.4 ∙ unfailed _ _ refl

pub returns-then-count-eq0-clause-intake_failure : goal.returns-then-count-eq0-clause-intake_failure
returns-then-count-eq0-clause-intake_failure g c = c.in-Ok.ensures.failure ∙ c.pieces.invariant.3 ∙ unfailed _ _ refl

pub pieces-smaller : goal.pieces-smaller
pieces-smaller g c =
    let some : 0 < length (take c.in-Ok.count (c.take.new.into ++ drop c.request-asked.result c.pieces.chunk)) = omega (arith, c.if-count-eq0.false, c.in-Ok.ensures.within, length-take c.in-Ok.count (c.take.new.into ++ drop c.request-asked.result c.pieces.chunk), length-append c.take.new.into (drop c.request-asked.result c.pieces.chunk)) in
    let early = c.request-asked.ensures.early (omega (arith, c.if-asked-eq0.false)) in
    omega (arith, some, early, c.take_piece.ensures.counted)
