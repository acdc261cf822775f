use Rattle.std.specs.Prelude.{◌==◌}
use Rattle.std.proofs.lemmas.Grind.{common_steps}
use Rattle.std.proofs.Common.{rules, ◌≡◌, ◌+◌, ◌<◌, ◌≤◌, ℕ, true, false, List, length, refl, sym, ap, ◌∙◌, arith}
use Rattle.cose_msg.specs.Phase.{in_payload, want_of}
use Rattle.cose_msg.specs.Status.{status_of_reading}
use Rattle.cose_msg.proofs.lemmas.Feeding.Feeds.{at_start, begins_once, chosen_within, fits_in, goes_on, goes_past, in_order, knows_payload, part_extended, stepped, shows_now, uses_all, uses_none}
use Rattle.cose_msg.proofs.lemmas.Run.Purposes.{same_setting_of, unchanged}
use Rattle.cose_msg.proofs.lemmas.Run.Runs.{without_more}
use Rattle.cose_msg.specs.Reading.{Reading}
use Rattle.cose_msg.proofs.lemmas.Deciding.PhaseCases.{unsettled_is_more}
use Rattle.cose_msg.proofs.lemmas.Feeding.Statuses.{status_going, wants_and_goes_on}
use Rattle.cose_msg.proofs.verifier.Verifier.feed_across.Goals.{then-is_in_payload, else-is_in_payload}
use Rattle.cose_msg.proofs.verifier.Verifier.feed_across.Goals as goal

pub returns-then-want-eq0 : goal.returns-then-want-eq0
returns-then-want-eq0 g c = record {
  uses = λ task s B h.
      uses_none task s c.args.piece.now (λ unsettled. (
      let open_yet = unsettled_is_more c.args.self.now.reader.phase (sym (c.lemma_reading_so_far.ensures.settled task B _ _ h.so_far h.came) ∙ ap (λ (r : Reading). r.settled) (without_more g.row.H g.row.D task s) ∙ unsettled) in
      let wants : 0 < c.want.result = c.want.ensures.some (status_going c.args.self.now _ h.goes_on open_yet) in
      omega (arith, wants, c.if-want-eq0.true)));
  taken = grind (arith, common_steps);
  status = λ task s B h.
      c.status.ensures.reads task s B h ∙ ap status_of_reading (sym (without_more g.row.H g.row.D task s));
  attached = λ task s B h is. c.status.ensures.attached task s B h is;
  payload = grind (arith, common_steps);
  shows = λ task s B h. c.lemma_reading_so_far.ensures.shows task B _ _ h.so_far h.came;
  fits = omega arith;
  ordered = omega arith;
  among = omega arith;
  none = λ _. refl;
  current = c.status.ensures.value;
  counted = omega arith;
  again = grind (arith, common_steps);
  purpose = unchanged c.args.self.now;
}

pub returns-then-count-eq0 : goal.returns-then-count-eq0
returns-then-count-eq0 g c = record {
  uses = λ task s B h.
      let a = c.pieces.invariant.0 task s B h in
      let limit : g.row.H ≤ 65535 = c.pieces.self.reader.limit in
      uses_all a (record { read = c.messages_are_bounded.ensures.verified.0; compared = c.messages_are_bounded.ensures.verified.1; inspected = c.messages_are_bounded.ensures.inspected }) limit c.step-count.result (c.lemma_reading_so_far-in-pieces.ensures.settled task _ _ _ a.reads_on.so_far a.reads_on.came) c.step-count.ensures.some c.if-count-eq0.true c.pieces.invariant.4;
  taken = λ task s B h. let a = c.pieces.invariant.0 task s B h in a.reads_on;
  status = λ task s B h. let a = c.pieces.invariant.0 task s B h in c.status-then-count-eq0.ensures.reads task _ _ a.reads_on;
  attached = λ task s B h is.
      let a = c.pieces.invariant.0 task s B h in c.status-then-count-eq0.ensures.attached task _ _ a.reads_on (c.pieces.invariant.8 ∙ is);
  payload = λ task s B h.
      let a = c.pieces.invariant.0 task s B h in
      knows_payload a (c.lemma_reading_so_far-in-pieces.ensures.payload task _ _ _ a.reads_on.so_far a.reads_on.came) (c.lemma_reading_so_far.ensures.payload task B _ _ h.so_far h.came);
  shows = λ task s B h.
      let a = c.pieces.invariant.0 task s B h in
      shows_now task _ c.pieces.self (c.lemma_reading_so_far-in-pieces.ensures.shows task _ _ _ a.reads_on.so_far a.reads_on.came);
  fits = c.pieces.invariant.4;
  ordered = c.pieces.invariant.5;
  among = c.pieces.invariant.6;
  none = c.pieces.invariant.7;
  current = c.status-then-count-eq0.ensures.value;
  counted = c.pieces.invariant.3;
  again = λ settled. absurd (c.if-want-eq0.false (c.want.ensures.none settled));
  purpose = record { inspects = c.pieces.invariant.2; detached = c.pieces.invariant.8; context = λ h. same_setting_of h (c.pieces.invariant.0 _ _ _ h).reads_on };
}

pub pieces-init : goal.pieces-init
pieces-init g c = (
  λ task s B h. at_start c.args.piece.now h,
  wants_and_goes_on c.args.self.now.stopped _ _ c.want.ensures.value c.if-want-eq0.false,
  refl,
  omega arith,
  omega arith,
  omega arith,
  omega arith,
  λ e. e,
  refl,
)

pub pieces-preserved : goal.pieces-preserved
pieces-preserved g c =
    let i = c.pieces.invariant in
    let used : ℕ = c.pieces.used in
    let count : ℕ = c.step-count.result in
    let fits = fits_in c.args.piece.now used count i.4 c.step-count.ensures.rest in
    let some : 0 < count = omega (arith, c.if-count-eq0.false) in
    let wanted : 0 < want_of c.pieces.self.reader.phase = omega (arith, some, c.step-count.ensures.wanted) in
    let within : (more : List ℕ) → length more < count → length more < want_of c.pieces.self.reader.phase = λ more lt. omega (arith, lt, c.step-count.ensures.wanted) in
    let goes_still = c.take_piece.ensures.marked ∙ i.1 in
    let inspects = c.take_piece.ensures.purpose.inspects ∙ i.2 in
    let detached = c.take_piece.ensures.purpose.detached ∙ i.8 in
    elim c.if-is_in_payload.branch [
      | then-is_in_payload w ↦
          (let inside : in_payload c.pieces.self.reader.phase ≡ true = sym c.is_in_payload.ensures ∙ w.if-is_in_payload.true in
          rw (w.payload-is, w.extended-payload.ensures.from, w.extended-payload.ensures.to) (
            λ task s B h.
                (let a = i.0 task s B h in
                let once = begins_once c.take_piece.new.self count a (λ more. c.lemma_reading_so_far-in-pieces.ensures.grows task _ _ _ more a.reads_on.so_far inside) wanted in
                goes_on c.take_piece.new.self count a _ inside (part_extended c.args.piece.now c.pieces.payload.from c.pieces.payload.to used count i.5 (λ begun. once begun i.6))
                (λ more lt. c.lemma_reading_so_far-in-pieces.ensures.open task _ _ _ more a.reads_on.so_far (within more lt)) (stepped c.take_piece.new.self count a (c.take_piece.ensures.taken task _ _ a.reads_on))),
            goes_still,
            inspects,
            omega (arith, c.take_piece.ensures.counted, i.3, fits.1),
            fits.0,
            chosen_within _ used c.pieces.payload.from (used + count) (omega arith) (omega (arith, i.5, i.6)),
            omega arith,
            λ e. (let before = chosen_within (c.pieces.payload.to == 0) used c.pieces.payload.from used (omega arith) (omega (arith, i.5, i.6)) in absurd (omega (arith, before, e, some))),
            detached,
          ))
      | else-is_in_payload w ↦
          (let outside : in_payload c.pieces.self.reader.phase ≡ false = sym c.is_in_payload.ensures ∙ w.if-is_in_payload.false in
          rw w.payload-is (
            λ task s B h.
                (let a = i.0 task s B h in
                goes_past c.take_piece.new.self count a outside (λ more there. c.lemma_reading_so_far-in-pieces.ensures.fixed task _ _ _ more a.reads_on.so_far a.reads_on.came outside there)
                (λ more lt. c.lemma_reading_so_far-in-pieces.ensures.open task _ _ _ more a.reads_on.so_far (within more lt)) (stepped c.take_piece.new.self count a (c.take_piece.ensures.taken task _ _ a.reads_on))
                (in_order c.pieces.payload.from c.pieces.payload.to i.5 i.7) i.6 fits.0),
            goes_still,
            inspects,
            omega (arith, c.take_piece.ensures.counted, i.3, fits.1),
            fits.0,
            i.5,
            omega (arith, i.6),
            i.7,
            detached,
          ))
    ]

pub take_piece-requires : goal.take_piece-requires
take_piece-requires g c κs =
    let fits = fits_in c.args.piece.now c.pieces.used c.step-count.result c.pieces.invariant.4 c.step-count.ensures.rest in
    let some : 0 < c.step-count.result = omega (arith, c.if-count-eq0.false) in (
      search rules,
      (
        (refl, tt),
        (
          omega (arith, fits.1, some),
          (omega (arith, fits.1, c.step-count.ensures.wanted), (c.step-count.ensures.early some, omega (arith, fits.1, c.step-count.ensures.short))),
        ),
      ),
    )

pub slice_bounds-rest-count : goal.slice_bounds-rest-count
slice_bounds-rest-count g c = grind (arith, common_steps)

pub slice_bounds-rest-start : goal.slice_bounds-rest-start
slice_bounds-rest-start g c = grind (arith, common_steps)

pub slice_bounds-rest-end : goal.slice_bounds-rest-end
slice_bounds-rest-end g c = grind (arith, common_steps)

pub slice_bounds-take_piece-end : goal.slice_bounds-take_piece-end
slice_bounds-take_piece-end g c = grind (arith, common_steps)

pub overflow_add-used : goal.overflow_add-used
overflow_add-used g c = grind (arith, common_steps)

pub pieces-smaller : goal.pieces-smaller
pieces-smaller g c = grind (arith, common_steps)
