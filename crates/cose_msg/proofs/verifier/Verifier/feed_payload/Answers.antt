use Rattle.std.proofs.Common.{◌≡◌, ◌+◌, ◌<◌, ℕ, Bool, true, false, cond, List, [], ◌++◌, length, take, refl, sym, ap, subst, ◌∙◌, append_assoc, arith}
use Rattle.std.proofs.lemmas.List.{length-take}
use Rattle.std.proofs.lemmas.Grind.{common_steps}
use Rattle.cose_msg.specs.Kept.{HasTaken}
use Rattle.cose_msg.specs.Reader.{SoFar}
use Rattle.cose_msg.specs.Shown.{shown_in}
use Rattle.cose_msg.specs.Phase.{payload_want_of}
use Rattle.cose_msg.specs.Status.{payload_wanted_in, status_of_reading}
use Rattle.cose_msg.specs.Task.{Task, given_to}
use Rattle.cose_msg.proofs.lemmas.Detached.PayloadRuns.{keeps_setting}
use Rattle.cose_msg.proofs.lemmas.Detached.PayloadTaken.{came_more, given_again, now_given, reads_on_beside}
use Rattle.cose_msg.proofs.lemmas.Run.Runs.{without_more}
use Rattle.cose_msg.proofs.lemmas.Reader.Meanings.{whole_task}
use Rattle.cose_msg.proofs.lemmas.Deciding.PhaseCases.{not_awaiting}
use Rattle.cose_msg.proofs.lemmas.Feeding.Statuses.{none_wanted, some_wanted}
use Rattle.cose_msg.proofs.lemmas.Deciding.Untouched.{untouched_awaits_none}
use Rattle.cose_msg.proofs.verifier.Verifier.feed_payload.Goals as goal

-- A verifier that wants bytes of a payload hasn't stopped.
goes_on : (stopped : Bool) (wanted : ℕ) → 0 < cond stopped 0 wanted → stopped ≡ false
goes_on true wanted some = absurd (omega (arith, some))
goes_on false wanted some = refl

left_of : (stopped : Bool) (next count before : ℕ) → stopped ≡ false → next + count ≡ before → cond stopped 0 next + count ≡ before
left_of true next count before e left = absurd cc
left_of false next count before e left = left

pub returns-in-Detached-clause-taken : goal.returns-in-Detached-clause-taken
returns-in-Detached-clause-taken g c = λ task s B h.
    let piece : List ℕ = take c.min-count.result c.args.piece.now in
    let later : (more : List ℕ) → SoFar (given_to ((B ++ piece) ++ more) task) s (B ++ piece) c.detached_piece.new.self = λ more.
    (let same : given_to (B ++ (piece ++ more)) task ≡ given_to ((B ++ piece) ++ more) task = ap (λ (t : List ℕ). given_to t task) (sym (append_assoc B piece more)) in
    let before : SoFar (given_to ((B ++ piece) ++ more) task) s B c.args.self.now.reader = subst (λ (t : Task). SoFar t s B c.args.self.now.reader) same (h.whatever_comes (piece ++ more)) in
    c.detached_piece.ensures.reads_on (given_to ((B ++ piece) ++ more) task) B more (length s) _ (came_more task ((B ++ piece) ++ more) (reads_on_beside h.so_far c.in-Detached.detached c.in-Detached.is)) before) in
    let all : HasTaken (given_to (B ++ piece) task) s (B ++ piece) _ = record {
      made_for = whole_task (given_to (B ++ piece) task) _ c.detached_piece.new.self.terms _ _ _ (ap (λ (t : Task). t.setting.keys) h.made_for) (ap (λ (t : Task). t.inspects) h.made_for) (ap (λ (t : Task). t.setting.source) (h.made_for ∙ sym (given_again task [] (B ++ piece)))) (ap (λ (t : Task). t.setting.elsewhere) h.made_for) (now_given task s (B ++ piece) c.detached_piece.new.self later).shows.0;
      so_far = now_given task s (B ++ piece) c.detached_piece.new.self later;
      came = given_again task (B ++ piece) (B ++ piece);
      whatever_comes = λ more. subst (λ (t : Task). SoFar t s (B ++ piece) c.detached_piece.new.self) (sym (given_again task ((B ++ piece) ++ more) (B ++ piece))) (later more);
      counted = h.counted;
      goes_on = h.goes_on;
    } in
    all

pub returns-in-Detached-clause-status : goal.returns-in-Detached-clause-status
returns-in-Detached-clause-status g c = λ task s B h.
    let now = returns-in-Detached-clause-taken g c task s B h in
    rw h.goes_on (c.lemma_reading_so_far.ensures.status _ _ _ _ now.so_far now.came ∙ ap status_of_reading (without_more g.row.H g.row.D _ s))

pub returns-in-Detached-clause-shows : goal.returns-in-Detached-clause-shows
returns-in-Detached-clause-shows g c = λ task s B h.
    let now = returns-in-Detached-clause-taken g c task s B h in
    c.lemma_reading_so_far.ensures.shows _ _ _ _ now.so_far now.came ∙ ap (shown_in (given_to (B ++ take c.min-count.result c.args.piece.now) task)) (without_more g.row.H g.row.D _ s)

pub returns-in-Detached-clause-purpose : goal.returns-in-Detached-clause-purpose
returns-in-Detached-clause-purpose g c = record { inspects = refl; detached = refl; context = λ h. keeps_setting _ (returns-in-Detached-clause-taken g c _ _ _ h) h }

pub returns-in-Detached-clause-uses : goal.returns-in-Detached-clause-uses
returns-in-Detached-clause-uses g c =
    let wanted : payload_wanted_in c.args.self.now ≡ c.in-Detached.detached.left = some_wanted c.args.self.now.stopped (payload_want_of c.args.self.now.reader.phase) c.requires.some ∙ ap payload_want_of c.in-Detached.is in
    omega (arith, c.min-count.ensures, wanted)

pub returns-in_default : goal.returns-in_default
returns-in_default g c =
    let none : payload_wanted_in c.args.self.now ≡ 0 = none_wanted c.args.self.now.stopped (payload_want_of c.args.self.now.reader.phase) (not_awaiting c.args.self.now.reader.phase c.in_default.not-Detached).0 in
    absurd (omega (arith, c.requires.some, none))

pub invariant_of-self-clause-untouched : goal.invariant_of-self-clause-untouched
invariant_of-self-clause-untouched g c = λ none. absurd (untouched_awaits_none c.args.self.now.reader (c.args.self.now.untouched none) c.in-Detached.detached c.in-Detached.is)

pub returns-in-Detached-clause-counts : goal.returns-in-Detached-clause-counts
returns-in-Detached-clause-counts g c = grind (arith, common_steps)

pub slice_bounds-detached_piece-end : goal.slice_bounds-detached_piece-end
slice_bounds-detached_piece-end g c = grind (arith, common_steps)

pub invariant_of-self-clause-held : goal.invariant_of-self-clause-held
invariant_of-self-clause-held g c = c.detached_piece.ensures.held

pub invariant_of-self-clause-opened : goal.invariant_of-self-clause-opened
invariant_of-self-clause-opened g c = c.detached_piece.ensures.opened

pub returns-in-Detached-clause-left : goal.returns-in-Detached-clause-left
returns-in-Detached-clause-left g c =
    let wanted : payload_wanted_in c.args.self.now ≡ c.in-Detached.detached.left = some_wanted c.args.self.now.stopped (payload_want_of c.args.self.now.reader.phase) c.requires.some ∙ ap payload_want_of c.in-Detached.is in
    let size : length (take c.min-count.result c.args.piece.now) ≡ c.min-count.result = omega (arith, c.min-count.ensures, length-take c.min-count.result c.args.piece.now) in
    let left : payload_want_of c.detached_piece.new.self.phase + c.min-count.result ≡ payload_wanted_in c.args.self.now = omega (arith, size, wanted, c.detached_piece.ensures.left) in
    left_of c.args.self.now.stopped _ _ _ (goes_on c.args.self.now.stopped _ c.requires.some) left

pub returns-in-Detached-clause-further : goal.returns-in-Detached-clause-further
returns-in-Detached-clause-further g c = rw (goes_on c.args.self.now.stopped _ c.requires.some) c.detached_piece.ensures.further

pub returns-in-Detached-clause-complete : goal.returns-in-Detached-clause-complete
returns-in-Detached-clause-complete g c = rw (goes_on c.args.self.now.stopped _ c.requires.some) c.detached_piece.ensures.complete
