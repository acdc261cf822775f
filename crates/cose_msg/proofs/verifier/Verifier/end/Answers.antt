use Rattle.std.proofs.Common.{arith, ◌≡◌, true, false, refl, sym, ap, ◌∙◌}
use Rattle.std.proofs.lemmas.Bool.{true≢false}
use Rattle.cose_msg.specs.Phase.{ends_at}
use Rattle.cose_msg.specs.Reading.{Reading}
use Rattle.cose_msg.specs.Status.{is_open, status_of_phase, status_of_answer}
use Rattle.cose_msg.specs.Shown.{held_input}
use Rattle.cose_msg.proofs.lemmas.Deciding.Decisions.{open_shows_no_input}
use Rattle.cose_msg.proofs.lemmas.Deciding.PhaseCases.{more_is_unsettled, unsettled_ends}
use Rattle.cose_msg.proofs.lemmas.Run.Runs.{without_more}
use Rattle.cose_msg.proofs.lemmas.Feeding.Statuses.{either_is_open, more_goes_on, more_unless_stopped, open_goes_on, open_unless_stopped}
use Rattle.cose_msg.proofs.lemmas.Deciding.Untouched.{untouched_ends}
use Rattle.cose_msg.proofs.verifier.Verifier.end.Goals as goal

pub returns-in-More-clause-current : goal.returns-in-More-clause-current
returns-in-More-clause-current g c =
    let goes_on = open_goes_on c.args.self.now.stopped _ (ap is_open (sym c.status.ensures.value) ∙ either_is_open c.status.result c.in-More.is) in
    rw (goes_on, c.truncate.ensures.phase) refl

pub returns-in-More-clause-truncated : goal.returns-in-More-clause-truncated
returns-in-More-clause-truncated g c = λ more.
    let phase = c.args.self.now.reader.phase in
    let ends : ends_at phase c.args.self.now.taken ≡ c.args.self.now.taken = unsettled_ends phase c.args.self.now.taken (more_is_unsettled phase (more_unless_stopped c.args.self.now.stopped _ more)) in
    rw (c.truncate.ensures.same, c.ends_at-place.ensures ∙ ends) refl

pub returns-in-More-clause-kept : goal.returns-in-More-clause-kept
returns-in-More-clause-kept g c = λ more.
    let phase = c.args.self.now.reader.phase in
    let ends : ends_at phase c.args.self.now.taken ≡ c.args.self.now.taken = unsettled_ends phase c.args.self.now.taken (more_is_unsettled phase (more_unless_stopped c.args.self.now.stopped _ more)) in
    let goes_on = more_goes_on c.args.self.now.stopped _ more in
    rw (goes_on, c.truncate.ensures.phase, c.truncate.ensures.same, c.ends_at-place.ensures ∙ ends) refl

pub returns-in-More-clause-awaiting : goal.returns-in-More-clause-awaiting
returns-in-More-clause-awaiting g c = λ task s B h awaits.
    let phase = c.args.self.now.reader.phase in
    let opened : is_open (status_of_phase phase) ≡ true = open_unless_stopped c.args.self.now.stopped (status_of_phase phase) (ap is_open awaits) in
    let ended = c.lemma_reading_so_far.ensures.ended task B _ _ h.so_far h.came opened in
    rw (c.truncate.ensures.same, c.ends_at-place.ensures ∙ ap (ends_at phase) h.counted) (sym (ap status_of_answer (ap (λ (r : Reading). r.answer) (sym (without_more g.row.H g.row.D task s)) ∙ ended)))

pub returns-in-More-clause-again : goal.returns-in-More-clause-again
returns-in-More-clause-again g c = λ closed.
    absurd (true≢false (sym (ap is_open (sym c.status.ensures.value) ∙ either_is_open c.status.result c.in-More.is) ∙ closed))

pub returns-in-More-clause-purpose : goal.returns-in-More-clause-purpose
returns-in-More-clause-purpose g c = rw c.truncate.ensures.terms refl

-- A message of which bytes are wanted, or of its payload, gives no signature.
pub returns-in-More-clause-shown : goal.returns-in-More-clause-shown
returns-in-More-clause-shown g c =
    let now = c.args.self.now in
    let opened = open_unless_stopped now.stopped (status_of_phase now.reader.phase) (ap is_open (sym c.status.ensures.value) ∙ either_is_open c.status.result c.in-More.is) in
    c.truncate.ensures.shown (open_shows_no_input now.reader.phase (held_input now.reader) opened)

pub invariant_of-self-clause-untouched : goal.invariant_of-self-clause-untouched
invariant_of-self-clause-untouched g c = λ none.
    let untouched = c.args.self.now.untouched none in
    c.truncate.ensures.untouched (c.ends_at-place.ensures ∙ untouched_ends c.args.self.now.reader c.args.self.now.taken untouched ∙ none) untouched

pub invariant_of-self-clause-held : goal.invariant_of-self-clause-held
invariant_of-self-clause-held g c = omega (arith, c.truncate.ensures.held, c.args.self.now.held)

pub invariant_of-self-clause-opened : goal.invariant_of-self-clause-opened
invariant_of-self-clause-opened g c = omega (arith, c.truncate.ensures.opened, c.args.self.now.opened)
