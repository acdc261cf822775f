use Rattle.std.proofs.Common.{rules, ◌≡◌, ℕ, true, false, [], None, sym, ap, refl, subst, ◌∙◌, arith}
use Rattle.std.proofs.lemmas.Bool.{false≢true, true≢false}
use Rattle.std.proofs.lemmas.Grind.{common_steps}
use Rattle.cose_msg.specs.Kept.{verdict_in}
use Rattle.cose_msg.specs.Laws.{then_verified}
use Rattle.cose_msg.specs.declared.status.Status.TheVariants.{Complete}
use Rattle.cose_msg.specs.Phase.{awaits_decision, is_settled, payload_want_of}
use Rattle.cose_msg.specs.Shown.{held_input, sign_input_by}
use Rattle.cose_msg.specs.Status.{status_of_phase, status_of_reading}
use Rattle.cose_msg.specs.Task.{to_verify}
use Rattle.cose_msg.specs.Reader.{Counts}
use Rattle.cose_msg.proofs.lemmas.Deciding.PhaseCases.{known_is_decided, tells_no_input, unsigned_is_undecided}
use Rattle.cose_msg.proofs.lemmas.Deciding.Decisions.{IsDone, signed_count, reads_on_with_verdict, reads_on_without_verdict}
use Rattle.cose_msg.proofs.lemmas.Feeding.Statuses.{settled_status}
use Rattle.cose_msg.proofs.lemmas.Deciding.Untouched.{untouched_ends, untouched_is_undecided}
use Rattle.cose_msg.proofs.reader.Reader.conclude.Goals as goal

pub returns-in-Some-clause-answer : goal.returns-in-Some-clause-answer
returns-in-Some-clause-answer g c = λ setting B reading h came.
    ap (then_verified setting.aad (g.E.EcVerifier.decides c.args.ec.now)) (reads_on_with_verdict c.in-Some.verdict h (sym c.known_verdict.ensures ∙ c.in-Some.is)).0

pub returns-in-Some-clause-counted : goal.returns-in-Some-clause-counted
returns-in-Some-clause-counted g c = λ setting B reading h came. (reads_on_with_verdict c.in-Some.verdict h (sym c.known_verdict.ensures ∙ c.in-Some.is)).2

pub returns-in-Some-clause-status : goal.returns-in-Some-clause-status
returns-in-Some-clause-status g c = λ setting B reading h came.
    let settles = (reads_on_with_verdict c.in-Some.verdict h (sym c.known_verdict.ensures ∙ c.in-Some.is)).1 in
    settled_status (reading []) _ (c.lemma_reading_so_far.ensures.status (to_verify setting) B _ reading h came) settles

pub returns-in-Signed-clause-status : goal.returns-in-Signed-clause-status
returns-in-Signed-clause-status g c = λ setting B reading h came.
    let settles : IsDone (reading []) = (c.lemma_reading_so_far.ensures.settled (to_verify setting) B _ reading h came ∙ ap is_settled c.in-Signed.is, c.lemma_reading_so_far.ensures.payload_wanted (to_verify setting) B _ reading h came ∙ ap payload_want_of c.in-Signed.is) in
    let complete : Complete ≡ status_of_reading (reading []) = sym (ap status_of_phase c.in-Signed.is) ∙ c.lemma_reading_so_far.ensures.status (to_verify setting) B _ reading h came in
    settled_status (reading []) Complete complete settles

pub returns-in-Signed-clause-answer : goal.returns-in-Signed-clause-answer
returns-in-Signed-clause-answer g c = λ setting B reading h came. c.signed_verdict-verdict.ensures.answer (to_verify setting) B _ reading refl h

pub returns-in-Signed-clause-counted : goal.returns-in-Signed-clause-counted
returns-in-Signed-clause-counted g c = λ setting B reading h came.
    subst (λ (n : ℕ). Counts c.signed_verdict-verdict.result n) (sym (signed_count c.in-Signed.signed c.in-Signed.is h)) c.signed_verdict-verdict.ensures.counted

pub returns-in-Signed-clause-shown : goal.returns-in-Signed-clause-shown
returns-in-Signed-clause-shown g c = rw c.in-Signed.is refl

pub returns-in-Some-clause-untouched : goal.returns-in-Some-clause-untouched
returns-in-Some-clause-untouched g c = λ none untouched. untouched

pub returns-in-Signed-clause-untouched : goal.returns-in-Signed-clause-untouched
returns-in-Signed-clause-untouched g c = λ none untouched.
    absurd (true≢false (sym (ap awaits_decision c.in-Signed.is) ∙ untouched_is_undecided c.args.self.now untouched))

pub returns-in_default-phase : goal.returns-in_default-phase
returns-in_default-phase g c =
    let none : verdict_in c.args.self.now.phase ≡ None = search rules in
    let undecided : awaits_decision c.args.self.now.phase ≡ false = unsigned_is_undecided c.args.self.now.phase c.in_default-phase.not-Signed in
    let no_input : sign_input_by c.args.self.now ≡ None = tells_no_input c.args.self.now.phase (held_input c.args.self.now) undecided none in
    let same = c.truncate.ensures in
    record {
      kept = rw same.phase refl;
      terms = same.terms;
      shown = same.shown no_input;
      held = same.held;
      opened = same.opened;
      complete = λ awaits. absurd (false≢true (sym undecided ∙ awaits));
      answer = λ setting B reading h came. rw (c.lemma_reading_so_far.ensures.ended (to_verify setting) B _ reading h came (reads_on_without_verdict h none undecided), same.same, c.ends_at-place.ensures) refl;
      counted = λ setting B reading h came. tt;
      untouched = λ none untouched. same.untouched (c.ends_at-place.ensures ∙ untouched_ends c.args.self.now c.args.taken untouched ∙ none) untouched;
      status = λ setting B reading h came. rw (same.phase, c.lemma_reading_so_far.ensures.ended (to_verify setting) B _ reading h came (reads_on_without_verdict h none undecided), same.same, c.ends_at-place.ensures) refl;
    }

pub returns-in-Some-clause-kept : goal.returns-in-Some-clause-kept
returns-in-Some-clause-kept g c = sym c.known_verdict.ensures ∙ c.in-Some.is

pub returns-in-Some-clause-terms : goal.returns-in-Some-clause-terms
returns-in-Some-clause-terms g c = cc

pub returns-in-Some-clause-shown : goal.returns-in-Some-clause-shown
returns-in-Some-clause-shown g c = cc

pub returns-in-Some-clause-held : goal.returns-in-Some-clause-held
returns-in-Some-clause-held g c = cc

pub returns-in-Some-clause-opened : goal.returns-in-Some-clause-opened
returns-in-Some-clause-opened g c = cc

pub returns-in-Some-clause-complete : goal.returns-in-Some-clause-complete
returns-in-Some-clause-complete g c = λ awaits. absurd (known_is_decided c.args.self.now.phase c.in-Some.verdict (sym c.known_verdict.ensures ∙ c.in-Some.is) awaits)

pub invariant_of-self : goal.invariant_of-self
invariant_of-self g c = grind (arith, common_steps)

pub returns-in-Signed-clause-kept : goal.returns-in-Signed-clause-kept
returns-in-Signed-clause-kept g c = cc

pub returns-in-Signed-clause-terms : goal.returns-in-Signed-clause-terms
returns-in-Signed-clause-terms g c = cc

pub returns-in-Signed-clause-held : goal.returns-in-Signed-clause-held
returns-in-Signed-clause-held g c = cc

pub returns-in-Signed-clause-opened : goal.returns-in-Signed-clause-opened
returns-in-Signed-clause-opened g c = cc

pub returns-in-Signed-clause-complete : goal.returns-in-Signed-clause-complete
returns-in-Signed-clause-complete g c = grind (arith, common_steps)
