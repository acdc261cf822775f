use Rattle.std.proofs.Common.{rules, ◌≡◌, true, false, None, sym, ap, refl, ◌∙◌, arith}
use Rattle.std.proofs.lemmas.Bool.{false≢true, true≢false}
use Rattle.std.proofs.lemmas.Grind.{common_steps}
use Rattle.cose_msg.specs.Kept.{verdict_in}
use Rattle.cose_msg.specs.Elsewhere.{stated_by, then_authenticated}
use Rattle.cose_msg.specs.Phase.{awaits_decision}
use Rattle.cose_msg.specs.Shown.{held_input, sign_input_by}
use Rattle.cose_msg.specs.Task.{to_verify_elsewhere}
use Rattle.cose_msg.proofs.lemmas.Deciding.PhaseCases.{known_is_decided, tells_no_input, unsigned_is_undecided}
use Rattle.cose_msg.proofs.lemmas.Deciding.Decisions.{reads_on_with_verdict, reads_on_unstated}
use Rattle.cose_msg.proofs.lemmas.Deciding.Untouched.{untouched_ends, untouched_is_undecided}
use Rattle.cose_msg.proofs.reader.Reader.conclude_stated.Goals as goal

pub returns-in-Some-clause-answer : goal.returns-in-Some-clause-answer
returns-in-Some-clause-answer g c = λ setting B reading h came.
    ap (then_authenticated setting.aad (stated_by c.args.stated)) (reads_on_with_verdict c.in-Some.verdict h (sym c.known_verdict.ensures ∙ c.in-Some.is)).0

pub returns-in-Signed-clause-answer : goal.returns-in-Signed-clause-answer
returns-in-Signed-clause-answer g c = λ setting B reading h came. c.stated_verdict-verdict.ensures (to_verify_elsewhere setting) B _ reading h

pub returns-in-Signed-clause-shown : goal.returns-in-Signed-clause-shown
returns-in-Signed-clause-shown g c = rw c.in-Signed.is refl

pub returns-in-Some-clause-untouched : goal.returns-in-Some-clause-untouched
returns-in-Some-clause-untouched g c = λ none untouched. untouched

pub returns-in-Signed-clause-untouched : goal.returns-in-Signed-clause-untouched
returns-in-Signed-clause-untouched g c = λ none untouched.
    absurd (true≢false (sym (ap awaits_decision c.in-Signed.is) ∙ untouched_is_undecided c.args.self.now untouched))

pub returns-in_default-phase : goal.returns-in_default-phase
returns-in_default-phase g c =
    let none : verdict_in c.args.self.now.phase ≡ None = search rules in
    let undecided : awaits_decision c.args.self.now.phase ≡ false = unsigned_is_undecided c.args.self.now.phase c.in_default-phase.not-Signed in
    let no_input : sign_input_by c.args.self.now ≡ None = tells_no_input c.args.self.now.phase (held_input c.args.self.now) undecided none in
    let same = c.truncate.ensures in
    record {
      kept = rw same.phase refl;
      terms = same.terms;
      shown = same.shown no_input;
      held = same.held;
      opened = same.opened;
      complete = λ awaits. absurd (false≢true (sym undecided ∙ awaits));
      answer = λ setting B reading h came. rw (c.lemma_reading_so_far.ensures.ended (to_verify_elsewhere setting) B _ reading h came (reads_on_unstated setting h none undecided), same.same, c.ends_at-place.ensures) refl;
      untouched = λ none untouched. same.untouched (c.ends_at-place.ensures ∙ untouched_ends c.args.self.now c.args.taken untouched ∙ none) untouched;
    }

pub returns-in-Some-clause-kept : goal.returns-in-Some-clause-kept
returns-in-Some-clause-kept g c = sym c.known_verdict.ensures ∙ c.in-Some.is

pub returns-in-Some-clause-terms : goal.returns-in-Some-clause-terms
returns-in-Some-clause-terms g c = cc

pub returns-in-Some-clause-shown : goal.returns-in-Some-clause-shown
returns-in-Some-clause-shown g c = cc

pub returns-in-Some-clause-held : goal.returns-in-Some-clause-held
returns-in-Some-clause-held g c = cc

pub returns-in-Some-clause-opened : goal.returns-in-Some-clause-opened
returns-in-Some-clause-opened g c = cc

pub returns-in-Some-clause-complete : goal.returns-in-Some-clause-complete
returns-in-Some-clause-complete g c = λ awaits. absurd (known_is_decided c.args.self.now.phase c.in-Some.verdict (sym c.known_verdict.ensures ∙ c.in-Some.is) awaits)

pub invariant_of-self : goal.invariant_of-self
invariant_of-self g c = grind (arith, common_steps)

pub returns-in-Signed-clause-kept : goal.returns-in-Signed-clause-kept
returns-in-Signed-clause-kept g c = cc

pub returns-in-Signed-clause-terms : goal.returns-in-Signed-clause-terms
returns-in-Signed-clause-terms g c = cc

pub returns-in-Signed-clause-held : goal.returns-in-Signed-clause-held
returns-in-Signed-clause-held g c = cc

pub returns-in-Signed-clause-opened : goal.returns-in-Signed-clause-opened
returns-in-Signed-clause-opened g c = cc

pub returns-in-Signed-clause-complete : goal.returns-in-Signed-clause-complete
returns-in-Signed-clause-complete g c = grind (arith, common_steps)
