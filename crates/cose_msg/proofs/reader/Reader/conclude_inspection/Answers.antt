use Rattle.std.proofs.Common.{◌≡◌, [], None, Some, ◌∙◌, sym, refl}
use Rattle.cose_msg.specs.Kept.{inspected_in}
use Rattle.cose_msg.specs.Shown.{held_input}
use Rattle.cose_msg.specs.Task.{to_inspect}
use Rattle.cose_msg.proofs.lemmas.Deciding.Decisions.{open_shows_no_input, reads_on_inspected, reads_on_without_shape}
use Rattle.cose_msg.proofs.lemmas.Feeding.Statuses.{settled_status}
use Rattle.cose_msg.proofs.lemmas.Deciding.Untouched.{untouched_ends}
use Rattle.cose_msg.proofs.reader.Reader.conclude_inspection.Goals as goal

pub returns-in-Some : goal.returns-in-Some
returns-in-Some g c =
    let is : inspected_in c.args.self.now.phase ≡ Some c.in-Some.inspected = sym c.inspected.ensures ∙ c.in-Some.is in
    record {
      kept = is;
      terms = refl;
      shown = λ setting B reading h came. refl;
      held = refl;
      opened = refl;
      answer = λ setting B reading h came. (reads_on_inspected c.in-Some.inspected h is).0;
      counted = λ setting B reading h came. (reads_on_inspected c.in-Some.inspected h is).2;
      status = λ setting B reading h came. settled_status (reading []) _ (c.lemma_reading_so_far.ensures.status (to_inspect setting) B _ reading h came) (reads_on_inspected c.in-Some.inspected h is).1;
      untouched = λ none untouched. untouched;
    }

pub returns-in-None : goal.returns-in-None
returns-in-None g c =
    let none : inspected_in c.args.self.now.phase ≡ None = sym c.inspected.ensures ∙ c.in-None.is in
    let same = c.truncate.ensures in
    record {
      kept = rw same.phase refl;
      terms = same.terms;
      shown = λ setting B reading h came. same.shown (open_shows_no_input c.args.self.now.phase (held_input c.args.self.now) (reads_on_without_shape setting h none));
      held = same.held;
      opened = same.opened;
      answer = λ setting B reading h came. rw (c.lemma_reading_so_far.ensures.ended (to_inspect setting) B _ reading h came (reads_on_without_shape setting h none), same.same, c.ends_at-place.ensures) refl;
      counted = λ setting B reading h came. tt;
      status = λ setting B reading h came. rw (same.phase, c.lemma_reading_so_far.ensures.ended (to_inspect setting) B _ reading h came (reads_on_without_shape setting h none), same.same, c.ends_at-place.ensures) refl;
      untouched = λ none untouched. same.untouched (c.ends_at-place.ensures ∙ untouched_ends c.args.self.now c.args.taken untouched ∙ none) untouched;
    }
