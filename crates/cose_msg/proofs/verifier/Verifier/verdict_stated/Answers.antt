use Rattle.std.proofs.Common.{◌≡◌, Some, ap, refl, sym, ◌∙◌, arith}
use Rattle.std.proofs.lemmas.Grind.{common_steps}
use Rattle.cose_msg.specs.Elsewhere.{stated_by, then_authenticated}
use Rattle.cose_msg.specs.Reading.{Reading}
use Rattle.cose_msg.specs.Task.{to_verify_elsewhere}
use Rattle.cose_msg.specs.Kept.{verdict_in}
use Rattle.cose_msg.specs.Status.{status_of_phase}
use Rattle.cose_msg.proofs.lemmas.Deciding.Decisions.{reads_on_with_verdict}
use Rattle.cose_msg.proofs.lemmas.Deciding.KeptAnswers.{known_is_kept}
use Rattle.cose_msg.proofs.lemmas.Deciding.Untouched.{one_kept}
use Rattle.cose_msg.proofs.lemmas.Run.Runs.{counted_meaning, without_more}
use Rattle.cose_msg.proofs.verifier.Verifier.verdict_stated.Goals as goal

pub returns-in-Some-clause-kept : goal.returns-in-Some-clause-kept
returns-in-Some-clause-kept g c =
    known_is_kept c.args.self.now.stopped (status_of_phase c.args.self.now.reader.phase) (verdict_in c.args.self.now.reader.phase) c.in-Some.verdict c.requires.complete (sym c.known_verdict.ensures ∙ c.in-Some.is)

pub returns-in-Some-clause-again : goal.returns-in-Some-clause-again
returns-in-Some-clause-again g c = λ verdict kept.
    let same : Some c.in-Some.verdict ≡ Some verdict = sym c.in-Some.is ∙ c.known_verdict.ensures ∙ one_kept c.args.self.now.stopped (verdict_in c.args.self.now.reader.phase) verdict kept in
    let one : c.in-Some.verdict ≡ verdict = cc in
    (one, refl)

pub returns-in-Some-clause-counts : goal.returns-in-Some-clause-counts
returns-in-Some-clause-counts g c = grind (arith, common_steps)

pub returns-in-Some-clause-purpose : goal.returns-in-Some-clause-purpose
returns-in-Some-clause-purpose g c = refl

pub returns-in-Some-clause-shown : goal.returns-in-Some-clause-shown
returns-in-Some-clause-shown g c = grind (arith, common_steps)

pub returns-in-None-clause-counts : goal.returns-in-None-clause-counts
returns-in-None-clause-counts g c = grind (arith, common_steps)

pub returns-in-None-clause-purpose : goal.returns-in-None-clause-purpose
returns-in-None-clause-purpose g c = c.conclude_stated.ensures.purpose

pub returns-in-None-clause-shown : goal.returns-in-None-clause-shown
returns-in-None-clause-shown g c = grind (arith, common_steps)

pub returns-in-Some-clause-answer : goal.returns-in-Some-clause-answer
returns-in-Some-clause-answer g c = λ setting s B h.
    let known = reads_on_with_verdict c.in-Some.verdict h.so_far (sym c.known_verdict.ensures ∙ c.in-Some.is) in
    ap (λ (r : Reading). then_authenticated setting.aad (stated_by c.args.stated) r.answer) (sym (without_more g.row.H g.row.D (to_verify_elsewhere setting) s))
    ∙ ap (then_authenticated setting.aad (stated_by c.args.stated)) known.0

pub returns-in-None-clause-answer : goal.returns-in-None-clause-answer
returns-in-None-clause-answer g c = λ setting s B h.
    ap (λ (r : Reading). then_authenticated setting.aad (stated_by c.args.stated) r.answer) (sym (without_more g.row.H g.row.D (to_verify_elsewhere setting) s))
    ∙ c.conclude_stated.ensures.answer setting _ _ (counted_meaning h) h.came
