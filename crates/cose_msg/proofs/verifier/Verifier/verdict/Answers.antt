use Rattle.std.proofs.Common.{◌≡◌, Some, ap, refl, sym, ◌∙◌, arith}
use Rattle.std.proofs.lemmas.Grind.{common_steps}
use Rattle.cose_msg.specs.Laws.{then_verified}
use Rattle.cose_msg.proofs.lemmas.Run.Answered.{verdict_so_far}
use Rattle.cose_msg.specs.Kept.{verdict_in}
use Rattle.cose_msg.specs.Status.{status_of_phase}
use Rattle.cose_msg.proofs.lemmas.Deciding.Decisions.{reads_on_with_verdict}
use Rattle.cose_msg.proofs.lemmas.Deciding.KeptAnswers.{known_is_kept}
use Rattle.cose_msg.proofs.lemmas.Deciding.Untouched.{one_kept}
use Rattle.cose_msg.proofs.lemmas.Run.Runs.{counted_meaning}
use Rattle.cose_msg.proofs.lemmas.Feeding.Statuses.{complete_stays}
use Rattle.cose_msg.proofs.verifier.Verifier.verdict.Goals as goal

pub returns-in-Some-clause-answer : goal.returns-in-Some-clause-answer
returns-in-Some-clause-answer g c = λ setting s B h.
    let known = reads_on_with_verdict c.in-Some.verdict h.so_far (sym c.known_verdict.ensures ∙ c.in-Some.is) in
    verdict_so_far c.deciding_goes_last.ensures.verifying g.row.H g.row.D setting (g.E.EcVerifier.decides c.args.ec.now) s c.in-Some.verdict (ap (then_verified setting.aad (g.E.EcVerifier.decides c.args.ec.now)) known.0)

pub returns-in-None-clause-answer : goal.returns-in-None-clause-answer
returns-in-None-clause-answer g c = λ setting s B h.
    verdict_so_far c.deciding_goes_last.ensures.verifying g.row.H g.row.D setting (g.E.EcVerifier.decides c.args.ec.now) s c.conclude.result (c.conclude.ensures.answer setting _ _ (counted_meaning h) h.came)

pub returns-in-Some-clause-status : goal.returns-in-Some-clause-status
returns-in-Some-clause-status g c = λ setting s B h. rw h.goes_on (complete_stays c.args.self.now.stopped _ h.goes_on c.requires.complete)

pub returns-in-Some-clause-kept : goal.returns-in-Some-clause-kept
returns-in-Some-clause-kept g c =
    known_is_kept c.args.self.now.stopped (status_of_phase c.args.self.now.reader.phase) (verdict_in c.args.self.now.reader.phase) c.in-Some.verdict c.requires.complete (sym c.known_verdict.ensures ∙ c.in-Some.is)

pub returns-in-Some-clause-again : goal.returns-in-Some-clause-again
returns-in-Some-clause-again g c = λ verdict kept.
    let same : Some c.in-Some.verdict ≡ Some verdict = sym c.in-Some.is ∙ c.known_verdict.ensures ∙ one_kept c.args.self.now.stopped (verdict_in c.args.self.now.reader.phase) verdict kept in
    let one : c.in-Some.verdict ≡ verdict = cc in
    (one, refl)

pub returns-in-Some-clause-counts : goal.returns-in-Some-clause-counts
returns-in-Some-clause-counts g c = grind (arith, common_steps)

pub returns-in-Some-clause-purpose : goal.returns-in-Some-clause-purpose
returns-in-Some-clause-purpose g c = refl

pub returns-in-Some-clause-shown : goal.returns-in-Some-clause-shown
returns-in-Some-clause-shown g c = grind (arith, common_steps)

pub returns-in-None-clause-counts : goal.returns-in-None-clause-counts
returns-in-None-clause-counts g c = grind (arith, common_steps)

pub returns-in-None-clause-purpose : goal.returns-in-None-clause-purpose
returns-in-None-clause-purpose g c = c.conclude.ensures.purpose

pub returns-in-None-clause-shown : goal.returns-in-None-clause-shown
returns-in-None-clause-shown g c = grind (arith, common_steps)
