use Rattle.std.proofs.Common.{Bool, ℕ, [], length, take, Some, sym, subst, ap, ◌∙◌}
use Rattle.cose_msg.specs.Feed.{Uses}
use Rattle.cose_msg.specs.Kept.{answer_kept}
use Rattle.cose_msg.specs.Reading.{Reading}
use Rattle.cose_msg.specs.Shown.{shown_in}
use Rattle.cose_msg.specs.Slice.{outcome_of}
use Rattle.cose_msg.specs.Status.{status_of_answer}
use Rattle.cose_msg.specs.Task.{rules_of, to_verify}
use Rattle.cose_msg.specs.Verifier.{setting_in}
use Rattle.cose_msg.proofs.lemmas.Run.Purposes.{same_task}
use Rattle.cose_msg.proofs.lemmas.Run.Runs.{counted_meaning}
use Rattle.cose_msg.proofs.lemmas.Run.Slices.{begun, counted_fed, payload_is, payload_of_fed, reads_all, verdict_of_fed}
use Rattle.cose_msg.proofs.lemmas.Feeding.Statuses.{left_by_answer}
use Rattle.cose_msg.proofs.slice.verify_slice.Goals as goal

pub returns-clause-outcome : goal.returns-clause-outcome
returns-clause-outcome g c =
    let setting = setting_in c.args.verifier.now in
    let fresh = begun c.requires.verifies c.reset.ensures.none_taken in
    let fed = c.feed-fed.ensures.taken (to_verify setting) [] [] fresh in
    let verdict = verdict_of_fed c.settled_stays.ensures.message c.deciding_goes_last.ensures.verifying g.row.H g.row.D setting (g.E.EcVerifier.decides c.args.ec.now) c.args.message.now c.feed-fed.result.used c.conclude-verdict.result (c.feed-fed.ensures.uses (to_verify setting) [] [] fresh) (c.conclude-verdict.ensures.answer setting _ _ (counted_meaning fed) fed.came) in
    ap (outcome_of (length c.args.message.now)) verdict ∙ c.result_of.ensures.outcome

pub returns-clause-payload : goal.returns-clause-payload
returns-clause-payload g c =
    let setting = setting_in c.args.verifier.now in
    let fresh = begun c.requires.verifies c.reset.ensures.none_taken in
    let fed = c.feed-fed.ensures.taken (to_verify setting) [] [] fresh in
    let known = payload_of_fed c.settled_stays.ensures.message g.row.H g.row.D (to_verify setting) c.args.message.now _ c.feed-fed.result.used (c.feed-fed.ensures.uses (to_verify setting) [] [] fresh) (c.lemma_reading_so_far.ensures.payload (to_verify setting) _ _ _ fed.so_far fed.came) in
    payload_is c.result_of.result _ _ known c.result_of.ensures.payload

pub returns-clause-counted : goal.returns-clause-counted
returns-clause-counted g c =
    let setting = setting_in c.args.verifier.now in
    let fresh = begun c.requires.verifies c.reset.ensures.none_taken in
    let count = counted_fed c.reset.new.self.taken c.feed-fed.new.self.taken c.feed-fed.result.used fresh.counted c.feed-fed.ensures.counted in
    subst (λ (n : ℕ). Uses (rules_of g.row.H g.row.D (to_verify setting)) [] c.args.message.now n) (sym (c.conclude-verdict.ensures.counts ∙ count)) (c.feed-fed.ensures.uses (to_verify setting) [] [] fresh)

pub returns-clause-shows : goal.returns-clause-shows
returns-clause-shows g c =
    let setting = setting_in c.args.verifier.now in
    let fresh = begun c.requires.verifies c.reset.ensures.none_taken in
    let reads = reads_all c.settled_stays.ensures.message (rules_of g.row.H g.row.D (to_verify setting)) c.args.message.now c.feed-fed.result.used (c.feed-fed.ensures.uses (to_verify setting) [] [] fresh) in
    c.conclude-verdict.ensures.shown ∙ c.feed-fed.ensures.shows (to_verify setting) [] [] fresh ∙ ap (shown_in (to_verify setting)) (sym reads)

pub returns-clause-status : goal.returns-clause-status
returns-clause-status g c =
    let setting = setting_in c.args.verifier.now in
    let fresh = begun c.requires.verifies c.reset.ensures.none_taken in
    let fed = c.feed-fed.ensures.taken (to_verify setting) [] [] fresh in
    let reads = reads_all c.settled_stays.ensures.message (rules_of g.row.H g.row.D (to_verify setting)) c.args.message.now c.feed-fed.result.used (c.feed-fed.ensures.uses (to_verify setting) [] [] fresh) in
    left_by_answer (to_verify setting) (take c.feed-fed.result.used c.args.message.now) c.conclude-verdict.new.self (c.conclude-verdict.ensures.status setting _ _ (counted_meaning fed) fed.came fed.goes_on)
    ∙ ap (λ (r : Reading). status_of_answer r.answer) (sym reads)

pub returns-clause-kept : goal.returns-clause-kept
returns-clause-kept g c =
    let setting = setting_in c.args.verifier.now in
    let fresh = begun c.requires.verifies c.reset.ensures.none_taken in
    let fed = c.feed-fed.ensures.taken (to_verify setting) [] [] fresh in
    let verdict = verdict_of_fed c.settled_stays.ensures.message c.deciding_goes_last.ensures.verifying g.row.H g.row.D setting (g.E.EcVerifier.decides c.args.ec.now) c.args.message.now c.feed-fed.result.used c.conclude-verdict.result (c.feed-fed.ensures.uses (to_verify setting) [] [] fresh) (c.conclude-verdict.ensures.answer setting _ _ (counted_meaning fed) fed.came) in
    (c.conclude-verdict.result, verdict, c.conclude-verdict.ensures.kept ∙ ap (λ (stopped : Bool). answer_kept stopped (Some c.conclude-verdict.result)) fed.goes_on)

pub returns-clause-purpose : goal.returns-clause-purpose
returns-clause-purpose g c =
    let fresh = begun c.requires.verifies c.reset.ensures.none_taken in
    c.conclude-verdict.ensures.purpose ∙ same_task c.feed-fed.ensures.purpose fresh ∙ c.reset.ensures.purpose
