use Rattle.std.proofs.Common.{◌≡◌, ap, ◌∙◌, w32}
use Rattle.std.proofs.lemmas.Int.{to_z-of_z}
use Rattle.cose_c.specs.Stream.{says_good}
use Rattle.cose_c.proofs.stream.device.cose_device_verdict_for.Goals as goal

pub returns-clause-verdict : goal.returns-clause-verdict
returns-clause-verdict c = λ same setting taken payload read done.
    let good : c.says_good-is_good.result ≡ says_good c.args.signature_is_good =
    c.says_good-is_good.ensures ∙ ap says_good (to_z-of_z w32 c.args.signature_is_good c.ranges.signature_is_good) in
    rw good at (c.verdict.ensures.verdict setting taken payload (rw c.lend-held.ensures.value read) done)

pub returns-clause-again : goal.returns-clause-again
returns-clause-again c = λ same. rw c.lend-held.ensures.value at c.verdict.ensures.again

pub returns-clause-kept : goal.returns-clause-kept
returns-clause-kept c = λ same. rw c.lend-held.ensures.value at c.verdict.ensures.kept

pub returns-clause-stays : goal.returns-clause-stays
returns-clause-stays c = λ same. rw c.lend-held.ensures.value at c.verdict.ensures.stays
