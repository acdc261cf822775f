use Rattle.std.proofs.Common.{◌≡◌, ap, ◌∙◌, w32}
use Rattle.std.proofs.lemmas.Int.{to_z-of_z}
use Rattle.cose_c.specs.Stream.{says_good}
use Rattle.cose_c.proofs.elsewhere.large.cose_large_verdict_of_answer.Goals as goal

pub returns-clause-verdict : goal.returns-clause-verdict
returns-clause-verdict c = λ same setting taken payload read wants.
    let good : c.says_good-is_good.result ≡ says_good c.args.holds = c.says_good-is_good.ensures ∙ ap says_good (to_z-of_z w32 c.args.holds c.ranges.holds) in
    rw good at (c.verdict_of_answer.ensures.verdict setting taken payload (rw c.lend-held.ensures.value read) (rw c.lend-held.ensures.value wants))
