use Rattle.std.proofs.Common.{Ok, refl}
use Rattle.cose_tests.proofs.tests.messages.slice.verdict_again.Goals as goal

pub returns-clause-verdict : goal.returns-clause-verdict
returns-clause-verdict g c = let kept = c.verify_slice.ensures.kept in rw (c.verify.ensures.again (Ok kept.0) kept.2).0 kept.1

pub returns-clause-answers : goal.returns-clause-answers
returns-clause-answers g c = let kept = c.verify_slice.ensures.kept in rw (c.verify.ensures.again (Ok kept.0) kept.2).0 refl

pub returns-clause-none_taken : goal.returns-clause-none_taken
returns-clause-none_taken g c = let kept = c.verify_slice.ensures.kept in (c.verify.ensures.again (Ok kept.0) kept.2).2
