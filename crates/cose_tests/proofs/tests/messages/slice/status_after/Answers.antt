use Rattle.std.proofs.Common.{◌∙◌}
use Rattle.cose_tests.proofs.tests.messages.slice.status_after.Goals as goal

pub returns : goal.returns
returns c = c.status.ensures.value ∙ c.verify_slice.ensures.status
