use Rattle.cose_head.proofs.lemmas.Placed.Placed.{utf8_read}
use Rattle.cose_c.proofs.claims.utf8.Goals as goal

pub returns : goal.returns
returns c = rw c.ok.ensures.value (utf8_read _ _ _ _ c.from_utf8.ensures.cases)
