use Rattle.std.proofs.Common.{arith}
use Rattle.cose_msg.proofs.reader.Reader.lemma_bounded.Goals as goal

pub returns-clause-held : goal.returns-clause-held
returns-clause-held g c = omega (arith, c.held-held.ensures.value, c.held-held.ensures.limit)

pub returns-clause-opened : goal.returns-clause-opened
returns-clause-opened g c = omega (arith, c.open_items-opened.ensures.value, c.open_items-opened.ensures.limit)
