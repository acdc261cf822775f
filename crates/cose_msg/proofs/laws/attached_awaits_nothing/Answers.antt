use Rattle.cose_msg.proofs.lemmas.Detached.Attached.{attached_definite, awaits_nothing}
use Rattle.cose_msg.proofs.laws.attached_awaits_nothing.Goals as goal

pub returns-clause-awaits : goal.returns-clause-awaits
returns-clause-awaits c = awaits_nothing

pub returns-clause-definite : goal.returns-clause-definite
returns-clause-definite c = attached_definite c.nothing_stands_after_the_bytes.ensures.definite
