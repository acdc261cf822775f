use Rattle.std.proofs.Common.{arith}
use Rattle.std.proofs.lemmas.Grind.{common_steps}
use Rattle.cose_msg.proofs.verifier.Verifier.elsewhere_detached.Goals as goal

pub returns-clause-none_taken : goal.returns-clause-none_taken
returns-clause-none_taken g c = grind (arith, common_steps)

pub returns-clause-shows : goal.returns-clause-shows
returns-clause-shows g c = grind (arith, common_steps)

pub returns-clause-status : goal.returns-clause-status
returns-clause-status g c = grind (arith, common_steps)

pub returns-clause-held : goal.returns-clause-held
returns-clause-held g c = grind (arith, common_steps)

pub returns-clause-inspects : goal.returns-clause-inspects
returns-clause-inspects g c = grind (arith, common_steps)

pub returns-clause-elsewhere : goal.returns-clause-elsewhere
returns-clause-elsewhere g c = grind (arith, common_steps)

pub returns-clause-detached : goal.returns-clause-detached
returns-clause-detached g c = grind (arith, common_steps)
