use Rattle.std.proofs.Common.{arith}
use Rattle.std.proofs.lemmas.Grind.{common_steps}
use Rattle.cose_msg.proofs.store.StoreSink.put.Goals as goal

pub returns-then-self-clause-bytes : goal.returns-then-self-clause-bytes
returns-then-self-clause-bytes g c = grind (arith, common_steps)

pub returns-then-self-clause-failure : goal.returns-then-self-clause-failure
returns-then-self-clause-failure g c = grind (arith, common_steps)

pub returns-then-self-clause-promised : goal.returns-then-self-clause-promised
returns-then-self-clause-promised g c = grind (arith, common_steps)

pub returns-then-self-clause-promise : goal.returns-then-self-clause-promise
returns-then-self-clause-promise g c = grind (arith, common_steps)

pub returns-then-self-clause-none_kept : goal.returns-then-self-clause-none_kept
returns-then-self-clause-none_kept g c = grind (arith, common_steps)

pub returns-then-self-clause-stays_failed : goal.returns-then-self-clause-stays_failed
returns-then-self-clause-stays_failed g c = grind (arith, common_steps)

pub returns-clause-bytes : goal.returns-clause-bytes
returns-clause-bytes g c = grind (arith, common_steps)

pub returns-clause-failure : goal.returns-clause-failure
returns-clause-failure g c = grind (arith, common_steps)

pub returns-clause-promised : goal.returns-clause-promised
returns-clause-promised g c = grind (arith, common_steps)

pub returns-clause-promise : goal.returns-clause-promise
returns-clause-promise g c = grind (arith, common_steps)

pub returns-clause-none_kept : goal.returns-clause-none_kept
returns-clause-none_kept g c = grind (arith, common_steps)

pub returns-clause-stays_failed : goal.returns-clause-stays_failed
returns-clause-stays_failed g c = grind (arith, common_steps)
