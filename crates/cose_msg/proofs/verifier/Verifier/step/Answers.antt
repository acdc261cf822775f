use Rattle.std.proofs.Common.{arith}
use Rattle.std.proofs.lemmas.Grind.{common_steps}
use Rattle.cose_msg.proofs.verifier.Verifier.step.Goals as goal

pub returns-then-rest-eq0-clause-rest : goal.returns-then-rest-eq0-clause-rest
returns-then-rest-eq0-clause-rest g c = grind (arith, common_steps)

pub returns-then-rest-eq0-clause-short : goal.returns-then-rest-eq0-clause-short
returns-then-rest-eq0-clause-short g c = grind (arith, common_steps)

pub returns-then-rest-eq0-clause-wanted : goal.returns-then-rest-eq0-clause-wanted
returns-then-rest-eq0-clause-wanted g c = grind (arith, common_steps)

pub returns-then-rest-eq0-clause-early : goal.returns-then-rest-eq0-clause-early
returns-then-rest-eq0-clause-early g c = grind (arith, common_steps)

pub returns-then-rest-eq0-clause-some : goal.returns-then-rest-eq0-clause-some
returns-then-rest-eq0-clause-some g c = grind (arith, common_steps)

pub min-requires : goal.min-requires
min-requires g c = cc

pub returns-clause-rest : goal.returns-clause-rest
returns-clause-rest g c = grind (arith, common_steps)

pub returns-clause-short : goal.returns-clause-short
returns-clause-short g c = grind (arith, common_steps)

pub returns-clause-wanted : goal.returns-clause-wanted
returns-clause-wanted g c = grind (arith, common_steps)

pub returns-clause-early : goal.returns-clause-early
returns-clause-early g c = grind (arith, common_steps)

pub returns-clause-some : goal.returns-clause-some
returns-clause-some g c = grind (arith, common_steps)
