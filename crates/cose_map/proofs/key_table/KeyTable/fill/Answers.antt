use Rattle.std.proofs.Common.{arith}
use Rattle.std.proofs.lemmas.Grind.{common_steps}
use Rattle.cose_map.proofs.key_table.KeyTable.fill.Goals as goal

pub read-requires : goal.read-requires
read-requires g c = grind (arith, common_steps)

pub returns-in_err-set-clause-exact : goal.returns-in_err-set-clause-exact
returns-in_err-set-clause-exact g c = grind (arith, common_steps)

pub returns-in_err-set-clause-within : goal.returns-in_err-set-clause-within
returns-in_err-set-clause-within g c = grind (arith, common_steps)

pub items-item-items-requires : goal.items-item-items-requires
items-item-items-requires g c = grind (arith, common_steps)

pub loop-item-init : goal.loop-item-init
loop-item-init g c = grind (arith, common_steps)

pub usable-requires : goal.usable-requires
usable-requires g c = grind (arith, common_steps)

pub is_full-requires : goal.is_full-requires
is_full-requires g c = grind (arith, common_steps)

pub returns-then-is_full-clause-exact : goal.returns-then-is_full-clause-exact
returns-then-is_full-clause-exact g c = grind (arith, common_steps)

pub returns-then-is_full-clause-within : goal.returns-then-is_full-clause-within
returns-then-is_full-clause-within g c = grind (arith, common_steps)

pub push-requires : goal.push-requires
push-requires g c = grind (arith, common_steps)

pub loop-item-smaller-in-Some-usable : goal.loop-item-smaller-in-Some-usable
loop-item-smaller-in-Some-usable g c = grind (arith, common_steps)

pub loop-item-preserved-in-Some-usable : goal.loop-item-preserved-in-Some-usable
loop-item-preserved-in-Some-usable g c = grind (arith, common_steps)

pub loop-item-smaller : goal.loop-item-smaller
loop-item-smaller g c = grind (arith, common_steps)

pub loop-item-preserved : goal.loop-item-preserved
loop-item-preserved g c = grind (arith, common_steps)

pub len-count-requires : goal.len-count-requires
len-count-requires g c = grind (arith, common_steps)

pub returns-clause-exact : goal.returns-clause-exact
returns-clause-exact g c = grind (arith, common_steps)

pub returns-clause-within : goal.returns-clause-within
returns-clause-within g c = grind (arith, common_steps)
