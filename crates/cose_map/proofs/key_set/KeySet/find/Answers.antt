use Rattle.std.proofs.Common.{arith}
use Rattle.std.proofs.lemmas.Grind.{common_steps}
use Rattle.cose_map.proofs.key_set.KeySet.find.Goals as goal

pub is_answerable-requires : goal.is_answerable-requires
is_answerable-requires c = grind (arith, common_steps)

pub of-item-items-requires : goal.of-item-items-requires
of-item-items-requires c = grind (arith, common_steps)

pub loop-item-init : goal.loop-item-init
loop-item-init c = grind (arith, common_steps)

pub next-requires : goal.next-requires
next-requires c = grind (arith, common_steps)

pub meet_item-requires : goal.meet_item-requires
meet_item-requires c = grind (arith, common_steps)

pub loop-item-smaller : goal.loop-item-smaller
loop-item-smaller c = grind (arith, common_steps)

pub loop-item-preserved : goal.loop-item-preserved
loop-item-preserved c = grind (arith, common_steps)

pub answer-requires : goal.answer-requires
answer-requires c = grind (arith, common_steps)
