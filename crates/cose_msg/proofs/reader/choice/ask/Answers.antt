use Rattle.std.proofs.Common.{arith}
use Rattle.std.proofs.lemmas.Grind.{common_steps}
use Rattle.cose_msg.proofs.reader.choice.ask.Goals as goal

pub overflow_add-place : goal.overflow_add-place
overflow_add-place g c = grind (arith, common_steps)

pub check_pair-requires : goal.check_pair-requires
check_pair-requires g c = cc

pub is_empty-into-requires : goal.is_empty-into-requires
is_empty-into-requires g c = cc
