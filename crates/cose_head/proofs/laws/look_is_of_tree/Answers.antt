use Rattle.cose_head.proofs.lemmas.Placed.PlacedTrees.{look_is_of_tree, head_is_of_item}
use Rattle.cose_head.proofs.laws.look_is_of_tree.Goals as goal

pub returns-clause-look : goal.returns-clause-look
returns-clause-look c = look_is_of_tree

pub returns-clause-head : goal.returns-clause-head
returns-clause-head c = head_is_of_item
