use Rattle.cose_head.proofs.lemmas.Reasons.{whole_reason}
use Rattle.std.proofs.Common.{arith}
use Rattle.cose_head.proofs.lemmas.Placed.Whole.{whole_is_item, item_is_whole, whole_is_deeper, refused_inside, one_item_is_whole, whole_is_one_item}
use Rattle.cose_head.proofs.laws.whole_is_one_item.Goals as goal

pub returns-clause-tree : goal.returns-clause-tree
returns-clause-tree c = whole_is_item

pub returns-clause-accepted : goal.returns-clause-accepted
returns-clause-accepted c = item_is_whole

pub returns-clause-deeper : goal.returns-clause-deeper
returns-clause-deeper c = whole_is_deeper

pub returns-clause-inside : goal.returns-clause-inside
returns-clause-inside c = refused_inside

pub returns-clause-test : goal.returns-clause-test
returns-clause-test c = λ p. (one_item_is_whole p, λ e. whole_is_one_item 32 p p (omega arith) e)

pub returns-clause-reasons : goal.returns-clause-reasons
returns-clause-reasons c = whole_reason
