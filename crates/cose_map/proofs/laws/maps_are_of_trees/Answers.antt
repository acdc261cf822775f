use Rattle.cose_map.proofs.lemmas.Laws.Tree.{item_is_tree, map_of_tree, bucket_of_tree, key_of_tree}
use Rattle.cose_map.proofs.laws.maps_are_of_trees.Goals as goal

pub returns-clause-item : goal.returns-clause-item
returns-clause-item c = item_is_tree c.read_is_spelling.ensures.spelled c.whole_is_one_item.ensures.tree c.whole_is_one_item.ensures.accepted

pub returns-clause-map : goal.returns-clause-map
returns-clause-map c = map_of_tree c.read_is_spelling.ensures.spelled c.whole_is_one_item.ensures.tree c.look_is_of_tree.ensures.look c.children_are_of_tree.ensures.map

pub returns-clause-bucket : goal.returns-clause-bucket
returns-clause-bucket c = bucket_of_tree c.read_is_spelling.ensures.spelled c.whole_is_one_item.ensures.tree c.look_is_of_tree.ensures.look c.children_are_of_tree.ensures.map

pub returns-clause-key : goal.returns-clause-key
returns-clause-key c = key_of_tree c.read_is_spelling.ensures.spelled c.whole_is_one_item.ensures.tree c.look_is_of_tree.ensures.look c.children_are_of_tree.ensures.map
