use Rattle.cose_map.proofs.lemmas.Laws.Inside.{map_refused_inside, read_refused_inside, bucket_refused_inside, key_refused_inside, okp_refused_inside, found_ends_inside, bucket_ends_inside, pair_refused_inside}
use Rattle.cose_map.proofs.laws.refusals_stand_inside.Goals as goal

pub returns-clause-map : goal.returns-clause-map
returns-clause-map c = map_refused_inside c.whole_is_one_item.ensures.tree c.whole_is_one_item.ensures.inside c.children_are_of_tree.ensures.inside

pub returns-clause-read : goal.returns-clause-read
returns-clause-read c = read_refused_inside c.whole_is_one_item.ensures.tree c.whole_is_one_item.ensures.inside c.children_are_of_tree.ensures.inside

pub returns-clause-bucket : goal.returns-clause-bucket
returns-clause-bucket c = bucket_refused_inside c.whole_is_one_item.ensures.tree c.whole_is_one_item.ensures.inside c.children_are_of_tree.ensures.inside

pub returns-clause-key : goal.returns-clause-key
returns-clause-key c = key_refused_inside c.whole_is_one_item.ensures.tree c.whole_is_one_item.ensures.inside c.children_are_of_tree.ensures.inside

pub returns-clause-okp_key : goal.returns-clause-okp_key
returns-clause-okp_key c = okp_refused_inside c.whole_is_one_item.ensures.tree c.whole_is_one_item.ensures.inside c.children_are_of_tree.ensures.inside

pub returns-clause-found : goal.returns-clause-found
returns-clause-found c = found_ends_inside c.whole_is_one_item.ensures.tree c.whole_is_one_item.ensures.inside c.children_are_of_tree.ensures.inside

pub returns-clause-pairs : goal.returns-clause-pairs
returns-clause-pairs c = bucket_ends_inside c.whole_is_one_item.ensures.tree c.whole_is_one_item.ensures.inside c.children_are_of_tree.ensures.inside

pub returns-clause-two_buckets : goal.returns-clause-two_buckets
returns-clause-two_buckets c = pair_refused_inside c.whole_is_one_item.ensures.tree c.whole_is_one_item.ensures.inside c.children_are_of_tree.ensures.inside
