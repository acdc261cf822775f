use Rattle.cose_head.proofs.lemmas.Placed.PlacedTrees.{array_has_its_elements, map_has_its_pairs, others_have_none, tag_has_its_content, others_enclose_none}
use Rattle.cose_head.proofs.lemmas.Placed.Inside.{children_end_inside}
use Rattle.cose_head.proofs.laws.children_are_of_tree.Goals as goal

pub returns-clause-array : goal.returns-clause-array
returns-clause-array c = array_has_its_elements

pub returns-clause-map : goal.returns-clause-map
returns-clause-map c = map_has_its_pairs

pub returns-clause-others : goal.returns-clause-others
returns-clause-others c = others_have_none

pub returns-clause-inside : goal.returns-clause-inside
returns-clause-inside c = children_end_inside

pub returns-clause-enclosed : goal.returns-clause-enclosed
returns-clause-enclosed c = tag_has_its_content

pub returns-clause-no_tags : goal.returns-clause-no_tags
returns-clause-no_tags c = others_enclose_none
