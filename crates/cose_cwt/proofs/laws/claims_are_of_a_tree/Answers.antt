use Rattle.cose_cwt.proofs.Trees.{claims_of_tree}
use Rattle.cose_cwt.proofs.laws.claims_are_of_a_tree.Goals as goal

pub returns : goal.returns
returns c = claims_of_tree c.maps_are_of_trees.ensures.map
