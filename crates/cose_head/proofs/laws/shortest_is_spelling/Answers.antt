use Rattle.cose_head.proofs.lemmas.Shortest.ShortHeads.{shortest_is_head}
use Rattle.cose_head.proofs.lemmas.Shortest.ShortItems.{shortest_spells}
use Rattle.cose_head.proofs.lemmas.Shortest.ShortLeast.{shortest_least}
use Rattle.cose_head.proofs.laws.shortest_is_spelling.Goals as goal

pub returns-clause-head : goal.returns-clause-head
returns-clause-head c = shortest_is_head

pub returns-clause-item : goal.returns-clause-item
returns-clause-item c = shortest_spells

pub returns-clause-least : goal.returns-clause-least
returns-clause-least c = shortest_least
