use Rattle.std.proofs.lemmas.List.Sorted.{searched}
use Rattle.cose_map.proofs.lemmas.Map.Labels.Keys.{sorted}
use Rattle.cose_map.proofs.map.labels.keys.place_of.Goals as goal

pub returns : goal.returns
returns c = searched c.args.keys.now c.args.key c.binary_search.result c.binary_search.ensures.position (λ i j. sorted c.args.keys.now i j c.requires.rising)
