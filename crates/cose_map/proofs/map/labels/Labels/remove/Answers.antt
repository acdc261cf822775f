use Rattle.std.proofs.Common.{sym}
use Rattle.cose_map.specs.Label.View.{label_value}
use Rattle.cose_map.specs.Map.Labels.View.{labels_in}
use Rattle.cose_map.proofs.lemmas.Map.Labels.Key.{key_removed}
use Rattle.cose_map.proofs.map.labels.Labels.remove.Goals as goal

pub returns-in-Some-clause-removed : goal.returns-in-Some-clause-removed
returns-in-Some-clause-removed c = key_removed (label_value c.args.name.now) c.in-Some.key c.args.self.now.keys.sorted.items _ (labels_in c.args.self.now.others) (sym c.in-Some.ensures) c.remove.ensures.removed
