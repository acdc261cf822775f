use Rattle.std.proofs.Common.{sym}
use Rattle.cose_map.specs.Label.View.{label_value}
use Rattle.cose_map.specs.Map.Labels.View.{labels_in}
use Rattle.cose_map.proofs.lemmas.Map.Labels.Key.{key_added}
use Rattle.cose_map.proofs.map.labels.Labels.add.Goals as goal

pub returns-in-Some : goal.returns-in-Some
returns-in-Some c = record { added = key_added (label_value c.args.name) c.in-Some.key c.args.self.now.keys.sorted.items _ (labels_in c.args.self.now.others) (sym c.in-Some.ensures) c.add.ensures.added }
