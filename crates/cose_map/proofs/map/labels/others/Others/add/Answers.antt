use Rattle.std.proofs.Common.{◌∙◌, sym}
use Rattle.cose_map.specs.Label.View.{label_value}
use Rattle.cose_map.proofs.lemmas.Map.Labels.Others.{added_at}
use Rattle.cose_map.proofs.map.labels.others.Others.add.Goals as goal

pub invariant_of-self : goal.invariant_of-self
invariant_of-self c = record { distinct = (added_at (λ other. label_value other.label) (record { label = c.args.name }) c.args.self.now.labels.items _ c.args.self.now.distinct (sym c.has.ensures ∙ c.if-has.false) c.push.ensures.items).0 }
