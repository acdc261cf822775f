use Rattle.std.proofs.Common.{◌∙◌, sym}
use Rattle.cose_map.specs.Label.View.{label_value}
use Rattle.cose_map.proofs.lemmas.Map.Labels.Others.{found_at}
use Rattle.cose_map.proofs.map.labels.others.place_of.Goals as goal

pub returns-then-is_same : goal.returns-then-is_same
returns-then-is_same c = found_at (λ other. label_value other.label) (label_value c.args.name.now) c.args.others.now c.others.place c.others.other-index _ c.others.invariant.counted c.others-test.true (sym c.is_same.ensures ∙ c.if-is_same.true)
