use Rattle.std.proofs.Common.{◌∙◌}
use Rattle.cose_map.specs.Map.Labels.View.{holds}
use Rattle.cose_map.proofs.lemmas.Map.Ahead.{less_labels}
use Rattle.cose_map.proofs.map.ahead.remove_first.Goals as goal

pub pairs-preserved : goal.pairs-preserved
pairs-preserved c = λ name. less_labels name c.pairs.left _ _ _ (holds c.pairs.labels name) (holds c.remove.new.self name) c.in-Some.ensures.steps c.if-left-eq0.false (c.remove.ensures.removed name) ∙ c.pairs.invariant name
