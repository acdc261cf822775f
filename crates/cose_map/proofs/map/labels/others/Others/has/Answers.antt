use Rattle.std.proofs.Common.{◌∙◌, subst, map}
use Rattle.cose_map.specs.Label.View.{label_value}
use Rattle.cose_map.specs.Map.Labels as spec
use Rattle.cose_map.proofs.lemmas.Map.Labels.Others.{place_is_there}
use Rattle.cose_map.proofs.map.labels.others.Others.has.Goals as goal

pub returns : goal.returns
returns c = c.is_some.ensures ∙ place_is_there (label_value c.args.name.now) _ c.place_of.result (subst (λ l. spec.IsFirst (label_value c.args.name.now) (map (λ other. label_value other.label) l) c.place_of.result) c.as_slice.ensures.value c.place_of.ensures)
