use Rattle.std.proofs.Common.{◌∙◌, subst}
use Rattle.cose_map.specs.Map.Labels as spec
use Rattle.cose_map.proofs.lemmas.Map.Labels.Keys.{placed_in}
use Rattle.cose_map.proofs.map.labels.keys.Keys.has.Goals as goal

pub returns : goal.returns
returns c = c.is_ok.ensures.value ∙ placed_in c.args.key _ c.place_of.result (subst (λ l. spec.IsPlace c.args.key l c.place_of.result) c.as_slice.ensures.value c.place_of.ensures)
