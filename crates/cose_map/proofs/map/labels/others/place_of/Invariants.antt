use Rattle.std.proofs.Common.{◌≡◌, map, drop}
use Rattle.cose_map.specs.Map.Labels.{is_among}
use Rattle.cose_map.specs.Label.View.{label_value}
use Rattle.cose_map.proofs.map.labels.others.place_of.Given as goal

-- the label is none of those before this place
abbrev pub invariant-others : goal.invariant-others
invariant-others l = record {
  counted : l.place ≡ l.other-index;
  left : is_among (label_value l.name) (map (λ other. label_value other.label) (drop l.other-index l.others)) ≡ is_among (label_value l.name) (map (λ other. label_value other.label) l.others);
}
