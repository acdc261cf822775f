-- A set of labels of the code.
use Rattle.std.specs.Prelude.{Bool, List, length, map, nat_lt, ◌&&◌}
use Rattle.cose_map.specs.declared.map.labels.Labels.{Labels}
use Rattle.cose_map.specs.declared.map.labels.others.Others.{Others}
use Rattle.cose_map.specs.Label.{LabelValue}
use Rattle.cose_map.specs.Label.View.{label_value}
use Rattle.cose_map.specs.Map.Labels.{key_of, is_held}

abbrev pub labels_in : Others → List LabelValue
labels_in others = map (λ other. label_value other.label) others.labels.items

abbrev pub holds : Labels → LabelValue → Bool
holds labels name = is_held (key_of name) name labels.keys.sorted.items (labels_in labels.others)

abbrev pub has_room : Labels → Bool
has_room labels = nat_lt (length labels.keys.sorted.items) 24 && nat_lt (length (labels_in labels.others)) 6
