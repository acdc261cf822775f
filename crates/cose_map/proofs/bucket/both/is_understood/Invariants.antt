use Rattle.std.proofs.Common.{◌≡◌, map, drop}
use Rattle.std.specs.List.{list_any}
use Rattle.cose_map.specs.Label.{same_label}
use Rattle.cose_map.specs.Label.View.{label_value}
use Rattle.cose_map.proofs.bucket.both.is_understood.Given as goal

-- no label so far is equal
abbrev pub invariant-understood : goal.invariant-understood
invariant-understood l = list_any (same_label (label_value l.label)) (map label_value (drop l.known-index l.understood)) ≡ list_any (same_label (label_value l.label)) (map label_value l.understood)
