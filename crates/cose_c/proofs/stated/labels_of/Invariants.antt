-- The labels so far are those of the numbers so far.
use Rattle.std.proofs.Common.{◌≡◌, length, map, take}
use Rattle.cose_map.specs.Label.{number}
use Rattle.cose_map.specs.Label.View.{label_value}
use Rattle.cose_c.proofs.stated.labels_of.Given as goal

abbrev pub invariant-labels : goal.invariant-labels
invariant-labels l = (length l.labels ≡ 16) × (map label_value (take l.index l.labels) ≡ map number (take l.index l.numbers))
