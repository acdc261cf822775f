-- The forms of values: which form the value of each label has.
use Rattle.std.specs.Prelude.{Bool, Option, is_some}
use Rattle.cose_head.specs.declared.reason.Reason.{Reason}
use Rattle.cose_head.specs.Placed.{Placed, look, bytes_in}
use Rattle.cose_map.specs.Label.{LabelValue, label_of}

-- The fault of a label's value, if it has one.
abbrev pub Table : Type 0
Table = LabelValue → Placed → Option Reason

abbrev pub is_label : Placed → Bool
is_label p = is_some (label_of p)

abbrev pub is_bytes : Placed → Bool
is_bytes p = is_some (bytes_in (look p))
