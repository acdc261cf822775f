-- A label of the code, without where it is in memory.
use Rattle.cose_map.specs.declared.label.Label.{Label}
use Rattle.cose_map.specs.declared.label.Label.TheVariants.{Int, Text}
use Rattle.cose_map.specs.Label.{LabelValue, number, words}

abbrev pub label_value : Label → LabelValue
label_value (Int n) = number n
label_value (Text text) = words text.now
