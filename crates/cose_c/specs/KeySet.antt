-- What a caller gets of a key set.
use Rattle.std.specs.Prelude.{List, length, Ok, Err}
use Rattle.cose_map.specs.Key.Value.{KeyValue}
use Rattle.cose_map.specs.Map.Read.{Read}
use Rattle.cose_c.specs.declared.key_set.CoseKeySet.{CoseKeySet}
use Rattle.cose_c.specs.declared.numbers.CoseStatus.{CoseStatus}
use Rattle.cose_c.specs.Numbers.{refused_status}

abbrev pub no_key_set : CoseStatus → CoseKeySet
no_key_set s = record { status = s.status; reason = s.reason; place = s.place; usable = 0 }

-- How many usable keys there are, or the refusal.
abbrev pub key_set_numbers : Read (List KeyValue) → CoseKeySet
key_set_numbers (Ok keys) = record { status = 7; reason = 0; place = 0; usable = length keys }
key_set_numbers (Err refusal) = no_key_set (refused_status 4 refusal)
