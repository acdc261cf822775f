-- Where the chosen key stands among the usable keys (RFC 9052 section 7): how many of them are before it.
use Rattle.std.specs.Prelude.{ℕ, ℤ, Bool, List, Option, None, Result, Ok, Err, is_some}
use Rattle.std.specs.List.{position_from}
use Rattle.cose_head.specs.declared.reason.Reason.{Reason}
use Rattle.cose_map.specs.Choice.{Question, chosen, fitting}
use Rattle.cose_map.specs.Key.Value.{KeyValue}

abbrev pub is_fitting : Question → KeyValue → Bool
is_fitting q key = is_some (fitting q key)

-- The number of the first key that fits, where the keys are numbered from this one on.
abbrev pub first_fitting : Question → ℕ → List KeyValue → Option ℕ
first_fitting q from keys = position_from (is_fitting q) from keys

abbrev pub where_chosen : Result (KeyValue × ℤ) Reason → Option ℕ → Option ℕ
where_chosen (Ok found) place = place
where_chosen (Err reason) place = None

-- The number of the one key that fits, from 0; none where no key is chosen.
abbrev pub place_of : Question → List KeyValue → Option ℕ
place_of q keys = where_chosen (chosen q keys) (first_fitting q 0 keys)
