-- The key that is chosen stands at the place that is given for it.
use Rattle.std.specs.Prelude.{◌≡◌, ℤ, List, None, Some, Ok, Err, option_and_then}
use Rattle.std.specs.List.{slice_get}
use Rattle.cose_head.specs.declared.reason.Reason.{Reason}
use Rattle.cose_map.specs.Choice.{Question, chosen}
use Rattle.cose_map.specs.Choice.Place.{place_of}
use Rattle.cose_map.specs.Key.Value.{KeyValue}

abbrev pub ChosenStandsThere : Type 0
ChosenStandsThere = (q : Question) (keys : List KeyValue) (key : KeyValue) (n : ℤ) → chosen q keys ≡ Ok (key, n) →
    option_and_then (slice_get keys) (place_of q keys) ≡ Some key

abbrev pub NoPlaceOfNone : Type 0
NoPlaceOfNone = (q : Question) (keys : List KeyValue) (reason : Reason) → chosen q keys ≡ Err reason → place_of q keys ≡ None
