-- Pairs and answers of the code, without where they are in memory.
use Rattle.std.specs.Prelude.{List, Option, Some, None, Result, Ok, Err}
use Rattle.cose_head.specs.declared.item_ref.ItemRef.{ItemRef}
use Rattle.cose_head.specs.declared.refusal.Refusal.{Refusal}
use Rattle.cose_head.specs.ItemRef.{placed}
use Rattle.cose_head.specs.Items.{items_left}
use Rattle.cose_map.specs.declared.label.Label.{Label}
use Rattle.cose_map.specs.declared.map.pairs.Pairs.{Pairs}
use Rattle.cose_map.specs.Label.View.{label_value}
use Rattle.cose_map.specs.Map.Pairs.{Pair, pairs_of}
use Rattle.cose_map.specs.Map.Read.{Read}

abbrev pub pair_value : Label × ItemRef × ItemRef → Pair
pair_value found = record { name = label_value found.0; label = placed found.1; value = placed found.2 }

-- The pairs that an iterator over a map still gives.
abbrev pub pairs_left : Pairs → List Pair
pairs_left pairs = pairs_of (items_left pairs.items)

-- The result of the code, with a view of its value.
abbrev pub seen_by : {X Y : Type 0} → (X → Y) → Result X Refusal → Read Y
seen_by view (Ok x) = Ok (view x)
seen_by view (Err refusal) = Err refusal

-- The refusal, where there is one.
abbrev pub refusal_in : {A : Type 0} → Read A → Option Refusal
refusal_in (Ok x) = None
refusal_in (Err refusal) = Some refusal
