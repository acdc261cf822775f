-- A map of labels and values, read with a table that says which form each label's value has. Header buckets, keys,
-- claims and confirmations differ in the table alone.
use Rattle.std.specs.Prelude.{ℕ, Bool, List, [], ◌∷◌, ◌++◌, Option, Some, None, Result, Ok, Err, if◌then◌else◌}
use Rattle.cose_head.specs.declared.reason.Reason.{Reason}
use Rattle.cose_head.specs.declared.reason.Reason.TheVariants.{NotMap, BadLabel, DuplicateLabel}
use Rattle.cose_head.specs.declared.refusal.Refusal.{Refusal}
use Rattle.cose_head.specs.Placed.{Placed, look, is_a_map, children_of}
use Rattle.cose_head.specs.Whole.{whole}
use Rattle.cose_map.specs.Label.{LabelValue, label_of}
use Rattle.cose_map.specs.Map.Form.{Table}
use Rattle.cose_map.specs.Map.Pairs.{Pair, has_label}

-- What was read, or the refusal: the first fault, with its reason and place.
abbrev pub Read : Type 0 → Type 0
Read A = Result A Refusal

infixl 10 ◌>>=◌
abbrev pub ◌>>=◌ : {A B : Type 0} → Read A → (A → Read B) → Read B
(Ok x) >>= f = f x
(Err refusal) >>= f = Err refusal

abbrev pub refuse : {A : Type 0} → Reason → Placed → Read A
refuse reason p = Err (record { reason = reason; place = p.place })

-- One pair after earlier ones (RFC 9052 section 3): its label must be a label and not an earlier one, and the value
-- must have its form.
abbrev pub name_at : Placed → Option LabelValue → Read LabelValue
name_at label None = refuse BadLabel label
name_at label (Some name) = Ok name

abbrev pub new_name : Placed → Bool → LabelValue → Read LabelValue
new_name label taken name = if taken then refuse DuplicateLabel label else Ok name

abbrev pub value_at : Placed → Option Reason → LabelValue → Placed → Read Pair
value_at label None name value = Ok (record { name = name; label = label; value = value })
value_at label (Some reason) name value = refuse reason value

abbrev pub label_after : List Pair → Placed → Read LabelValue
label_after earlier label = do
  name ← name_at label (label_of label)
  new_name label (has_label name earlier) name

-- The pair of a label, which may be taken.
abbrev pub new_pair : Table → Bool → Placed → LabelValue → Placed → Read Pair
new_pair table taken label name value = do
  new ← new_name label taken name
  value_at label (table new value) new value

abbrev pub pair_after : Table → List Pair → Placed → Placed → Read Pair
pair_after table earlier label value = do
  name ← label_after earlier label
  value_at label (table name value) name value

-- The pairs in their order, from the children of a map.
unfoldable pub check_pairs : Table → List Pair → List Placed → Read (List Pair)
check_pairs table earlier [] = Ok earlier
check_pairs table earlier (label ∷ []) = Ok earlier
check_pairs table earlier (label ∷ value ∷ others) = do
  pair ← pair_after table earlier label value
  check_pairs table (earlier ++ pair ∷ []) others

-- An item: it must be a map, and its pairs must have no fault.
abbrev pub check_map : Table → Placed → Read (List Pair)
check_map table p = if is_a_map (look p) then check_pairs table [] (children_of p) else refuse NotMap p

-- Bytes that are exactly one map.
abbrev pub read_map : Table → ℕ → Placed → Read (List Pair)
read_map table depth p = do
  item ← whole depth p
  check_map table item
