-- What was read, in the terms of the grammar (RFC 8949 section 3): bytes that are one item, and the pairs of a map.
use Rattle.std.specs.Prelude.{◌≡◌, ◌↔◌, ◌⊎◌, ℕ, ◌≤◌, List, [], ◌∷◌, Option, Some, Ok, flat_map, ⊤}
use Rattle.cose_head.specs.Item.{Item, map, Items, no_items, item, Spells, depth_of}
use Rattle.cose_head.specs.Placed.{Placed, children_of}
use Rattle.cose_head.specs.PlacedLaws.{look_of_tree}
use Rattle.cose_head.specs.Whole.{whole}
use Rattle.cose_map.specs.Bucket.{bucket_of}
use Rattle.cose_map.specs.Key.{key_of, key_with}
use Rattle.cose_map.specs.Key.Material.{material_of}
use Rattle.cose_map.specs.Key.Value.{KeyValue}
use Rattle.cose_map.specs.Label.{LabelValue, label_like}
use Rattle.cose_map.specs.Map.Form.{Table}
use Rattle.cose_map.specs.Map.Pairs.{Pair}
use Rattle.cose_map.specs.Map.Read.{read_map}

-- The bytes spell a tree of a nesting of at most depth.
pub record IsTree (depth : ℕ) (p : Placed) (tree : Item) : Type 0 where
  pub spelled : Spells p.bytes tree
  pub nested : depth_of tree ≤ depth

-- Bytes are accepted as one item exactly where they spell one.
abbrev pub ItemIsTree : Type 0
ItemIsTree = (depth : ℕ) (p : Placed) → (whole depth p ≡ Ok p) ↔ ((tree : Item) × IsTree depth p tree)

-- The label that a tree is, if it is one: an integer, or a text string that is UTF-8 (RFC 9052 section 1.5).
abbrev pub label_of_tree : Item → Option LabelValue
label_of_tree tree = label_like (look_of_tree tree)

-- A pair has a label and a value of the tree: its name is the label, and its items are spelled as these two are.
pub record IsPair (pair : Pair) (label value : Item) : Type 0 where
  pub named : label_of_tree label ≡ Some pair.name
  pub label_spelled : Spells pair.label.bytes label
  pub value_spelled : Spells pair.value.bytes value

-- Pairs are the labels and values of a map's trees, in their order and none left out.
abbrev pub ArePairs : List Pair → Items → Type 0
ArePairs [] no_items = ⊤
ArePairs (pair ∷ others) (item label (item value trees)) = IsPair pair label value × ArePairs others trees
ArePairs pairs trees = ⊥

-- The labels and values of pairs, in turn.
abbrev pub items_of : List Pair → List Placed
items_of pairs = flat_map (λ pair. pair.label ∷ pair.value ∷ []) pairs

-- The bytes spell a map of a nesting of at most depth, and these are its pairs. Their items are its children, each at
-- its place.
pub record HasPairs (depth : ℕ) (p : Placed) (pairs : List Pair) : Type 0 where
  pub trees : Items
  pub is_map : IsTree depth p (map trees)
  pub are_pairs : ArePairs pairs trees
  pub are_children : items_of pairs ≡ children_of p

abbrev pub MapIsOfTree : Type 0
MapIsOfTree = (table : Table) (depth : ℕ) (p : Placed) (pairs : List Pair) → depth ≤ 32 → read_map table depth p ≡ Ok pairs →
    HasPairs depth p pairs

-- A bucket of no bytes has no pair (RFC 9052 section 3).
abbrev pub BucketIsOfTree : Type 0
BucketIsOfTree = (depth : ℕ) (p : Placed) (pairs : List Pair) → depth ≤ 32 → bucket_of depth p ≡ Ok pairs →
    ((p.bytes ≡ []) × (pairs ≡ [])) ⊎ HasPairs depth p pairs

-- The members of a key are taken from the pairs of its map.
abbrev pub KeyIsOfTree : Type 0
KeyIsOfTree = (p : Placed) (key : KeyValue) → key_of p ≡ Ok key →
    (pairs : List Pair) × HasPairs 8 p pairs × (material_of p pairs ≡ Ok key.material) × (key ≡ key_with pairs key.material)
