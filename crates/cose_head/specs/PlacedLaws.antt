-- Laws of items and their trees (RFC 8949 section 3): what an item is, and which children it has.
use Rattle.std.specs.Prelude.{◌≡◌, ◌↔◌, ℕ, ◌+◌, ◌-◌, ◌*◌, ◌≤◌, pos, negsuc, Bool, true, false, List, [], ◌∷◌, ◌++◌, length, Some, None, Ok, Err, IfErr, ◌==◌, if◌then◌else◌, ⊤}
use Rattle.std.specs.List.{AllByRecursion, Contains}
use Rattle.cose_head.specs.declared.refusal.Refusal.{Refusal}
use Rattle.cose_head.specs.Reason.{whole_reasons}
use Rattle.cose_head.specs.Item.{Item, unsigned, negative, byte_string, text_string, array, map, tag, simple, float, Items, no_items, item, count_of, IsHead}
use Rattle.cose_head.specs.Reading.{Left, read}
use Rattle.cose_head.specs.Measured.{left_of}
use Rattle.cose_head.specs.Laws.{SpellsHead}
use Rattle.cose_head.specs.Placed.{Placed, head_of_item, Look, integer, byte_content, text_content, an_array, a_map, a_tag, truth, a_float, other, look, tag_in, children_of, children_if_any}
use Rattle.cose_head.specs.Whole.{whole, is_one_item}

-- The bytes of an item, read alone and within a nesting allowance, are this tree, with no byte left.
pub record IsItem (depth : ℕ) (p : Placed) (tree : Item) : Type 0 where
  pub rest : Left
  pub is_read : read depth (left_of p.bytes (length p.bytes) p.place) ≡ Ok (tree, rest)
  pub nothing_left : rest.bytes ≡ []

-- Bytes that are accepted as exactly one item are the item of one tree, and the bytes of the item of a tree are
-- accepted.
abbrev pub WholeIsItem : Type 0
WholeIsItem = (depth : ℕ) (p q : Placed) → whole depth p ≡ Ok q → (tree : Item) × IsItem depth p tree × (q ≡ p)

abbrev pub ItemIsWhole : Type 0
ItemIsWhole = (depth : ℕ) (p : Placed) (tree : Item) → IsItem depth p tree → whole depth p ≡ Ok p

-- The same bytes are accepted with more nesting allowed.
abbrev pub WholeIsDeeper : Type 0
WholeIsDeeper = (depth deeper : ℕ) (p q : Placed) → depth ≤ deeper → whole depth p ≡ Ok q → whole deeper p ≡ Ok q

-- The test for one item is whether the bytes are accepted, at any place.
abbrev pub OneItemIsWhole : Type 0
OneItemIsWhole = (p : Placed) → (is_one_item p.bytes ≡ true) ↔ (whole 32 p ≡ Ok p)

-- Where an item ends; and that a place is within its bytes or at their end.
abbrev pub end_of : Placed → ℕ
end_of p = p.place + length p.bytes

abbrev pub StandsIn : Placed → ℕ → Type 0
StandsIn p place = (p.place ≤ place) × (place ≤ end_of p)

-- The place of a refusal is within the bytes or at their end.
abbrev pub WholeIsRefusedInside : Type 0
WholeIsRefusedInside = (depth : ℕ) (p : Placed) → IfErr (whole depth p) (λ refusal. StandsIn p refusal.place)

-- The reasons: never Truncated, since the room is the number of the bytes.
abbrev pub WholeReasons : Type 0
WholeReasons = (depth : ℕ) (p : Placed) (refusal : Refusal) → whole depth p ≡ Err refusal → Contains whole_reasons refusal.reason

-- What a tree is at its root. The simple values 20 and 21 are false and true (section 3.3).
abbrev pub look_of_tree : Item → Look
look_of_tree (unsigned n) = integer (pos n)
look_of_tree (negative n) = integer (negsuc n)
look_of_tree (byte_string content) = byte_content content
look_of_tree (text_string content) = text_content content
look_of_tree (array trees) = an_array
look_of_tree (map trees) = a_map
look_of_tree (tag n content) = a_tag n
look_of_tree (simple n) = if n == 20 then truth false else if n == 21 then truth true else other
look_of_tree (float width bits) = a_float

-- The items are these trees, one for each, in their order.
abbrev pub AreItems : ℕ → List Placed → Items → Type 0
AreItems depth [] no_items = ⊤
AreItems depth (first ∷ others) (item tree trees) = IsItem depth first tree × AreItems depth others trees
AreItems depth items trees = ⊥

-- The bytes of items, one after another.
abbrev pub bytes_of_all : List Placed → List ℕ
bytes_of_all [] = []
bytes_of_all (first ∷ others) = first.bytes ++ bytes_of_all others

-- The first item is at the place, and each other one where the one before it ends.
abbrev pub StandFrom : ℕ → List Placed → Type 0
StandFrom place [] = ⊤
StandFrom place (first ∷ others) = (first.place ≡ place) × StandFrom (place + length first.bytes) others

-- An item has these trees for its children, in their order and none left out: its bytes are a head of the major type and
-- the argument, and then the bytes of its children, one after another, each of them one tree within the nesting allowance.
pub record HasChildren (depth : ℕ) (p : Placed) (major argument : ℕ) (trees : Items) : Type 0 where
  pub head : List ℕ
  pub is_head : IsHead head major argument
  pub whole : p.bytes ≡ head ++ bytes_of_all (children_of p)
  pub places : StandFrom (p.place + length head) (children_of p)
  pub count : length (children_of p) ≡ count_of trees
  pub are_items : AreItems depth (children_of p) trees
  pub some : children_if_any p ≡ Some (children_of p)

-- The children of an array (major type 4) are its elements, read within a nesting of one less.
abbrev pub ArrayHasItsElements : Type 0
ArrayHasItsElements = (depth : ℕ) (p : Placed) (trees : Items) → depth ≤ 32 → IsItem depth p (array trees) →
    HasChildren (depth - 1) p 4 (count_of trees) trees

-- The children of a map (major type 5) are the labels and values of its pairs, in turn.
abbrev pub MapHasItsPairs : Type 0
MapHasItsPairs = (depth : ℕ) (p : Placed) (trees : Items) → depth ≤ 32 → IsItem depth p (map trees) →
    (pairs : ℕ) × (2 * pairs ≡ count_of trees) × HasChildren (depth - 1) p 5 pairs trees

-- Other items have no children: the item that a tag encloses isn't one.
abbrev pub is_list : Item → Bool
is_list (array trees) = true
is_list (map trees) = true
is_list _ = false

abbrev pub OthersHaveNone : Type 0
OthersHaveNone = (depth : ℕ) (p : Placed) (tree : Item) → IsItem depth p tree → is_list tree ≡ false → (children_if_any p ≡ None)
    × (children_of p ≡ [])

-- A tag has its number, and encloses the item of its content: its bytes are a head of major type 6 and the number, and
-- then the content's, read within a nesting of one less.
pub record HasContent (depth : ℕ) (p : Placed) (number : ℕ) (content : Item) : Type 0 where
  pub head : List ℕ
  pub enclosed : Placed
  pub is_head : IsHead head 6 number
  pub whole : p.bytes ≡ head ++ enclosed.bytes
  pub place : enclosed.place ≡ p.place + length head
  pub is_item : IsItem (depth - 1) enclosed content
  pub found : tag_in p ≡ Some (number, enclosed)

abbrev pub TagHasItsContent : Type 0
TagHasItsContent = (depth : ℕ) (p : Placed) (number : ℕ) (content : Item) → IsItem depth p (tag number content) → HasContent depth p number content

abbrev pub is_tag : Item → Bool
is_tag (tag number content) = true
is_tag _ = false

-- Other items aren't tags.
abbrev pub OthersEncloseNone : Type 0
OthersEncloseNone = (depth : ℕ) (p : Placed) (tree : Item) → IsItem depth p tree → is_tag tree ≡ false → tag_in p ≡ None

-- What an item is, is what its tree is at the root.
abbrev pub LookIsOfTree : Type 0
LookIsOfTree = (depth : ℕ) (p : Placed) (tree : Item) → IsItem depth p tree → look p ≡ look_of_tree tree

-- The head of an item is the one that its bytes begin with.
abbrev pub HeadIsOfItem : Type 0
HeadIsOfItem = (depth : ℕ) (p : Placed) (tree : Item) → IsItem depth p tree → SpellsHead p.bytes (head_of_item p) (head_of_item p).width

-- It ends no later than a place.
abbrev pub EndsBy : ℕ → Placed → Type 0
EndsBy end p = end_of p ≤ end

-- No child ends after its parent, whatever the bytes are.
abbrev pub ChildrenEndInside : Type 0
ChildrenEndInside = (p : Placed) → AllByRecursion (EndsBy (end_of p)) (children_of p)
