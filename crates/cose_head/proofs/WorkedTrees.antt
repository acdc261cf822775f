-- The trees that reading gives, on examples, by computing: each major type of RFC 8949 section 3.1, with its argument or
-- its content.
use Rattle.std.proofs.Common.{◌≡◌, ℕ, List, [], ◌∷◌, length, Option, Some, None, Ok, Err, refl}
use Rattle.cose_head.specs.Item.{Item, unsigned, negative, byte_string, text_string, array, map, tag, simple, float, no_items, item}
use Rattle.cose_head.specs.Reading.{Outcome, read, head}

abbrev tree_in : Outcome Item → Option Item
tree_in (Ok found) = Some found.0
tree_in (Err refusal) = None

unfoldable tree : List ℕ → Option Item
unfolding read head
tree bytes = tree_in (read 2 (record { bytes = bytes; room = length bytes; place = 0 }))

number : tree (0x18 ∷ 0x2a ∷ []) ≡ Some (unsigned 42)
unfolding tree
number = refl

-- -10 has the argument 9
minus_ten : tree (0x29 ∷ []) ≡ Some (negative 9)
unfolding tree
minus_ten = refl

bytes : tree (0x42 ∷ 0x31 ∷ 0x32 ∷ []) ≡ Some (byte_string (0x31 ∷ 0x32 ∷ []))
unfolding tree
bytes = refl

text : tree (0x62 ∷ 0x31 ∷ 0x32 ∷ []) ≡ Some (text_string (0x31 ∷ 0x32 ∷ []))
unfolding tree
text = refl

elements_in_order : tree (0x82 ∷ 1 ∷ 0x20 ∷ []) ≡ Some (array (item (unsigned 1) (item (negative 0) no_items)))
unfolding tree
elements_in_order = refl

label_before_value : tree (0xa1 ∷ 1 ∷ 5 ∷ []) ≡ Some (map (item (unsigned 1) (item (unsigned 5) no_items)))
unfolding tree
label_before_value = refl

tag_and_content : tree (0xd8 ∷ 0x2a ∷ 0x80 ∷ []) ≡ Some (tag 42 (array no_items))
unfolding tree
tag_and_content = refl

-- a simple value has one byte or two, and a float three, five or nine
truth : tree (0xf5 ∷ []) ≡ Some (simple 21)
unfolding tree
truth = refl

simple_in_two_bytes : tree (0xf8 ∷ 0xff ∷ []) ≡ Some (simple 255)
unfolding tree
simple_in_two_bytes = refl

half_float : tree (0xf9 ∷ 0x3c ∷ 0 ∷ []) ≡ Some (float 2 0x3c00)
unfolding tree
half_float = refl

single_float : tree (0xfa ∷ 0x47 ∷ 0xc3 ∷ 0x50 ∷ 0 ∷ []) ≡ Some (float 4 0x47c35000)
unfolding tree
single_float = refl

double_float : tree (0xfb ∷ 0x3f ∷ 0xf1 ∷ 0x99 ∷ 0x99 ∷ 0x99 ∷ 0x99 ∷ 0x99 ∷ 0x9a ∷ []) ≡ Some (float 8 0x3ff199999999999a)
unfolding tree
double_float = refl
