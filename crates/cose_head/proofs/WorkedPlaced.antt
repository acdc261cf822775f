-- Items, what they are, and their children, on examples, by computing.
use Rattle.std.proofs.Common.{◌≡◌, ℕ, pos, negsuc, true, false, List, [], ◌∷◌, map as each, replicate, Option, Some, None, refl}
use Rattle.cose_head.specs.Head.{bare_head}
use Rattle.cose_head.specs.Placed.{Placed, Look, integer, byte_content, text_content, an_array, a_map, a_tag, truth, a_float, other, look, tag_in, children_of, items_from, head_of_item}
use Rattle.cose_head.specs.Reading.{read, head}
use Rattle.cose_head.specs.Item.{depth_of}

abbrev at : ℕ → List ℕ → Placed
at place bytes = record { bytes = bytes; place = place }

unfoldable seen : List ℕ → Look
unfolding look head_of_item bare_head
seen bytes = look (at 0 bytes)

unfoldable children : ℕ → List ℕ → List Placed
unfolding children_of items_from head_of_item bare_head read head depth_of
children place bytes = children_of (at place bytes)

unfoldable inside : ℕ → List ℕ → Option (ℕ × Placed)
unfolding head_of_item bare_head
inside place bytes = tag_in (at place bytes)

wide_number : seen (0x18 ∷ 1 ∷ []) ≡ integer (pos 1)
unfolding seen
wide_number = refl

minus_one : seen (0x38 ∷ 0 ∷ []) ≡ integer (negsuc 0)
unfolding seen
minus_one = refl

minus_ten : seen (0x29 ∷ []) ≡ integer (negsuc 9)
unfolding seen
minus_ten = refl

-- the greatest integer and the least one
greatest : seen (0x1b ∷ replicate 8 0xff) ≡ integer (pos 18446744073709551615)
unfolding seen
greatest = refl

least : seen (0x3b ∷ replicate 8 0xff) ≡ integer (negsuc 18446744073709551615)
unfolding seen
least = refl

bytes : seen (0x42 ∷ 1 ∷ 2 ∷ []) ≡ byte_content (1 ∷ 2 ∷ [])
unfolding seen
bytes = refl

text : seen (0x61 ∷ 0x31 ∷ []) ≡ text_content (0x31 ∷ [])
unfolding seen
text = refl

array : seen (0x80 ∷ []) ≡ an_array
unfolding seen
array = refl

map : seen (0xa0 ∷ []) ≡ a_map
unfolding seen
map = refl

date : seen (0xc1 ∷ 0 ∷ []) ≡ a_tag 1
unfolding seen
date = refl

tag_42 : seen (0xd8 ∷ 0x2a ∷ 0 ∷ []) ≡ a_tag 42
unfolding seen
tag_42 = refl

yes_value : seen (0xf5 ∷ []) ≡ truth true
unfolding seen
yes_value = refl

no_value : seen (0xf4 ∷ []) ≡ truth false
unfolding seen
no_value = refl

half_float : seen (0xf9 ∷ 0x3c ∷ 0 ∷ []) ≡ a_float
unfolding seen
half_float = refl

longer_floats : each seen ((0xfa ∷ replicate 4 0) ∷ (0xfb ∷ replicate 8 0) ∷ []) ≡ a_float ∷ a_float ∷ []
unfolding seen
longer_floats = refl

nil : seen (0xf6 ∷ []) ≡ other
unfolding seen
nil = refl

-- the simple values next to false and true
simple_19 : seen (0xf3 ∷ []) ≡ other
unfolding seen
simple_19 = refl

undefined_value : seen (0xf7 ∷ []) ≡ other
unfolding seen
undefined_value = refl

no_bytes : seen [] ≡ other
unfolding seen
no_bytes = refl

-- a string has as many bytes as its head says
bytes_and_more : seen (0x41 ∷ 1 ∷ 2 ∷ []) ≡ byte_content (1 ∷ [])
unfolding seen
bytes_and_more = refl

-- a width of two bytes isn't a float, and a float's bits aren't a Boolean value
simple_32 : seen (0xf8 ∷ 0x20 ∷ []) ≡ other
unfolding seen
simple_32 = refl

float_of_bits_20 : seen (0xf9 ∷ 0 ∷ 0x14 ∷ []) ≡ a_float
unfolding seen
float_of_bits_20 = refl

half_head : seen (0x19 ∷ 1 ∷ []) ≡ other
unfolding seen
half_head = refl

-- a tag's number and what it encloses, after a head of any width
enclosed : inside 3 (0xd8 ∷ 0x20 ∷ 0x61 ∷ 0x61 ∷ []) ≡ Some (32, at 5 (0x61 ∷ 0x61 ∷ []))
unfolding inside
enclosed = refl

enclosed_tag : inside 0 (0xd2 ∷ 0xc1 ∷ 0 ∷ []) ≡ Some (18, at 1 (0xc1 ∷ 0 ∷ []))
unfolding inside
enclosed_tag = refl

array_encloses_none : inside 0 (0x81 ∷ 0 ∷ []) ≡ None
unfolding inside
array_encloses_none = refl

pairs : children 3 (0xa2 ∷ 1 ∷ 5 ∷ 2 ∷ 0x81 ∷ 1 ∷ []) ≡ at 4 (1 ∷ []) ∷ at 5 (5 ∷ []) ∷ at 6 (2 ∷ []) ∷ at 7 (0x81 ∷ 1 ∷ []) ∷ []
unfolding children
pairs = refl

elements : children 0 (0x98 ∷ 2 ∷ 0x41 ∷ 7 ∷ 0 ∷ []) ≡ at 2 (0x41 ∷ 7 ∷ []) ∷ at 4 (0 ∷ []) ∷ []
unfolding children
elements = refl

not_a_parent : children 0 (0xc1 ∷ 0 ∷ []) ≡ []
unfolding children
not_a_parent = refl

-- none from the first that isn't an item
cut_elements : children 0 (0x83 ∷ 0 ∷ 0x1c ∷ 0 ∷ []) ≡ at 1 (0 ∷ []) ∷ []
unfolding children
cut_elements = refl

no_elements : children 0 (0x80 ∷ 0 ∷ []) ≡ []
unfolding children
no_elements = refl
