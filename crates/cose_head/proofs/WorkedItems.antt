-- Reading and shortest spellings on examples, by computing.
use Rattle.std.proofs.Common.{◌≡◌, ℕ, List, [], ◌∷◌, ◌++◌, map as each, replicate, Ok, Err, Result, refl}
use Rattle.std.specs.Prelude.{codes}
use Rattle.cose_head.specs.declared.item.Span.{Span}
use Rattle.cose_head.specs.declared.reason.Reason.{Reason}
use Rattle.cose_head.specs.declared.reason.Reason.TheVariants.{Truncated, Reserved, Indefinite, BadSimple, TooDeep, PastRoom}
use Rattle.cose_head.specs.declared.refusal.Refusal.{Refusal}
use Rattle.cose_head.specs.Head.{shortest_head}
use Rattle.cose_head.specs.Item.{unsigned, negative, byte_string, text_string, array, map, tag, no_items, item, depth_of}
use Rattle.cose_head.specs.Shortest.{shortest}
use Rattle.cose_head.specs.Reading.{read, head, span_of}

unfoldable answer : List ℕ → ℕ → ℕ → Result Span Refusal
unfolding read head depth_of
answer bytes room depth = span_of (read depth (record { bytes = bytes; room = room; place = 0 }))

abbrev whole : ℕ → ℕ → Result Span Refusal
whole length depth = Ok (record { length = length; depth = depth })

abbrev fault : Reason → ℕ → Result Span Refusal
fault reason place = Err (record { reason = reason; place = place })

no_room : answer [] 0 0 ≡ fault PastRoom 0
unfolding answer
no_room = refl

-- the lack of room has precedence over what the byte is
no_room_for_a_number : answer (0 ∷ []) 0 0 ≡ fault PastRoom 0
unfolding answer
no_room_for_a_number = refl

no_room_for_reserved_bits : answer (0x1c ∷ []) 0 0 ≡ fault PastRoom 0
unfolding answer
no_room_for_reserved_bits = refl

no_room_for_a_child : answer (0x82 ∷ 0x41 ∷ 1 ∷ 0x1c ∷ []) 3 1 ≡ fault PastRoom 3
unfolding answer
no_room_for_a_child = refl

no_bytes : answer [] 1 0 ≡ fault Truncated 0
unfolding answer
no_bytes = refl

wide_argument : answer (0x18 ∷ 0 ∷ []) 2 0 ≡ whole 2 0
unfolding answer
wide_argument = refl

-- a text string is read whether it is UTF-8 or not, and a label of a map may occur twice
text_of_no_utf8 : answer (0x61 ∷ 0xff ∷ []) 2 0 ≡ whole 2 0
unfolding answer
text_of_no_utf8 = refl

label_twice : answer (0xa2 ∷ 1 ∷ 0 ∷ 1 ∷ 0 ∷ []) 5 1 ≡ whole 5 1
unfolding answer
label_twice = refl

-- no nesting is needed for a number, a string, a simple value or a float
leaves : each (λ bytes. answer bytes 3 0) ((0 ∷ []) ∷ (0x20 ∷ []) ∷ (0x40 ∷ []) ∷ (0x60 ∷ []) ∷ (0xf4 ∷ []) ∷ (0xf8 ∷ 0xff ∷ []) ∷ (0xf9 ∷ 0 ∷ 0 ∷ []) ∷ []) ≡
    whole 1 0 ∷ whole 1 0 ∷ whole 1 0 ∷ whole 1 0 ∷ whole 1 0 ∷ whole 2 0 ∷ whole 3 0 ∷ []
unfolding answer
leaves = refl

nested : answer (0x81 ∷ 0x81 ∷ 0 ∷ []) 3 2 ≡ whole 3 2
unfolding answer
nested = refl

nested_too_deep : answer (0x81 ∷ 0x81 ∷ 0 ∷ []) 3 1 ≡ fault TooDeep 1
unfolding answer
nested_too_deep = refl

empty_array : answer (0x80 ∷ []) 1 1 ≡ whole 1 1
unfolding answer
empty_array = refl

-- an empty map and an empty array within a map or a tag count too
empty_map : answer (0xa0 ∷ []) 1 1 ≡ whole 1 1
unfolding answer
empty_map = refl

nested_in_map : answer (0xa1 ∷ 0 ∷ 0x80 ∷ []) 3 2 ≡ whole 3 2
unfolding answer
nested_in_map = refl

nested_in_tag : answer (0xc1 ∷ 0x80 ∷ []) 2 2 ≡ whole 2 2
unfolding answer
nested_in_tag = refl

empty_array_too_deep : answer (0x80 ∷ []) 1 0 ≡ fault TooDeep 0
unfolding answer
empty_array_too_deep = refl

bad_simple : answer (0xf8 ∷ 0x1f ∷ []) 2 0 ≡ fault BadSimple 0
unfolding answer
bad_simple = refl

simple_32 : answer (0xf8 ∷ 0x20 ∷ []) 2 0 ≡ whole 2 0
unfolding answer
simple_32 = refl

half_float : answer (0xf9 ∷ []) 3 0 ≡ fault Truncated 1
unfolding answer
half_float = refl

float_past_room : answer (0xf9 ∷ []) 2 0 ≡ fault PastRoom 0
unfolding answer
float_past_room = refl

reserved : answer (0x1c ∷ []) 1 0 ≡ fault Reserved 0
unfolding answer
reserved = refl

endless_number : answer (0x1f ∷ []) 1 0 ≡ fault Reserved 0
unfolding answer
endless_number = refl

endless_tag : answer (0xdf ∷ []) 1 0 ≡ fault Reserved 0
unfolding answer
endless_tag = refl

endless_string : answer (0x5f ∷ []) 1 0 ≡ fault Indefinite 0
unfolding answer
endless_string = refl

endless_text : answer (0x7f ∷ []) 1 0 ≡ fault Indefinite 0
unfolding answer
endless_text = refl

break_alone : answer (0xff ∷ []) 1 0 ≡ fault Indefinite 0
unfolding answer
break_alone = refl

half_string : answer (0x44 ∷ 1 ∷ 2 ∷ []) 5 0 ≡ fault Truncated 3
unfolding answer
half_string = refl

string_past_room : answer (0x44 ∷ 1 ∷ 2 ∷ []) 4 0 ≡ fault PastRoom 0
unfolding answer
string_past_room = refl

half_head_of_child : answer (0x81 ∷ 0x19 ∷ 0 ∷ []) 9 1 ≡ fault Truncated 3
unfolding answer
half_head_of_child = refl

missing_child : answer (0x82 ∷ 0 ∷ []) 3 1 ≡ fault Truncated 2
unfolding answer
missing_child = refl

children_past_room : answer (0x82 ∷ 0 ∷ []) 2 1 ≡ fault PastRoom 0
unfolding answer
children_past_room = refl

pairs_past_room : answer (0xbb ∷ 0x80 ∷ 0 ∷ 0 ∷ 0 ∷ 0 ∷ 0 ∷ 0 ∷ 0 ∷ []) 65535 1 ≡ fault PastRoom 0
unfolding answer
pairs_past_room = refl

longest_string : answer (0x5b ∷ replicate 8 0xff) 65535 0 ≡ fault PastRoom 0
unfolding answer
longest_string = refl

-- low bits 30 are reserved in every major type, 31 in the major types 0, 1 and 6; and that has precedence over the room
-- and the missing bytes
reserved_in_strings : answer (0x5e ∷ []) 1 0 ≡ fault Reserved 0
unfolding answer
reserved_in_strings = refl

reserved_from_28 : answer (0x5c ∷ []) 1 0 ≡ fault Reserved 0
unfolding answer
reserved_from_28 = refl

endless_negative : answer (0x3f ∷ []) 1 0 ≡ fault Reserved 0
unfolding answer
endless_negative = refl

endless_map : answer (0xbf ∷ []) 1 1 ≡ fault Indefinite 0
unfolding answer
endless_map = refl

-- the argument bytes: first they must fit into the room, then they must not be missing, and only then is their value
-- checked
simple_past_room : answer (0xf8 ∷ []) 1 0 ≡ fault PastRoom 0
unfolding answer
simple_past_room = refl

half_simple : answer (0xf8 ∷ []) 2 0 ≡ fault Truncated 1
unfolding answer
half_simple = refl

small_in_two_bytes : answer (0x18 ∷ 0x18 ∷ []) 2 0 ≡ whole 2 0
unfolding answer
small_in_two_bytes = refl

simple_in_one_byte : answer (0xf0 ∷ []) 1 0 ≡ whole 1 0
unfolding answer
simple_in_one_byte = refl

float_of_no_bits : answer (0xf9 ∷ 0 ∷ 0 ∷ []) 3 0 ≡ whole 3 0
unfolding answer
float_of_no_bits = refl

-- a fault in the head has precedence over the nesting: its low bits, the room of its argument bytes, and these
array_reserved_and_too_deep : each (λ initial. answer (initial ∷ []) 1 0) (0x9c ∷ 0xbe ∷ 0xdc ∷ []) ≡ replicate 3 (fault Reserved 0)
unfolding answer
array_reserved_and_too_deep = refl

endless_and_too_deep : each (λ initial. answer (initial ∷ []) 1 0) (0x9f ∷ 0xbf ∷ []) ≡ replicate 2 (fault Indefinite 0)
unfolding answer
endless_and_too_deep = refl

argument_past_room_and_too_deep : each (λ initial. answer (initial ∷ []) 1 0) (0x98 ∷ 0xb8 ∷ 0xd8 ∷ []) ≡ replicate 3 (fault PastRoom 0)
unfolding answer
argument_past_room_and_too_deep = refl

half_head_too_deep : each (λ initial. answer (initial ∷ []) 2 0) (0x98 ∷ 0xb8 ∷ 0xd8 ∷ []) ≡ replicate 3 (fault Truncated 1)
unfolding answer
half_head_too_deep = refl

-- the nesting has precedence over the room of the children
array_too_deep_and_past_room : answer (0x82 ∷ []) 1 0 ≡ fault TooDeep 0
unfolding answer
array_too_deep_and_past_room = refl

tag_too_deep : answer (0xc1 ∷ 0 ∷ []) 2 0 ≡ fault TooDeep 0
unfolding answer
tag_too_deep = refl

map_too_deep : answer (0xa0 ∷ []) 1 0 ≡ fault TooDeep 0
unfolding answer
map_too_deep = refl

-- a string fills its room
string_in_room : answer (0x42 ∷ 1 ∷ 2 ∷ []) 3 0 ≡ whole 3 0
unfolding answer
string_in_room = refl

text_past_room : answer (0x62 ∷ 0x61 ∷ 0x61 ∷ []) 2 0 ≡ fault PastRoom 0
unfolding answer
text_past_room = refl

-- how many children: n of an array, 2n of a map, one of a tag whatever its number is
array_past_room : answer (0x82 ∷ 0 ∷ []) 2 1 ≡ fault PastRoom 0
unfolding answer
array_past_room = refl

pair_past_room : answer (0xa1 ∷ 0 ∷ []) 2 1 ≡ fault PastRoom 0
unfolding answer
pair_past_room = refl

half_pair : answer (0xa1 ∷ 0 ∷ []) 3 1 ≡ fault Truncated 2
unfolding answer
half_pair = refl

whole_pair : answer (0xa1 ∷ 0 ∷ 0 ∷ []) 3 1 ≡ whole 3 1
unfolding answer
whole_pair = refl

tag_past_room : answer (0xc1 ∷ []) 1 1 ≡ fault PastRoom 0
unfolding answer
tag_past_room = refl

tag_alone : answer (0xc1 ∷ []) 2 1 ≡ fault Truncated 1
unfolding answer
tag_alone = refl

tag_five : answer (0xc5 ∷ 0 ∷ []) 2 1 ≡ whole 2 1
unfolding answer
tag_five = refl

-- the children in their order, each within the room left and a nesting of one less
first_fault : answer (0x82 ∷ 0x1c ∷ 0x5f ∷ []) 3 1 ≡ fault Reserved 1
unfolding answer
first_fault = refl

second_child_past_room : answer (0x82 ∷ 0 ∷ 0x42 ∷ 1 ∷ 2 ∷ []) 4 1 ≡ fault PastRoom 2
unfolding answer
second_child_past_room = refl

deep_in_map : answer (0xa1 ∷ 0 ∷ 0x80 ∷ []) 3 1 ≡ fault TooDeep 2
unfolding answer
deep_in_map = refl

deepest_first : answer (0x82 ∷ 0x81 ∷ 0 ∷ 0 ∷ []) 4 2 ≡ whole 4 2
unfolding answer
deepest_first = refl

deepest_last : answer (0x82 ∷ 0 ∷ 0x81 ∷ 0 ∷ []) 4 2 ≡ whole 4 2
unfolding answer
deepest_last = refl

short_tag : shortest (tag 18 (array no_items)) ≡ 0xd2 ∷ 0x80 ∷ []
unfolding shortest shortest_head
short_tag = refl

short_map : shortest (map (item (negative 255) (item (unsigned 1000) no_items))) ≡ 0xa1 ∷ 0x38 ∷ 0xff ∷ 0x19 ∷ 3 ∷ 0xe8 ∷ []
unfolding shortest shortest_head
short_map = refl

short_texts : shortest (array (item (text_string (codes "MAC0")) (item (byte_string []) no_items))) ≡ 0x82 ∷ 0x64 ∷ (codes "MAC0" ++ 0x40 ∷ [])
unfolding shortest shortest_head
short_texts = refl
