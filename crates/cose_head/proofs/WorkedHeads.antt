-- Heads outside an item and shortest heads on examples, by computing.
use Rattle.std.proofs.Common.{◌≡◌, ℕ, [], ◌∷◌, map, replicate, refl}
use Rattle.cose_head.specs.declared.head.Head.{Head}
use Rattle.cose_head.specs.declared.head.HeadStep.TheVariants.{Got, More, Fault}
use Rattle.cose_head.specs.declared.reason.Reason.TheVariants.{Reserved, Indefinite, BadSimple}
use Rattle.cose_head.specs.Head.{bare_head, shortest_head}

abbrev head : ℕ → ℕ → ℕ → Head
head major arg width = record { major = major; arg = arg; width = width }

nothing : bare_head [] ≡ More 1
unfolding bare_head
nothing = refl

-- the greatest argument of one byte, and the least width of each other one
in_one_byte : bare_head (0x17 ∷ []) ≡ Got (head 0 23 1) 1
unfolding bare_head
in_one_byte = refl

in_two_bytes : bare_head (0x38 ∷ 5 ∷ []) ≡ Got (head 1 5 2) 2
unfolding bare_head
in_two_bytes = refl

in_three_bytes : bare_head (0x59 ∷ 1 ∷ 2 ∷ []) ≡ Got (head 2 258 3) 3
unfolding bare_head
in_three_bytes = refl

in_five_bytes : bare_head (0x7a ∷ 0 ∷ 1 ∷ 0 ∷ 0 ∷ []) ≡ Got (head 3 65536 5) 5
unfolding bare_head
in_five_bytes = refl

in_nine_bytes : bare_head (0xdb ∷ 0 ∷ 0 ∷ 0 ∷ 1 ∷ 0 ∷ 0 ∷ 0 ∷ 0 ∷ []) ≡ Got (head 6 4294967296 9) 9
unfolding bare_head
in_nine_bytes = refl

-- an argument may have more bytes than it needs
any_width : map bare_head (
    (1 ∷ []) ∷
    (0x18 ∷ 1 ∷ []) ∷
    (0x19 ∷ 0 ∷ 1 ∷ []) ∷
    (0x1a ∷ 0 ∷ 0 ∷ 0 ∷ 1 ∷ []) ∷
    (0x1b ∷ 0 ∷ 0 ∷ 0 ∷ 0 ∷ 0 ∷ 0 ∷ 0 ∷ 1 ∷ []) ∷ [])
    ≡ Got (head 0 1 1) 1 ∷ Got (head 0 1 2) 2 ∷ Got (head 0 1 3) 3 ∷ Got (head 0 1 5) 5 ∷ Got (head 0 1 9) 9 ∷ []
unfolding bare_head
any_width = refl

-- all argument bytes of each width are missing
missing_arguments : map bare_head ((0x18 ∷ []) ∷ (0x19 ∷ []) ∷ (0x1a ∷ []) ∷ (0x1b ∷ []) ∷ []) ≡ More 1 ∷ More 2 ∷ More 4 ∷ More 8 ∷ []
unfolding bare_head
missing_arguments = refl

-- bytes that follow are not of the head
followed : bare_head (0x84 ∷ 0x40 ∷ []) ≡ Got (head 4 4 1) 1
unfolding bare_head
followed = refl

-- a fault of the low bits has precedence over missing bytes, and missing bytes have precedence over the value
reserved : bare_head (0x1c ∷ []) ≡ Fault Reserved
unfolding bare_head
reserved = refl

indefinite : bare_head (0x9f ∷ []) ≡ Fault Indefinite
unfolding bare_head
indefinite = refl

-- in each major type: 28 to 30, and 31
reserved_in_each_type : map (λ initial. bare_head (initial ∷ [])) (
    0x1c ∷ 0x1d ∷ 0x1e ∷ 0x3c ∷ 0x3d ∷ 0x3e ∷ 0x5c ∷ 0x5d ∷ 0x5e ∷ 0x7c ∷ 0x7d ∷ 0x7e ∷
    0x9c ∷ 0x9d ∷ 0x9e ∷ 0xbc ∷ 0xbd ∷ 0xbe ∷ 0xdc ∷ 0xdd ∷ 0xde ∷ 0xfc ∷ 0xfd ∷ 0xfe ∷ [])
    ≡ replicate 24 (Fault Reserved)
unfolding bare_head
reserved_in_each_type = refl

thirty_one_in_each_type : map (λ initial. bare_head (initial ∷ [])) (0x1f ∷ 0x3f ∷ 0x5f ∷ 0x7f ∷ 0x9f ∷ 0xbf ∷ 0xdf ∷ 0xff ∷ []) ≡
    Fault Reserved ∷ Fault Reserved ∷ Fault Indefinite ∷ Fault Indefinite ∷ Fault Indefinite ∷ Fault Indefinite ∷ Fault Reserved ∷ Fault Indefinite ∷ []
unfolding bare_head
thirty_one_in_each_type = refl

half_simple : bare_head (0xf8 ∷ []) ≡ More 1
unfolding bare_head
half_simple = refl

bad_simple : bare_head (0xf8 ∷ 0x1f ∷ []) ≡ Fault BadSimple
unfolding bare_head
bad_simple = refl

good_simple : bare_head (0xf8 ∷ 0x20 ∷ 0 ∷ []) ≡ Got (head 7 32 2) 2
unfolding bare_head
good_simple = refl

-- below 32 in two bytes is a fault of a simple value alone, down to 0
below_32_in_two_bytes : map bare_head (
    (0x18 ∷ 31 ∷ []) ∷ (0x38 ∷ 31 ∷ []) ∷ (0x58 ∷ 31 ∷ []) ∷ (0x78 ∷ 31 ∷ []) ∷ (0x98 ∷ 31 ∷ []) ∷ (0xb8 ∷ 31 ∷ []) ∷ (0xd8 ∷ 31 ∷ []) ∷
    (0xf8 ∷ 0 ∷ []) ∷ (0xf9 ∷ 0 ∷ 31 ∷ []) ∷ [])
    ≡ Got (head 0 31 2) 2 ∷ Got (head 1 31 2) 2 ∷ Got (head 2 31 2) 2 ∷ Got (head 3 31 2) 2 ∷ Got (head 4 31 2) 2 ∷ Got (head 5 31 2) 2 ∷
    Got (head 6 31 2) 2 ∷ Fault BadSimple ∷ Got (head 7 31 3) 3 ∷ []
unfolding bare_head
below_32_in_two_bytes = refl

half_argument : bare_head (0x1b ∷ 0 ∷ 0 ∷ []) ≡ More 6
unfolding bare_head
half_argument = refl

-- of a number that isn't a byte the low eight bits are taken
no_byte : bare_head (0x141 ∷ []) ≡ Got (head 2 1 1) 1
unfolding bare_head
no_byte = refl

-- the shortest head of an argument: at each width the last one that fits, and the first that doesn't
short_23 : shortest_head 2 23 ≡ 0x57 ∷ []
unfolding shortest_head
short_23 = refl

short_24 : shortest_head 2 24 ≡ 0x58 ∷ 24 ∷ []
unfolding shortest_head
short_24 = refl

short_255 : shortest_head 2 255 ≡ 0x58 ∷ 0xff ∷ []
unfolding shortest_head
short_255 = refl

short_256 : shortest_head 2 256 ≡ 0x59 ∷ 1 ∷ 0 ∷ []
unfolding shortest_head
short_256 = refl

short_65_535 : shortest_head 2 65_535 ≡ 0x59 ∷ 0xff ∷ 0xff ∷ []
unfolding shortest_head
short_65_535 = refl

short_65_536 : shortest_head 2 65_536 ≡ 0x5a ∷ 0 ∷ 1 ∷ 0 ∷ 0 ∷ []
unfolding shortest_head
short_65_536 = refl

short_below_2_32 : shortest_head 2 0xffff_ffff ≡ 0x5a ∷ 0xff ∷ 0xff ∷ 0xff ∷ 0xff ∷ []
unfolding shortest_head
short_below_2_32 = refl

short_2_32 : shortest_head 2 0x1_0000_0000 ≡ 0x5b ∷ 0 ∷ 0 ∷ 0 ∷ 1 ∷ 0 ∷ 0 ∷ 0 ∷ 0 ∷ []
unfolding shortest_head
short_2_32 = refl

short_below_2_64 : shortest_head 2 0xffff_ffff_ffff_ffff ≡ 0x5b ∷ replicate 8 0xff
unfolding shortest_head
short_below_2_64 = refl

-- the major type is in the high three bits, whatever the width
short_of_maps : map (shortest_head 5) (0 ∷ 23 ∷ 24 ∷ 256 ∷ 65_536 ∷ 0x1_0000_0000 ∷ []) ≡
    (0xa0 ∷ []) ∷ (0xb7 ∷ []) ∷ (0xb8 ∷ 24 ∷ []) ∷ (0xb9 ∷ 1 ∷ 0 ∷ []) ∷ (0xba ∷ 0 ∷ 1 ∷ 0 ∷ 0 ∷ []) ∷
    (0xbb ∷ 0 ∷ 0 ∷ 0 ∷ 1 ∷ 0 ∷ 0 ∷ 0 ∷ 0 ∷ []) ∷ []
unfolding shortest_head
short_of_maps = refl

short_tag_61 : shortest_head 6 61 ≡ 0xd8 ∷ 61 ∷ []
unfolding shortest_head
short_tag_61 = refl
