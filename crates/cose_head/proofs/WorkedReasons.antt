-- For which reasons heads and items are refused, by their numbers, by computing.
use Rattle.std.proofs.Common.{◌≡◌, [], ◌∷◌, map, refl}
use Rattle.cose_head.specs.Reason.{number_of, head_reasons, item_reasons, whole_reasons}

-- reserved bits, an indefinite length, and a bad simple value
of_heads : map number_of head_reasons ≡ 2 ∷ 3 ∷ 4 ∷ []
of_heads = refl

-- these, and missing bytes, the nesting and the room
of_items : map number_of item_reasons ≡ 1 ∷ 2 ∷ 3 ∷ 4 ∷ 5 ∷ 6 ∷ []
of_items = refl

-- no byte is missing of bytes that should be one item, since the room ends where they do; there can be too many
of_bytes_that_are_one_item : map number_of whole_reasons ≡ 2 ∷ 3 ∷ 4 ∷ 5 ∷ 6 ∷ 42 ∷ []
of_bytes_that_are_one_item = refl
