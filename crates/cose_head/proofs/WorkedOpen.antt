-- What is open, on examples, by computing.
use Rattle.std.proofs.Common.{◌≡◌, ℕ, List, [], ◌∷◌, refl}
use Rattle.cose_head.specs.Reading.{head, read}
use Rattle.cose_head.specs.Measured.{left_of}
use Rattle.cose_head.specs.Open.{Open, open_in}

unfoldable answer : List ℕ → ℕ → ℕ → Open
unfolding open_in read head
answer bytes room depth = open_in depth (left_of bytes room 0)

abbrev open_of : ℕ → ℕ → Open
open_of items content = record { items = items; content = content }

no_bytes : answer [] 1 1 ≡ open_of 0 0
unfolding answer
no_bytes = refl

two_arrays : answer (0x81 ∷ 0x81 ∷ []) 3 2 ≡ open_of 2 0
unfolding answer
two_arrays = refl

both_ended : answer (0x81 ∷ 0x81 ∷ 0 ∷ []) 3 2 ≡ open_of 0 0
unfolding answer
both_ended = refl

inner_ended : answer (0x82 ∷ 0x81 ∷ 0 ∷ []) 4 2 ≡ open_of 1 0
unfolding answer
inner_ended = refl

half_string : answer (0x44 ∷ 1 ∷ 2 ∷ []) 5 0 ≡ open_of 0 2
unfolding answer
half_string = refl

half_string_of_map : answer (0xa1 ∷ 1 ∷ 0xc1 ∷ 0x62 ∷ 0x61 ∷ []) 7 2 ≡ open_of 2 1
unfolding answer
half_string_of_map = refl

half_head : answer (0x81 ∷ 0x99 ∷ 0 ∷ []) 7 2 ≡ open_of 1 0
unfolding answer
half_head = refl

empty_array_ended : answer (0x82 ∷ 0x80 ∷ []) 3 2 ≡ open_of 1 0
unfolding answer
empty_array_ended = refl

open_tag : answer (0xc1 ∷ []) 2 1 ≡ open_of 1 0
unfolding answer
open_tag = refl

-- what is refused at its head isn't open
too_deep : answer (0x81 ∷ 0x81 ∷ []) 3 1 ≡ open_of 1 0
unfolding answer
too_deep = refl
