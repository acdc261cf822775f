-- Bytes that are exactly one item, on examples, by computing.
use Rattle.std.proofs.Common.{◌≡◌, ℕ, zero, suc, Bool, true, false, List, [], ◌∷◌, Result, Ok, Err, refl}
use Rattle.cose_head.specs.declared.reason.Reason.{Reason}
use Rattle.cose_head.specs.declared.reason.Reason.TheVariants.{Reserved, TooDeep, PastRoom, Trailing}
use Rattle.cose_head.specs.declared.refusal.Refusal.{Refusal}
use Rattle.cose_head.specs.Placed.{Placed}
use Rattle.cose_head.specs.Reading.{read, head}
use Rattle.cose_head.specs.Whole.{whole, is_one_item}

abbrev at : ℕ → List ℕ → Placed
at place bytes = record { bytes = bytes; place = place }

unfoldable answer : ℕ → Placed → Result Placed Refusal
unfolding read head
answer depth p = whole depth p

unfoldable is_one : List ℕ → Bool
unfolding is_one_item read head
is_one bytes = is_one_item bytes

abbrev fault : Reason → ℕ → Result Placed Refusal
fault reason place = Err (record { reason = reason; place = place })

one_item : answer 1 (at 9 (0xa1 ∷ 1 ∷ 5 ∷ [])) ≡ Ok (at 9 (0xa1 ∷ 1 ∷ 5 ∷ []))
unfolding answer
one_item = refl

-- the first byte after the item, and not the last one
trailing : answer 1 (at 9 (0xa1 ∷ 1 ∷ 5 ∷ 0 ∷ 0 ∷ [])) ≡ fault Trailing 12
unfolding answer
trailing = refl

-- a fault of the item has precedence over a byte after it
fault_and_more : answer 0 (at 9 (0x1c ∷ 0 ∷ [])) ≡ fault Reserved 9
unfolding answer
fault_and_more = refl

too_deep : answer 1 (at 9 (0x81 ∷ 0x80 ∷ 0 ∷ [])) ≡ fault TooDeep 10
unfolding answer
too_deep = refl

-- the room is the number of the bytes, so an item that is cut short doesn't fit into it
cut_short : answer 0 (at 9 (0x44 ∷ 1 ∷ [])) ≡ fault PastRoom 9
unfolding answer
cut_short = refl

no_bytes : answer 0 (at 9 []) ≡ fault PastRoom 9
unfolding answer
no_bytes = refl

-- the greatest nesting
abbrev arrays : ℕ → List ℕ
arrays zero = 0x80 ∷ []
arrays (suc n) = 0x81 ∷ arrays n

deepest : is_one (arrays 31) ≡ true
unfolding is_one
deepest = refl

deeper : is_one (arrays 32) ≡ false
unfolding is_one
deeper = refl

two_items : is_one (0 ∷ 0 ∷ []) ≡ false
unfolding is_one
two_items = refl
