-- With which byte a message is settled, on examples, by computing: no byte is asked for after it.
use Rattle.std.specs.Prelude.{ℕ, Bool, true, false, List, [], ◌∷◌, ◌++◌, refl}
use Rattle.cose_msg.specs.Message.{comparing}
use Rattle.cose_msg.proofs.WorkedMessages.{hex, any, Gives, reading, under, plain}

abbrev is_settled : List ℕ → Bool
is_settled bytes = (reading (comparing 1024 4 (under plain)) bytes).settled

-- A head is judged with its last byte.
by_a_head : Gives is_settled (
    (hex "", false) ∷
    (hex "d8", false) ∷
    (hex "d862", true) ∷
    (hex "d1", false) ∷
    (hex "d183", true) ∷
    (hex "d184", false) ∷
    (hex "d1845904", false) ∷
    (hex "d184590401", true) ∷
    (hex "d18443a10105a0 f6", true) ∷
    (hex "d18443a10105a0 5b01000000000000", false) ∷
    (hex "d18443a10105a0 5b0100000000000000", true) ∷
    (hex "d18443a10105a0 42", false) ∷
    (hex "d18443a10105a0 426869 58", false) ∷
    (hex "d18443a10105a0 426869 581f", true) ∷
    (hex "d18443a10105a0 426869 5820", false) ∷ [])
unfolding reading
by_a_head = refl

-- Also a head of another type than is required there: its argument bytes are waited for.
by_a_head_of_another_type : Gives is_settled (
    (hex "18", false) ∷
    (hex "1800", true) ∷
    (hex "d83d 98", false) ∷
    (hex "d83d 9800", true) ∷
    (hex "d1 b8", false) ∷
    (hex "d1 b800", true) ∷
    (hex "d184 78", false) ∷
    (hex "d184 7800", true) ∷
    (hex "d18443a10105a0 1b00000000000000", false) ∷
    (hex "d18443a10105a0 1b0000000000000000", true) ∷
    (hex "d18443a10105a0 f8", false) ∷
    (hex "d18443a10105a0 f8ff", true) ∷
    (hex "d18443a10105a0 426869 78", false) ∷
    (hex "d18443a10105a0 426869 7800", true) ∷ [])
unfolding reading
by_a_head_of_another_type = refl

-- A bucket, both buckets and the choice of the key need no byte after the bucket.
by_a_bucket : Gives is_settled (
    (hex "d18441", false) ∷
    (hex "d1844180", true) ∷
    (hex "d18443a10105", false) ∷
    (hex "d18443a10105 81", false) ∷
    (hex "d18443a10105 8100", true) ∷
    (hex "d18443a10105 a101", false) ∷
    (hex "d18443a10105 a10105", true) ∷
    (hex "d18443a10105 a104", false) ∷
    (hex "d18443a10105 a10400", true) ∷
    (hex "d18447a201050281182a", false) ∷
    (hex "d18447a201050281182a a0", true) ∷
    (hex "d18443a10105 a0", false) ∷
    (hex "d18443a10126 a0", true) ∷ [])
unfolding reading
by_a_bucket = refl

-- The comparison needs the last byte of the tag, and none after it.
by_the_tag : (byte : ℕ → ℕ) → Gives (λ tag. is_settled (hex "d18443a10105a0 426869 5820" ++ tag)) (
    (any byte 31, false) ∷
    (any byte 32, true) ∷
    (any byte 33, true) ∷ [])
unfolding reading
by_the_tag byte = refl
