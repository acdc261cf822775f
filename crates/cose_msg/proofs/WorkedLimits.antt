-- Room and nesting of messages at their limits, on examples, by computing.
use Rattle.std.specs.Prelude.{◌≡◌, ℕ, List, [], ◌∷◌, ◌++◌, refl, if◌then◌else◌}
use Rattle.std.specs.Str.{bytes_eq}
use Rattle.cose_head.specs.Head.{shortest_head}
use Rattle.cose_head.specs.Shortest.{shortest, shortest_all}
use Rattle.cose_head.specs.declared.kind.Kind.TheVariants.{Mac0}
use Rattle.cose_head.specs.declared.reason.Reason.TheVariants.{Truncated, TooDeep, PastRoom, BadAuth}
use Rattle.cose_head.specs.declared.algorithm.Alg.TheVariants.{Hmac256}
use Rattle.cose_mac.specs.Hmac.{mac}
use Rattle.cose_mac.specs.Structure.{mac_structure}
use Rattle.cose_msg.specs.declared.verdict.Verdict.TheVariants.{Authentic}
use Rattle.cose_msg.specs.Answer.{Answer, decided, refused}
use Rattle.cose_msg.specs.Message.{structure, comparing}
use Rattle.cose_msg.proofs.WorkedMessages.{hex, any, Gives, reading, under, jefe, plain}

-- The answer for all bytes within a room and a nesting.
abbrev within : ℕ → ℕ → List ℕ → Answer
within room nesting bytes = (reading (comparing room nesting (under plain)) bytes).answer

-- 16 bytes for each bucket, and no more.
room_of_16 : Gives (within 16 4) (
    (hex "d184 50", refused Truncated 3) ∷
    (hex "d184 51", refused PastRoom 2) ∷
    (hex "d18443a10105 a10a4d", refused Truncated 9) ∷
    (hex "d18443a10105 a10a4e", refused PastRoom 8) ∷ [])
unfolding reading
room_of_16 = refl

full_protected : (byte : ℕ → ℕ) → within 16 4 (hex "d184 50a201050a4b" ++ (any byte 11 ++ (hex "a0 426869 5820" ++ any byte 32))) ≡
    (if bytes_eq (any byte 32) (mac Hmac256 jefe (hex "84644d414330 50a201050a4b" ++ (any byte 11 ++ hex "40426869")))
    then decided (Authentic Mac0 Hmac256 2 57) else refused BadAuth 23)
unfolding reading structure mac_structure shortest shortest_all shortest_head
full_protected byte = refl

full_unprotected : (byte : ℕ → ℕ) → within 16 4 (hex "d18443a10105 a10a4d" ++ (any byte 13 ++ (hex "426869 5820" ++ any byte 32))) ≡
    (if bytes_eq (any byte 32) (mac Hmac256 jefe (hex "84644d41433043a1010540426869"))
    then decided (Authentic Mac0 Hmac256 2 59) else refused BadAuth 25)
unfolding reading structure mac_structure shortest shortest_all shortest_head
full_unprotected byte = refl

-- One array within a map is a nesting of two. At most 32 is allowed.
nesting_of_1 : Gives (within 1024 1) ((hex "d18443a10105 a10a80", refused TooDeep 8) ∷ (hex "d18443a10105 a10a00", refused Truncated 9) ∷ [])
unfolding reading
nesting_of_1 = refl

nesting_of_32 : Gives (within 1024 32) (
    (hex "d18443a10105 a10a 81818181818181818181818181818181818181818181818181818181818181 00", refused Truncated 40) ∷
    (hex "d18443a10105 a10a 8181818181818181818181818181818181818181818181818181818181818181", refused TooDeep 39) ∷ [])
unfolding reading
nesting_of_32 = refl
