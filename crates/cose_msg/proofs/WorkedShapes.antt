-- Messages that are only inspected, and what is known of a message so far, on examples, by computing.
use Rattle.std.specs.Prelude.{ℕ, List, [], ◌∷◌, ◌++◌, Option, Some, None, refl}
use Rattle.cose_head.specs.declared.kind.Kind.TheVariants.{Mac0, Sign1}
use Rattle.cose_head.specs.declared.reason.Reason.TheVariants.{Truncated, WrongType, WrongTag, BothBuckets, Detached, BadAuthLength}
use Rattle.cose_map.specs.Map.Pairs.{Pair}
use Rattle.cose_msg.specs.Answer.{Answer, shaped, refused}
use Rattle.cose_msg.specs.Message.{comparing, inspecting}
use Rattle.cose_msg.specs.Reading.{Findings}
use Rattle.cose_msg.proofs.WorkedMessages.{hex, any, algorithm, algorithm_at, Gives, reading, under, plain}

abbrev shape : List ℕ → Answer
shape bytes = (reading (inspecting 1024 4 (under [])) bytes).answer

-- All that is required, except a key, the algorithm's length and the comparison.
shapes : (byte : ℕ → ℕ) → Gives shape (
    (hex "d18443a10105a0 426869 5820" ++ any byte 32, shaped Mac0 2 32 44) ∷
    (hex "d28443a10126a0 40 5840" ++ any byte 64, shaped Sign1 0 64 74) ∷
    (hex "d18443a10105a10a81818100 426869 5820" ++ any byte 32, shaped Mac0 2 32 49) ∷
    (hex "d18443a10126a0 40 40", shaped Mac0 0 0 9) ∷
    (hex "d18440a0 40 41ff", shaped Mac0 0 1 7) ∷
    (hex "d18443a10105 a10105", refused BothBuckets 7) ∷
    (hex "d18443a10105a0 f6", refused Detached 7) ∷
    (hex "84", refused WrongTag 0) ∷
    (hex "d18443a10105a0 426869 59ffff", refused Truncated 13) ∷
    (hex "d18443a10105a0 426869 5a00010000", refused BadAuthLength 10) ∷
    (hex "d18443a10105a0 426869 7a00010000", refused WrongType 10) ∷ [])
unfolding reading
shapes byte = refl

-- The pairs of each bucket are known once it was read without a fault, and the payload as far as it was received.
abbrev known : List ℕ → Findings
known bytes = (reading (comparing 1024 4 (under plain)) bytes).so_far

abbrev knowing : Option (List Pair) → Option (List Pair) → List ℕ → Findings
knowing protected unprotected payload = record { protected = protected; unprotected = unprotected; payload = payload; open_items = 0 }

abbrev hmac_256 : Option (List Pair)
hmac_256 = Some (algorithm 5 ∷ [])

what_is_known : (byte : ℕ → ℕ) → Gives known (
    (hex "d184", knowing None None []) ∷
    (hex "d18443a101", knowing None None []) ∷
    (hex "d1844180", knowing None None []) ∷
    (hex "d18443a10105", knowing hmac_256 None []) ∷
    (hex "d18443a10105 a14000", knowing hmac_256 None []) ∷
    (hex "d18443a10105 a10105", knowing hmac_256 (Some (algorithm_at 7 5 ∷ [])) []) ∷
    (hex "d18443a10105 a0", knowing hmac_256 (Some []) []) ∷
    (hex "d18443a10104 a0 48", knowing (Some (algorithm 4 ∷ [])) (Some []) []) ∷
    (hex "d18443a10126 a0", knowing (Some (algorithm 0x26 ∷ [])) (Some []) []) ∷
    (hex "d18443a10105 a0 f6", knowing hmac_256 (Some []) []) ∷
    (hex "d18443a10105 a0 42", knowing hmac_256 (Some []) []) ∷
    (hex "d18443a10105 a0 4268", knowing hmac_256 (Some []) (hex "68")) ∷
    (hex "d18443a10105 a0 426869", knowing hmac_256 (Some []) (hex "6869")) ∷
    (hex "d18443a10105 a0 426869 48", knowing hmac_256 (Some []) (hex "6869")) ∷
    (hex "d18443a10105 a0 426869 5820 00", knowing hmac_256 (Some []) (hex "6869")) ∷
    (hex "d18443a10105 a0 426869 5820" ++ any byte 32, knowing hmac_256 (Some []) (hex "6869")) ∷ [])
unfolding reading
what_is_known byte = refl

-- What is open of the unprotected bucket is what has begun there and hasn't ended where the bytes end: nothing before the bucket,
-- nothing once it is whole or refused.
abbrev open_items : List ℕ → ℕ
open_items bytes = (known bytes).open_items

what_is_open : Gives open_items (
    ([], 0) ∷
    (hex "d18443a101", 0) ∷
    (hex "d18443a10105", 0) ∷
    (hex "d18443a10105 a1", 1) ∷
    (hex "d18443a10105 a10a", 1) ∷
    (hex "d18443a10105 a10a99", 1) ∷
    (hex "d18443a10105 a10a81", 2) ∷
    (hex "d18443a10105 a10a8181", 3) ∷
    (hex "d18443a10105 a10a818142", 3) ∷
    (hex "d18443a10105 a10a8181420000", 0) ∷
    (hex "d18443a10105 a20a8100", 1) ∷
    (hex "d18443a10105 a10ac1", 2) ∷
    (hex "d18443a10105 a10a818181", 4) ∷
    (hex "d18443a10105 a10a81818181", 0) ∷
    (hex "d18443a10105 a10a81ff", 0) ∷
    (hex "d18443a10105 a10105", 0) ∷
    (hex "d18443a10105 a0 42", 0) ∷ [])
unfolding reading
what_is_open = refl
