-- What is read of a payload's file: its bytes in their order, as many as are stated.
use Rattle.std.proofs.Common.{◌≡◌, ℕ, ◌<◌, ◌≤◌, ◌-◌, ◌+◌, ◌^◌, ◌&&◌, ◌==◌, Bool, true, false, List, ◌++◌, take, length, Option, Some, None, nat_lt, refl, ap, ◌∙◌, arith, append_assoc, length-append}
use Rattle.std.specs.Io.KnownBytes.{Consumes, IsAtEnd}
use Rattle.std.proofs.lemmas.Bool.{eqb-true, le-ltb, lt-ltb, ltb-false, ltb-true}
use Rattle.std.proofs.lemmas.List.{length-take-le, take-append-le}
use Rattle.std.proofs.Math.Seq.{take-append-add}
use Rattle.cose_answers.specs.PayloadFile.{counted, never}

-- One read took the next bytes.
next_of : (left count : ℕ) (bytes rest piece : List ℕ) → count ≤ left → length piece ≡ count → bytes ≡ piece ++ rest → take left bytes ≡ piece ++ take (left - count) rest
next_of left count bytes rest piece fits n whole =
    let split : left ≡ length piece + (left - count) = omega (arith, fits, n) in
    ap (λ (b : List ℕ). take left b) whole ∙ ap (λ (m : ℕ). take m (piece ++ rest)) split ∙ take-append-add piece rest (left - count)

read_by : (left count : ℕ) (bytes rest piece : List ℕ) (short : Bool) → nat_lt (length bytes) left ≡ short → count ≤ left → length piece ≡ count → bytes ≡ piece ++ rest →
    Consumes (counted left (Some bytes)) (counted (left - count) (Some rest)) piece
read_by left count bytes rest piece true e fits n whole =
    let fewer : length bytes < left = ltb-true (length bytes) left e in
    let total : length bytes ≡ length piece + length rest = ap (λ (b : List ℕ). length b) whole ∙ length-append piece rest in
    let left_fewer : length rest < left - count = omega (arith, fewer, total, n, fits) in
    rw (e, lt-ltb (length rest) (left - count) left_fewer) (ap (λ (b : List ℕ). b ++ never (2 ^ 65)) whole ∙ append_assoc piece rest (never (2 ^ 65)))
read_by left count bytes rest piece false e fits n whole =
    let enough : left ≤ length bytes = let f = ltb-false (length bytes) left e in omega (arith, f) in
    let total : length bytes ≡ length piece + length rest = ap (λ (b : List ℕ). length b) whole ∙ length-append piece rest in
    let left_enough : left - count ≤ length rest = omega (arith, enough, total, n, fits) in
    rw (e, le-ltb (length rest) (left - count) left_enough) (next_of left count bytes rest piece fits n whole)

pub one_read : (left count : ℕ) (old new : Option (List ℕ)) (piece : List ℕ) → count ≤ left → length piece ≡ count → Consumes old new piece → Consumes (counted left old) (counted (left - count) new) piece
one_read left count None new piece fits n consumes = tt
one_read left count (Some bytes) None piece fits n consumes = absurd consumes
one_read left count (Some bytes) (Some rest) piece fits n consumes = read_by left count bytes rest piece (nat_lt (length bytes) left) refl fits n consumes

-- The bytes of a read are the first ones of what it was to fill.
pub read_into : (left count : ℕ) (old new : Option (List ℕ)) (filled later : List ℕ) → count ≤ left → count ≤ length filled → 0 < count → Consumes old new (take count filled) →
    Consumes (counted left old) (counted (left - count) new) (take count (filled ++ later)) × (count ≡ 0 → IsAtEnd (counted (left - count) new))
read_into left count old new filled later fits within some consumes = rw (take-append-le count filled later within)
    (one_read left count old new (take count filled) fits (length-take-le count filled within) consumes, λ none. absurd (omega (arith, none, some)))

-- It ends only after all of the stated bytes.
pub ends_whole : (ended : Bool) (left : ℕ) → (ended && (left == 0)) ≡ true → left ≡ 0
ends_whole true left e = eqb-true left 0 e
ends_whole false left e = absurd cc
