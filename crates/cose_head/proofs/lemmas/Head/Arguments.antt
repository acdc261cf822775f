-- Arguments and heads.
use Rattle.std.proofs.Common.{◌≡◌, ℕ, false, List, [], ◌∷◌, length, get_or, sym, ap, ◌∙◌, arith, rules}
use Rattle.std.proofs.lemmas.Slice.Eq.{text_from_reads}
use Rattle.std.proofs.lemmas.Bool.Decides.{nat_tests}
use Rattle.std.specs.Prelude.{nat_lt}
use Rattle.std.specs.Int.{w64, from_be_bytes}
use Rattle.cose_head.specs.Head.{argument_length, argument_of, big_endian}

pub eight_cells : (a b c d e f g h : ℕ)
    → from_be_bytes w64 (a ∷ b ∷ c ∷ d ∷ e ∷ f ∷ g ∷ h ∷ []) ≡ big_endian (a ∷ b ∷ c ∷ d ∷ e ∷ f ∷ g ∷ h ∷ [])
eight_cells a b c d e f g h = omega arith

-- the eight bytes of a list, one by one
abbrev cells : List ℕ → List ℕ
cells bytes = get_or bytes 0 0 ∷ get_or bytes 1 0 ∷ get_or bytes 2 0 ∷ get_or bytes 3 0 ∷ get_or bytes 4 0 ∷ get_or bytes 5 0 ∷ get_or bytes 6
    0 ∷ get_or bytes 7 0 ∷ []

eight_is_cells : (bytes : List ℕ) → length bytes ≡ 8 → bytes ≡ cells bytes
eight_is_cells bytes e = text_from_reads bytes (cells bytes) e (search rules)

-- an argument of eight bytes is the number that they spell
pub eight_byte_argument : (low : ℕ) (bytes : List ℕ) → length bytes ≡ 8 → length bytes ≡ argument_length low →
    from_be_bytes w64 (cells bytes) ≡ argument_of low bytes
eight_byte_argument low bytes e l =
    let high : nat_lt low 24 ≡ false = grind (arith, nat_tests) in
    rw high (eight_cells _ _ _ _ _ _ _ _ ∙ ap big_endian (sym (eight_is_cells bytes e)))
