-- The shortest head of an argument is a head of it.
use Rattle.std.proofs.Common.{◌≡◌, ℕ, ◌+◌, ◌*◌, ◌/◌, ◌%◌, ◌^◌, ◌<◌, ◌≤◌, false, List, [], ◌∷◌, ◌++◌, length, if◌then◌else◌, refl, sym, ◌∙◌, arith}
use Rattle.std.proofs.lemmas.Bool.{cond_both, ltb-true}
use Rattle.std.proofs.lemmas.Nat.{from_be_bytes-to_be_bytes_2, from_be_bytes-to_be_bytes_4, from_be_bytes-to_be_bytes_8}
use Rattle.std.specs.Prelude.{nat_lt, ◌==◌}
use Rattle.std.specs.Int.{w16, w32, w64, to_be_bytes, from_be_bytes}
use Rattle.cose_head.specs.Head.{argument_length, argument_of, big_endian, shortest_head, bare_head, is_bad_simple}
use Rattle.cose_head.specs.Item.{IsHead}
use Rattle.cose_head.proofs.lemmas.Head.BareHeads.{head_complete}
use Rattle.std.proofs.lemmas.Bool.Decides.{nat_tests}
use Rattle.cose_head.specs.declared.head.HeadStep.TheVariants.{Got}
use Rattle.cose_head.proofs.lemmas.Head.Arguments.{eight_cells}

two_cells : (a b : ℕ) → from_be_bytes w16 (a ∷ b ∷ []) ≡ big_endian (a ∷ b ∷ [])
two_cells a b = omega arith

four_cells : (a b c d : ℕ) → from_be_bytes w32 (a ∷ b ∷ c ∷ d ∷ []) ≡ big_endian (a ∷ b ∷ c ∷ d ∷ [])
four_cells a b c d = omega arith

-- a head with argument bytes, announced by 24 to 27
wide_head : (major low n : ℕ) (bytes : List ℕ) → major < 8 → low < 28 → length bytes ≡ argument_length low → argument_of low bytes ≡ n →
    IsHead ((32 * major + low) ∷ bytes) major n
wide_head major low n bytes small definite wide spelled =
    let l : (32 * major + low) % 32 ≡ low = omega arith in
    let m : (32 * major + low) / 32 % 8 ≡ major = omega arith in
    record {
      initial = 32 * major + low;
      argument_bytes = bytes;
      whole = refl;
      has_major = m;
      is_definite = rw l definite;
      has_width = rw l wide;
      has_argument = rw l spelled;
    }

pub short_head_is : (major n : ℕ) → major < 8 → n < 2 ^ 64 → IsHead (shortest_head major n) major n
unfolding shortest_head
short_head_is major n small fits =
    let P : List ℕ → Type 0 = λ bytes. IsHead bytes major n in
    cond_both (nat_lt n 24) ((32 * major + n) ∷ [])
    (if nat_lt n (2 ^ 8) then (32 * major + 24) ∷ n ∷ [] else if nat_lt n (2 ^ 16) then (32 * major + 25) ∷ to_be_bytes w16 n else
    if nat_lt n (2 ^ 32) then (32 * major + 26) ∷ to_be_bytes w32 n else (32 * major + 27) ∷ to_be_bytes w64 n) P
    (λ e. let s = ltb-true n 24 e in wide_head major n n [] small (omega arith) (rw e refl) (rw e refl))
    (λ e. cond_both (nat_lt n (2 ^ 8)) ((32 * major + 24) ∷ n ∷ []) (if nat_lt n (2 ^ 16) then (32 * major + 25) ∷ to_be_bytes w16 n else
    if nat_lt n (2 ^ 32) then (32 * major + 26) ∷ to_be_bytes w32 n else (32 * major + 27) ∷ to_be_bytes w64 n) P
    (λ f. wide_head major 24 n (n ∷ []) small (omega arith) refl (omega arith))
    (λ f. cond_both (nat_lt n (2 ^ 16)) ((32 * major + 25) ∷ to_be_bytes w16 n)
    (if nat_lt n (2 ^ 32) then (32 * major + 26) ∷ to_be_bytes w32 n else (32 * major + 27) ∷ to_be_bytes w64 n) P
    (λ g. wide_head major 25 n (to_be_bytes w16 n) small (omega arith) refl
    (sym (two_cells _ _) ∙ from_be_bytes-to_be_bytes_2 n (ltb-true n (2 ^ 16) g)))
    (λ g. cond_both (nat_lt n (2 ^ 32)) ((32 * major + 26) ∷ to_be_bytes w32 n) ((32 * major + 27) ∷ to_be_bytes w64 n) P
    (λ k. wide_head major 26 n (to_be_bytes w32 n) small (omega arith) refl
    (sym (four_cells _ _ _ _) ∙ from_be_bytes-to_be_bytes_4 n (ltb-true n (2 ^ 32) k)))
    (λ k. wide_head major 27 n (to_be_bytes w64 n) small (omega arith) refl
    (sym (eight_cells _ _ _ _ _ _ _ _) ∙ from_be_bytes-to_be_bytes_8 n fits)))))

plain_good : (major argument width : ℕ) → major ≤ 6 → is_bad_simple (record { major = major; arg = argument; width = width }) ≡ false
plain_good major argument width plain = let e : major == 7 ≡ false = grind (arith, nat_tests) in rw e refl

pub shortest_is_head : (major argument : ℕ) (rest : List ℕ) → major ≤ 6 → argument < 2 ^ 64 →
    let width = length (shortest_head major argument) in
    bare_head (shortest_head major argument ++ rest) ≡ Got (record { major = major; arg = argument; width = width }) width
shortest_is_head major argument rest plain fits =
    head_complete (shortest_head major argument) rest major argument (short_head_is major argument (omega arith) fits)
    (plain_good major argument (length (shortest_head major argument)) plain)
