-- No spelling is shorter than the shortest.
use Rattle.std.proofs.Common.{◌≡◌, ℕ, suc, ◌+◌, ◌*◌, ◌/◌, ◌^◌, ◌<◌, ◌≤◌, inl, inr, List, [], ◌∷◌, ◌++◌, length, if◌then◌else◌, refl, sym, ap, ◌∙◌, arith, ⊎_elim}
use Rattle.std.proofs.lemmas.Bool.{cond_both, ltb-false, lt-ltb, le-ltb, cases_lt}
use Rattle.std.proofs.lemmas.Bool.Decides.{nat_tests}
use Rattle.std.proofs.lemmas.List.{length-append, get_or-append-add, get_or_append_left, get_or_past}
use Rattle.std.specs.Prelude.{nat_lt}
use Rattle.std.specs.Int.{w16, w32, w64, to_be_bytes}
use Rattle.cose_head.specs.Head.{low_of, argument_length, argument_of, big_endian, shortest_head}
use Rattle.cose_head.specs.Item.{Item, unsigned, negative, byte_string, text_string, array, map, tag, simple, float, Items, no_items, item, count_of, IsHead, Begins, Spells, SpellsAll}
use Rattle.cose_head.specs.Shortest.{AreBytes, shortest, shortest_all}
use Rattle.cose_head.proofs.lemmas.Reading.Sound.{argument_widths}

bytes_left : (a b : List ℕ) → AreBytes (a ++ b) → AreBytes a
bytes_left a b bytes i =
    ⊎_elim (λ inside. rw (get_or_append_left a b 0 i inside) at (bytes i)) (λ past. rw (get_or_past a i 0 past) (omega arith)) (cases_lt i (length a))

bytes_right : (a b : List ℕ) → AreBytes (a ++ b) → AreBytes b
bytes_right a b bytes i = rw (get_or-append-add a b i 0) at (bytes (length a + i))

-- the lengths of the shortest heads
short_length : (major n most : ℕ) → 1 ≤ most → (24 ≤ n → 2 ≤ most) → (2 ^ 8 ≤ n → 3 ≤ most) → (2 ^ 16 ≤ n → 5 ≤ most)
    → (2 ^ 32 ≤ n → 9 ≤ most) → length (shortest_head major n) ≤ most
unfolding shortest_head
short_length major n most one two three five nine =
    let P : List ℕ → Type 0 = λ bytes. length bytes ≤ most in
    cond_both (nat_lt n 24) ((32 * major + n) ∷ []) (if nat_lt n (2 ^ 8) then (32 * major + 24) ∷ n ∷ [] else
    if nat_lt n (2 ^ 16) then (32 * major + 25) ∷ to_be_bytes w16 n else
    if nat_lt n (2 ^ 32) then (32 * major + 26) ∷ to_be_bytes w32 n else (32 * major + 27) ∷ to_be_bytes w64 n) P (λ e. one)
    (λ e. cond_both (nat_lt n (2 ^ 8)) ((32 * major + 24) ∷ n ∷ []) (if nat_lt n (2 ^ 16) then (32 * major + 25) ∷ to_be_bytes w16 n else
    if nat_lt n (2 ^ 32) then (32 * major + 26) ∷ to_be_bytes w32 n else (32 * major + 27) ∷ to_be_bytes w64 n) P (λ f. two (ltb-false n 24 e))
    (λ f. cond_both (nat_lt n (2 ^ 16)) ((32 * major + 25) ∷ to_be_bytes w16 n) (if nat_lt n (2 ^ 32) then (32 * major + 26) ∷ to_be_bytes w32 n else
    (32 * major + 27) ∷ to_be_bytes w64 n) P (λ g. three (ltb-false n (2 ^ 8) f))
    (λ g. cond_both (nat_lt n (2 ^ 32)) ((32 * major + 26) ∷ to_be_bytes w32 n) ((32 * major + 27) ∷ to_be_bytes w64 n) P
    (λ k. five (ltb-false n (2 ^ 16) g)) (λ k. nine (ltb-false n (2 ^ 32) k)))))

-- as many bytes spell no greater number
one_small : (bytes : List ℕ) → AreBytes bytes → length bytes ≡ 1 → big_endian bytes < 2 ^ 8
one_small [] are n = absurd (omega arith)
one_small (a ∷ []) are n = let x : a < 256 = are 0 in omega arith
one_small (a ∷ b ∷ bytes) are n = absurd (omega arith)

two_small : (bytes : List ℕ) → AreBytes bytes → length bytes ≡ 2 → big_endian bytes < 2 ^ 16
two_small [] are n = absurd (omega arith)
two_small (a ∷ []) are n = absurd (omega arith)
two_small (a ∷ b ∷ []) are n = let x : a < 256 = are 0 in let y : b < 256 = are 1 in omega arith
two_small (a ∷ b ∷ c ∷ bytes) are n = absurd (omega arith)

four_small : (bytes : List ℕ) → AreBytes bytes → length bytes ≡ 4 → big_endian bytes < 2 ^ 32
four_small [] are n = absurd (omega arith)
four_small (a ∷ []) are n = absurd (omega arith)
four_small (a ∷ b ∷ []) are n = absurd (omega arith)
four_small (a ∷ b ∷ c ∷ []) are n = absurd (omega arith)
four_small (a ∷ b ∷ c ∷ d ∷ []) are n = let x : a < 256 = are 0 in let y : b < 256 = are 1 in let z : c < 256 = are 2 in let w : d < 256 = are 3 in omega arith
four_small (a ∷ b ∷ c ∷ d ∷ e ∷ bytes) are n = absurd (omega arith)

low_small : (low : ℕ) → argument_length low ≡ 0 → low < 24
low_small low e = grind (arith, nat_tests)

low_large : (low : ℕ) → 0 < argument_length low → 24 ≤ low
low_large low some = grind (arith, nat_tests)

small_argument : (low : ℕ) (bytes : List ℕ) → low < 24 → argument_of low bytes ≡ low
small_argument low bytes small = rw (lt-ltb low 24 small) refl

large_argument : (low : ℕ) (bytes : List ℕ) → 24 ≤ low → argument_of low bytes ≡ big_endian bytes
large_argument low bytes large = rw (le-ltb low 24 large) refl

head_least : (part : List ℕ) (major n : ℕ) → AreBytes part → IsHead part major n
    → length (shortest_head major n) ≤ length part
head_least part major n bytes s =
    let low : ℕ = low_of s.initial in
    let inner : AreBytes s.argument_bytes = λ i. rw s.whole at (bytes (suc i)) in
    let whole : length part ≡ suc (length s.argument_bytes) = ap length s.whole in
    let wide = s.has_width in
    let spelled = s.has_argument in
    let big : 0 < argument_length low → n ≡ big_endian s.argument_bytes = λ some. sym spelled
    ∙ large_argument low s.argument_bytes (low_large low some) in
    elim (argument_widths low) [
      | inl e ↦ let small = low_small low e in let same = sym spelled ∙ small_argument low s.argument_bytes small in
          short_length major n (length part) (omega arith) (λ h. omega arith) (λ h. omega arith) (λ h. omega arith) (λ h. omega arith)
      | inr f ↦ elim f [
        | inl e ↦ let same = big (omega arith) in let few = one_small s.argument_bytes inner (wide ∙ e) in
            short_length major n (length part) (omega arith) (λ h. omega arith) (λ h. omega arith) (λ h. omega arith) (λ h. omega arith)
        | inr g ↦ elim g [
          | inl e ↦ let same = big (omega arith) in let few = two_small s.argument_bytes inner (wide ∙ e) in
              short_length major n (length part) (omega arith) (λ h. omega arith) (λ h. omega arith) (λ h. omega arith) (λ h. omega arith)
          | inr k ↦ elim k [
            | inl e ↦ let same = big (omega arith) in let few = four_small s.argument_bytes inner (wide ∙ e) in
                short_length major n (length part) (omega arith) (λ h. omega arith) (λ h. omega arith) (λ h. omega arith) (λ h. omega arith)
            | inr e ↦ short_length major n (length part) (omega arith) (λ h. omega arith) (λ h. omega arith) (λ h. omega arith) (λ h. omega arith)
          ]
        ]
      ]
    ]

begins_least : (bytes : List ℕ) (major n : ℕ) (R : List ℕ → Type 0) (short : List ℕ) → AreBytes bytes
    → (s : Begins bytes major n R) → length short ≤ length s.rest →
    length (shortest_head major n ++ short) ≤ length bytes
begins_least bytes major n R short are s shorter =
    let l : length bytes ≡ length s.head + length s.rest = ap length s.whole ∙ length-append s.head s.rest in
    let k = length-append (shortest_head major n) short in
    let first : AreBytes s.head = bytes_left s.head s.rest (rw s.whole at are) in
    let h = head_least s.head major n first s.is_head in
    omega arith

rest_bytes : (bytes : List ℕ) (major n : ℕ) (R : List ℕ → Type 0) → AreBytes bytes → (s : Begins bytes major n R)
    → AreBytes s.rest
rest_bytes bytes major n R are s = bytes_right s.head s.rest (rw s.whole at are)

mutual
  unfolding Spells shortest

  pub shortest_least : (content : Item) (bytes : List ℕ) → AreBytes bytes → Spells bytes content
      → length (shortest content) ≤ length bytes
  shortest_least (unsigned n) bytes are s = head_least bytes 0 n are s
  shortest_least (negative n) bytes are s = head_least bytes 1 n are s
  shortest_least (byte_string content) bytes are s =
      let e = ap length s.is_rest in begins_least bytes 2 (length content) (λ rest. rest ≡ content) content are s (omega arith)
  shortest_least (text_string content) bytes are s =
      let e = ap length s.is_rest in begins_least bytes 3 (length content) (λ rest. rest ≡ content) content are s (omega arith)
  shortest_least (array items) bytes are s =
      let R : List ℕ → Type 0 = λ rest. SpellsAll rest items in
      begins_least bytes 4 (count_of items) R (shortest_all items) are s (all_least items s.rest (rest_bytes bytes 4 (count_of items) R are s) s.is_rest)
  shortest_least (map items) bytes are s =
      let R : List ℕ → Type 0 = λ rest. SpellsAll rest items in
      let pairs : ℕ = s.0 in
      let even : 2 * pairs ≡ count_of items = s.1 in
      let half : count_of items / 2 ≡ pairs = omega arith in
      let b : Begins bytes 5 pairs R = s.2 in
      rw half (begins_least bytes 5 pairs R (shortest_all items) are b (all_least items b.rest (rest_bytes bytes 5 pairs R are b) b.is_rest))
  shortest_least (tag n content) bytes are s =
      let R : List ℕ → Type 0 = λ rest. Spells rest content in
      begins_least bytes 6 n R (shortest content) are s (shortest_least content s.rest (rest_bytes bytes 6 n R are s) s.is_rest)
  shortest_least (simple n) bytes are s = omega arith
  shortest_least (float width bits) bytes are s = omega arith

  pub all_least : (items : Items) (bytes : List ℕ) → AreBytes bytes → SpellsAll bytes items
      → length (shortest_all items) ≤ length bytes
  all_least no_items bytes are s = omega arith
  all_least (item first others) bytes are s =
      let both : AreBytes (s.0 ++ s.1) = rw s.2 at are in
      let l : length bytes ≡ length s.0 + length s.1 = ap length s.2 ∙ length-append s.0 s.1 in
      let k = length-append (shortest first) (shortest_all others) in
      let a = shortest_least first s.0 (bytes_left s.0 s.1 both) s.3 in
      let b = all_least others s.1 (bytes_right s.0 s.1 both) s.4 in
      omega arith
