-- A text in quotes ends where its quotes do.
use Rattle.std.proofs.Common.{◌≡◌, ℕ, zero, suc, ◌/◌, ◌%◌, ◌==◌, ◌&&◌, ◌||◌, nat_lt, not, Bool, true, false, List, [], ◌∷◌, ◌++◌, Some, map, refl, ap, ◌∙◌, append_assoc}
use Rattle.std.specs.List.{concat}
use Rattle.std.specs.Int.{w16, to_be_bytes}
use Rattle.std.specs.Prelude.{slice_index, if◌then◌else◌}
use Rattle.std.specs.Str.{chars}
use Rattle.hex.specs.Hex.{encode_with, lower_digits}
use Rattle.cose_text.specs.Quoted.{QuotesEnd, char_text, past_quotes, unit_text, units_of, units_text}

-- a character that neither ends the quotes nor begins an escape
abbrev plain : ℕ → Bool
plain c = not (c == 34) && not (c == 92)

abbrev all_plain : List ℕ → Bool
all_plain [] = true
all_plain (c ∷ cs) = plain c && all_plain cs

both_true : (a b : Bool) → a && b ≡ true → (a ≡ true) × (b ≡ true)
both_true true true e = (refl, refl)
both_true true false e = absurd cc
both_true false b e = absurd cc

neither : (a b : Bool) → not a && not b ≡ true → (a ≡ false) × (b ≡ false)
neither false false e = (refl, refl)
neither false true e = absurd cc
neither true b e = absurd cc

none_of : (a b : Bool) → a || b ≡ false → (a ≡ false) × (b ≡ false)
none_of false false e = (refl, refl)
none_of false true e = absurd cc
none_of true b e = absurd cc

plain_in : (cs : List ℕ) (n : ℕ) → all_plain cs ≡ true → plain (slice_index cs n) ≡ true
plain_in [] n e = refl
plain_in (c ∷ cs) zero e = (both_true (plain c) (all_plain cs) e).0
plain_in (c ∷ cs) (suc n) e = plain_in cs n (both_true (plain c) (all_plain cs) e).1

past_plain : (c : ℕ) (rest : List ℕ) → (c == 34) ≡ false → (c == 92) ≡ false → past_quotes (c ∷ rest) ≡ past_quotes rest
unfolding past_quotes
past_plain c [] no_quote no_escape = rw no_quote refl
past_plain c (d ∷ rest) no_quote no_escape = rw (no_quote, no_escape) refl

past_escape : (d : ℕ) (rest : List ℕ) → past_quotes (92 ∷ d ∷ rest) ≡ past_quotes rest
unfolding past_quotes
past_escape d rest = refl

past_digit : (n : ℕ) (rest : List ℕ) → past_quotes (slice_index lower_digits n ∷ rest) ≡ past_quotes rest
past_digit n rest =
    let p = neither _ _ (plain_in lower_digits n refl) in
    past_plain (slice_index lower_digits n) rest p.0 p.1

past_digits : (bytes rest : List ℕ) → past_quotes (encode_with lower_digits bytes ++ rest) ≡ past_quotes rest
unfolding encode_with
past_digits [] rest = refl
past_digits (b ∷ bytes) rest = past_digit (b / 16) _ ∙ past_digit (b % 16) _ ∙ past_digits bytes rest

past_unit : (unit : ℕ) (rest : List ℕ) → past_quotes (unit_text unit ++ rest) ≡ past_quotes rest
past_unit unit rest = past_escape 117 _ ∙ past_digits (to_be_bytes w16 unit) rest

past_each : (units rest : List ℕ) → past_quotes (concat (map unit_text units) ++ rest) ≡ past_quotes rest
past_each [] rest = refl
past_each (unit ∷ units) rest =
    ap past_quotes (append_assoc (unit_text unit) (concat (map unit_text units)) rest) ∙ past_unit unit _ ∙ past_each units rest

past_char : (c : ℕ) (rest : List ℕ) → past_quotes (char_text c ++ rest) ≡ past_quotes rest
past_char c rest = go (c == 34 || c == 92) (nat_lt 31 c && nat_lt c 127) refl
  where
    go : (marked shown : Bool) → (c == 34 || c == 92) ≡ marked →
        past_quotes ((if marked then 92 ∷ c ∷ [] else if shown then c ∷ [] else units_text c) ++ rest) ≡ past_quotes rest
    go true shown e = past_escape c rest
    go false true e = let n = none_of (c == 34) (c == 92) e in past_plain c rest n.0 n.1
    go false false e = past_each (units_of c) rest

past_chars : (cs rest : List ℕ) → past_quotes (concat (map char_text cs) ++ 34 ∷ rest) ≡ Some rest
unfolding past_quotes
past_chars [] [] = refl
past_chars [] (d ∷ rest) = refl
past_chars (c ∷ cs) rest =
    ap past_quotes (append_assoc (char_text c) (concat (map char_text cs)) (34 ∷ rest)) ∙ past_char c _ ∙ past_chars cs rest

pub quotes_end : QuotesEnd
quotes_end content rest = past_chars (chars content) rest
