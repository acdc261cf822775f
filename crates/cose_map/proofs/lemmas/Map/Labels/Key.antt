-- The keys of labels: no two labels have the same one.
use Rattle.std.proofs.Common.{◌≡◌, ◌∙◌, ℕ, ℤ, pos, negsuc, zero, suc, drop, ◌+◌, ◌*◌, ◌^◌, ◌<◌, ◌≤◌, Bool, true, false, not, List, [], ◌∷◌, length, Option, Some, None, refl, sym, ap, arith}
use Rattle.std.specs.Prelude.{nat_lt, ◌==◌, ◌&&◌, ◌||◌, if◌then◌else◌, option_map}
use Rattle.std.proofs.lemmas.Bool.Decides.{nat_tests}
use Rattle.cose_map.specs.Label.{LabelValue, number, words, same_label}
use Rattle.cose_map.specs.Map.Labels.{number_after, text_key, integer_key, key_of, is_held, is_in, is_among}
use Rattle.cose_map.proofs.lemmas.Label.Order.{is_same, not_same}
use Rattle.cose_map.proofs.lemmas.Map.Labels.Others.{in_turn}

both : (a b : Bool) → (a && b) ≡ true → (a ≡ true) × (b ≡ true)
both true b e = (refl, e)
both false b e = cc

-- what a test lets through
passed : {A : Type 0} (t : Bool) (o : Option A) (a : A) → (if t then o else None) ≡ Some a → (t ≡ true) × (o ≡ Some a)
passed true o a e = (refl, e)
passed false o a e = cc

-- the bytes of a number, of which there are as many
same_bytes : (a b : ℕ) (xs ys : List ℕ) (n : ℕ) → length xs ≡ length ys → number_after a xs ≡ Some n → number_after b ys ≡ Some n → (a ≡ b) × (xs ≡ ys)
same_bytes a b [] [] n l p q = let first : a ≡ n = cc in let second : b ≡ n = cc in (first ∙ sym second, refl)
same_bytes a b [] (y ∷ ys) n l p q = absurd (omega (arith, l))
same_bytes a b (x ∷ xs) [] n l p q = absurd (omega (arith, l))
same_bytes a b (x ∷ xs) (y ∷ ys) n l p q =
    let first = passed (nat_lt a (2 ^ 104) && nat_lt x 256) (number_after (a * 256 + x) xs) n p in
    let second = passed (nat_lt b (2 ^ 104) && nat_lt y 256) (number_after (b * 256 + y) ys) n q in
    let on = same_bytes (a * 256 + x) (b * 256 + y) xs ys n (omega (arith, l)) first.1 second.1 in
    let low : x < 256 = below x (both (nat_lt a (2 ^ 104)) (nat_lt x 256) first.0).1 in
    let other_low : y < 256 = below y (both (nat_lt b (2 ^ 104)) (nat_lt y 256) second.0).1 in
    let equal : x ≡ y = omega (arith, low, other_low, on.0) in
    let high : a ≡ b = omega (arith, low, other_low, on.0) in
    (high, rw (equal, on.1) refl)
  where
    below : (x : ℕ) → nat_lt x 256 ≡ true → x < 256
    below x p = grind (arith, nat_tests)

-- what a key was made of
text_number : (text : List ℕ) (key : ℕ) → text_key text ≡ Some key → (n : ℕ) × (number_after 0 text ≡ Some n) × (key ≡ 2 ^ 66 + n * 16 + length text) × (length text ≤ 14)
text_number text key e = at (nat_lt 14 (length text)) (number_after 0 text) refl refl e
  where
    at : (t : Bool) (o : Option ℕ) → nat_lt 14 (length text) ≡ t → number_after 0 text ≡ o → (if t then None else option_map (λ n. 2 ^ 66 + n * 16 + length text) o) ≡ Some key →
        (n : ℕ) × (number_after 0 text ≡ Some n) × (key ≡ 2 ^ 66 + n * 16 + length text) × (length text ≤ 14)
    at true o s p e = cc
    at false None s p e = cc
    at false (Some n) s p e = let is : key ≡ 2 ^ 66 + n * 16 + length text = cc in (n, p, is, short (length text) s)
      where
        short : (l : ℕ) → nat_lt 14 l ≡ false → l ≤ 14
        short l p = grind (arith, nat_tests)

same_text : (a b : List ℕ) (key : ℕ) → text_key a ≡ Some key → text_key b ≡ Some key → a ≡ b
same_text a b key p q =
    let first = text_number a key p in
    let second = text_number b key q in
    let counted : length a ≡ length b = omega (arith, first.2, first.3, second.2, second.3) in
    let numbers : first.0 ≡ second.0 = omega (arith, first.2, first.3, second.2, second.3) in
    (same_bytes 0 0 a b first.0 counted first.1 (second.1 ∙ ap Some (sym numbers))).1

integer_low : (z : ℤ) (key : ℕ) → integer_key z ≡ Some key → key < 2 ^ 66
integer_low (pos n) key e = let parts = passed (nat_lt n (2 ^ 64)) (Some n) key e in let same : n ≡ key = cc in low n key parts.0 same
  where
    low : (n key : ℕ) → nat_lt n (2 ^ 64) ≡ true → n ≡ key → key < 2 ^ 66
    low n key p e = grind (arith, nat_tests)
integer_low (negsuc n) key e = let parts = passed (nat_lt n (2 ^ 64)) (Some (2 ^ 64 + n)) key e in let same : 2 ^ 64 + n ≡ key = cc in low n key parts.0 same
  where
    low : (n key : ℕ) → nat_lt n (2 ^ 64) ≡ true → 2 ^ 64 + n ≡ key → key < 2 ^ 66
    low n key p e = grind (arith, nat_tests)

apart_integers : (n m key : ℕ) → integer_key (pos n) ≡ Some key → integer_key (negsuc m) ≡ Some key → ⊥
apart_integers n m key p q =
    let first = passed (nat_lt n (2 ^ 64)) (Some n) key p in
    let second = passed (nat_lt m (2 ^ 64)) (Some (2 ^ 64 + m)) key q in
    let one : n ≡ key = cc in let other : 2 ^ 64 + m ≡ key = cc in
    apart n m key first.0 one other
  where
    apart : (n m key : ℕ) → nat_lt n (2 ^ 64) ≡ true → n ≡ key → 2 ^ 64 + m ≡ key → ⊥
    apart n m key p e f = grind (arith, nat_tests)

same_integer : (a b : ℤ) (key : ℕ) → integer_key a ≡ Some key → integer_key b ≡ Some key → a ≡ b
same_integer (pos n) (pos m) key p q =
    let first : Some n ≡ Some key = (passed (nat_lt n (2 ^ 64)) (Some n) key p).1 in
    let second : Some m ≡ Some key = (passed (nat_lt m (2 ^ 64)) (Some m) key q).1 in
    let same : n ≡ m = cc in ap pos same
same_integer (pos n) (negsuc m) key p q = absurd (apart_integers n m key p q)
same_integer (negsuc n) (pos m) key p q = absurd (apart_integers m n key q p)
same_integer (negsuc n) (negsuc m) key p q =
    let first : Some (2 ^ 64 + n) ≡ Some key = (passed (nat_lt n (2 ^ 64)) (Some (2 ^ 64 + n)) key p).1 in
    let second : Some (2 ^ 64 + m) ≡ Some key = (passed (nat_lt m (2 ^ 64)) (Some (2 ^ 64 + m)) key q).1 in
    let one : 2 ^ 64 + n ≡ key = cc in let other : 2 ^ 64 + m ≡ key = cc in
    let same : n ≡ m = omega (arith, one, other) in ap negsuc same

text_high : (text : List ℕ) (key : ℕ) → text_key text ≡ Some key → 2 ^ 66 ≤ key
text_high text key e = let made = text_number text key e in omega (arith, made.2)

same_key : (a b : LabelValue) (key : ℕ) → key_of a ≡ Some key → key_of b ≡ Some key → a ≡ b
same_key (number a) (number b) key p q = ap number (same_integer a b key p q)
same_key (words a) (words b) key p q = ap words (same_text a b key p q)
same_key (number a) (words b) key p q = absurd (omega (arith, integer_low a key p, text_high b key q))
same_key (words a) (number b) key p q = absurd (omega (arith, integer_low b key q, text_high a key p))

-- labels are the same if their keys are
same_by_key : (a b : LabelValue) (k l : ℕ) → key_of a ≡ Some k → key_of b ≡ Some l → (k == l) ≡ same_label a b
same_by_key a b k l p q = at (k == l) refl
  where
    equal : (k l : ℕ) → (k == l) ≡ true → k ≡ l
    equal k l e = grind (arith, nat_tests)

    unequal : (k l : ℕ) → (k == l) ≡ false → k ≡ l → ⊥
    unequal k l e f = grind (arith, nat_tests)

    some : (k l : ℕ) → ◌≡◌ {A = Option ℕ} (Some k) (Some l) → k ≡ l
    some k l e = cc

    at : (t : Bool) → (k == l) ≡ t → t ≡ same_label a b
    at true e = sym (in_turn a b (same_key a b k p (q ∙ ap Some (sym (equal k l e)))))
    at false e = sym (not_same (same_label a b) (λ same. unequal k l e (some k l (sym p ∙ ap key_of (is_same a b same) ∙ q))))

apart_by_key : (a b : LabelValue) (k : ℕ) → key_of a ≡ Some k → key_of b ≡ None → same_label b a ≡ false
apart_by_key a b k p q = not_same (same_label b a) (λ same. other (sym q ∙ ap key_of (is_same b a same) ∙ p))
  where
    other : ◌≡◌ {A = Option ℕ} None (Some k) → ⊥
    other e = cc

kept : (b : Bool) → b ≡ (b && not false)
kept true = refl
kept false = refl

-- a set with one label more, by its key and without one, and with one less
pub key_added : (name : LabelValue) (k : ℕ) (keys new : List ℕ) (others : List LabelValue) → key_of name ≡ Some k → ((other : ℕ) → is_in other new ≡ ((other == k) || is_in other keys)) →
    (other : LabelValue) → is_held (key_of other) other new others ≡ (same_label other name || is_held (key_of other) other keys others)
key_added name k keys new others is more other = at (key_of other) refl
  where
    at : (o : Option ℕ) → key_of other ≡ o → is_held o other new others ≡ (same_label other name || is_held o other keys others)
    at None e = rw (apart_by_key name other k is e) refl
    at (Some l) e = more l ∙ ap (λ b. b || is_in l keys) (same_by_key other name l k e is)

pub key_removed : (name : LabelValue) (k : ℕ) (keys new : List ℕ) (others : List LabelValue) → key_of name ≡ Some k → ((other : ℕ) → is_in other new ≡ (is_in other keys && not (other == k))) →
    (other : LabelValue) → is_held (key_of other) other new others ≡ (is_held (key_of other) other keys others && not (same_label other name))
key_removed name k keys new others is less other = at (key_of other) refl
  where
    at : (o : Option ℕ) → key_of other ≡ o → is_held o other new others ≡ (is_held o other keys others && not (same_label other name))
    at None e = rw (apart_by_key name other k is e) (kept (is_among other others))
    at (Some l) e = less l ∙ ap (λ b. is_in l keys && not b) (same_by_key other name l k e is)

-- a number that is too large for one byte more
pub too_large : (n i : ℕ) (text : List ℕ) → i < length text → nat_lt n (2 ^ 104) ≡ false → None ≡ number_after n (drop i text)
too_large n i [] l e = absurd (omega (arith, l))
too_large n zero (byte ∷ bytes) l e = rw e refl
too_large n (suc i) (byte ∷ bytes) l e = too_large n i bytes (omega (arith, l)) e
