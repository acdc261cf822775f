-- What `--algs` and `--least-secret` say, as the code reads them.
use Rattle.std.proofs.Common.{◌≡◌, ◌∙◌, ◌<◌, ℕ, ℤ, Bool, true, false, List, [], ◌∷◌, ◌++◌, append_assoc, Option, Some, None, Err, refl, ap, subst, sym, arith, length, lit<, option_map, w64}
use Rattle.std.specs.Prelude.{FitsSigned, find, nat_lt, pos, negsuc}
use Rattle.std.specs.Char.{digit_value, is_digit}
use Rattle.std.specs.List.{list_all}
use Rattle.std.specs.Ordering.{int_eq}
use Rattle.std.specs.Str.Parse.{AllDigits, IsNumeral, ParsesSigned, signed_digits_value, without_leading_sign}
use Rattle.std.proofs.lemmas.Bool.{lt-ltb, ltb-true}
use Rattle.std.proofs.lemmas.Bool.Decides.{Decides-int_eq}
use Rattle.std.proofs.lemmas.Int.{fits_signed_from_abs}
use Rattle.cose_head.specs.declared.algorithm.Alg.{Alg}
use Rattle.cose_head.specs.declared.algorithm.Alg.TheVariants.{Hmac64, Hmac256, Hmac384, Hmac512, Es256, Es384, Es512, Esp256, Esp384, Esp512}
use Rattle.cose_head.specs.Algorithm.{algorithm_number, algorithm_numbered, algorithms}
use Rattle.cosecmd.specs.Allowed.{algorithm_written, and_number, is_decimal, number_known}

-- ---- decimal digits

all_digits : (text : List ℕ) → AllDigits 10 text → list_all (λ byte. is_digit byte 10) text ≡ true
all_digits [] digits = refl
all_digits (byte ∷ text) digits = rw (lt-ltb (digit_value byte) 10 digits.0) (all_digits text digits.1)

digits_all : (text : List ℕ) → list_all (λ byte. is_digit byte 10) text ≡ true → AllDigits 10 text
digits_all [] is = tt
digits_all (byte ∷ text) is = go (nat_lt (digit_value byte) 10) refl (λ rest. digits_all text rest)
  where
    go : (test : Bool) → nat_lt (digit_value byte) 10 ≡ test → (list_all (λ b. is_digit b 10) text ≡ true → AllDigits 10 text) → AllDigits 10 (byte ∷ text)
    go true e others =
        let rest : list_all (λ b. is_digit b 10) text ≡ true = rw e at is in
        (ltb-true (digit_value byte) 10 e, others rest)
    go false e others =
        let none : false ≡ true = rw e at is in
        cc

decimal : (text : List ℕ) → IsNumeral 10 text → is_decimal text ≡ true
decimal text numeral = rw (lt-ltb 0 (length text) numeral.0) (all_digits text numeral.1)

numeral_of : (text : List ℕ) → is_decimal text ≡ true → IsNumeral 10 text
numeral_of [] is = cc
numeral_of (byte ∷ text) is =
    let some : 0 < length (byte ∷ text) = omega arith in
    let digits : list_all (λ b. is_digit b 10) (byte ∷ text) ≡ true = rw (lt-ltb 0 (length (byte ∷ text)) some) at is in
    (some, digits_all (byte ∷ text) digits)

-- ---- the numbers of algorithms

found_passes : {A : Type 0} (test : A → Bool) (list : List A) (found : A) → find test list ≡ Some found → test found ≡ true
found_passes test [] found is = cc
found_passes test (first ∷ others) found is = go (test first) refl (λ later. found_passes test others found later)
  where
    go : (passes : Bool) → test first ≡ passes → (find test others ≡ Some found → test found ≡ true) → test found ≡ true
    go true e later =
        let some : Some first ≡ Some found = rw e at is in
        let same : first ≡ found = cc in
        rw same at e
    go false e later =
        let found_later : find test others ≡ Some found = rw e at is in
        later found_later

number_fits : (alg : Alg) → FitsSigned w64 (algorithm_number alg)
number_fits Hmac64 = fits_signed_from_abs w64 (pos 4) (lit< tt)
number_fits Hmac256 = fits_signed_from_abs w64 (pos 5) (lit< tt)
number_fits Hmac384 = fits_signed_from_abs w64 (pos 6) (lit< tt)
number_fits Hmac512 = fits_signed_from_abs w64 (pos 7) (lit< tt)
number_fits Es256 = fits_signed_from_abs w64 (negsuc 6) (lit< tt)
number_fits Es384 = fits_signed_from_abs w64 (negsuc 34) (lit< tt)
number_fits Es512 = fits_signed_from_abs w64 (negsuc 35) (lit< tt)
number_fits Esp256 = fits_signed_from_abs w64 (negsuc 8) (lit< tt)
number_fits Esp384 = fits_signed_from_abs w64 (negsuc 50) (lit< tt)
number_fits Esp512 = fits_signed_from_abs w64 (negsuc 51) (lit< tt)

-- No algorithm has a number that doesn't fit.
none_far : (number : ℤ) → (FitsSigned w64 number → ⊥) → number_known number ≡ None
none_far number far = go (algorithm_numbered number) refl
  where
    go : (found : Option Alg) → algorithm_numbered number ≡ found → number_known number ≡ None
    go None e = ap (option_map algorithm_number) e
    go (Some alg) e =
        let is : algorithm_number alg ≡ number = (Decides-int_eq (algorithm_number alg) number).0 (found_passes (λ it. int_eq (algorithm_number it) number) algorithms alg e) in
        absurd (far (subst (FitsSigned w64) is (number_fits alg)))

pub number_parsed : (word : List ℕ) (number : ℤ) → IsNumeral 10 (without_leading_sign word) → number ≡ signed_digits_value 10 word → number_known number ≡ algorithm_written word
number_parsed word number numeral is =
    let whole : algorithm_written word ≡ number_known (signed_digits_value 10 word) = rw (decimal (without_leading_sign word) numeral) refl in
    ap number_known is ∙ sym whole

pub nothing_parsed : {E : Type 0} (word : List ℕ) (error : E) → ParsesSigned w64 10 word (Err error) → algorithm_written word ≡ None
nothing_parsed word error parsed = go (is_decimal (without_leading_sign word)) refl
  where
    go : (test : Bool) → is_decimal (without_leading_sign word) ≡ test → algorithm_written word ≡ None
    go true e =
        let none = none_far (signed_digits_value 10 word) (λ fits. parsed (numeral_of (without_leading_sign word) e, fits)) in
        rw e none
    go false e = rw e refl

-- ---- the list so far

pub one_more : (numbers : List ℤ) (written : Option ℤ) (number : ℤ) (others : Option (List ℤ)) → written ≡ Some number →
    option_map (λ rest. (numbers ++ number ∷ []) ++ rest) others ≡ option_map (λ rest. numbers ++ rest) (and_number written others)
one_more numbers written number None is = rw is refl
one_more numbers written number (Some rest) is = rw is (ap Some (append_assoc numbers (number ∷ []) rest))
