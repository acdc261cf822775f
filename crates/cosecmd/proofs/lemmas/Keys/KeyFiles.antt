-- What is read of a file decides on keys as the whole file does.
use Rattle.std.proofs.Common.{◌≡◌, ℕ, ◌≤◌, ◌<◌, Bool, true, false, List, take, length, nat_lt, refl, ap, ◌∙◌, arith, min}
use Rattle.std.proofs.lemmas.Bool.{lt-ltb, ltb-false, ltb-true}
use Rattle.std.proofs.lemmas.List.{length-take, take_all}
use Rattle.cose_answers.specs.Printed.{ItemsPrint, keys_print}
use Rattle.cose_map.specs.KeySet.{keys_of}

-- Where fewer bytes were read, they are the whole file.
pub whole_read : (read bytes : List ℕ) → read ≡ take 65536 bytes → length read < 65536 → read ≡ bytes
whole_read read bytes is short =
    let n : length read ≡ min 65536 (length bytes) = rw is (length-take 65536 bytes) in
    let fits : length bytes ≤ 65536 = omega (arith, n, short) in
    is ∙ take_all 65536 bytes fits

-- So many bytes are no key set, whatever follows them.
same_set_by : (bytes : List ℕ) (long : Bool) → nat_lt 65536 (length bytes) ≡ long →
    (keys_of (take 65536 bytes) ≡ keys_of bytes) × ((said : ItemsPrint) → keys_print said (take 65536 bytes) ≡ keys_print said bytes)
unfolding keys_of
same_set_by bytes false e =
    let fits : length bytes ≤ 65536 = let f = ltb-false 65536 (length bytes) e in omega (arith, f) in
    (ap keys_of (take_all 65536 bytes fits), λ said. ap (keys_print said) (take_all 65536 bytes fits))
same_set_by bytes true e =
    let more : 65536 < length bytes = ltb-true 65536 (length bytes) e in
    let n : length (take 65536 bytes) ≡ 65536 = let m = length-take 65536 bytes in omega (arith, m, more) in
    let long : nat_lt 65535 (length bytes) ≡ true = lt-ltb 65535 (length bytes) (omega (arith, more)) in
    (rw (n, long) refl, λ said. rw (n, long) refl)

pub keys_read : (read bytes : List ℕ) → read ≡ take 65536 bytes → keys_of read ≡ keys_of bytes
keys_read read bytes is = ap keys_of is ∙ (same_set_by bytes (nat_lt 65536 (length bytes)) refl).0

pub list_read : (read bytes : List ℕ) → read ≡ take 65536 bytes → (said : ItemsPrint) → keys_print said read ≡ keys_print said bytes
list_read read bytes is said = ap (keys_print said) is ∙ (same_set_by bytes (nat_lt 65536 (length bytes)) refl).1 said
