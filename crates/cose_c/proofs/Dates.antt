-- The date that an item is, by its head: major types 0 and 1 are integers.
use Rattle.std.proofs.Common.{◌≡◌, ◌≢◌, ℕ, zero, suc, ◌<◌, ◌≤◌, List, drop, refl, sym, ap, ◌∙◌, arith}
use Rattle.cose_head.specs.declared.head.Head.{Head}
use Rattle.cose_head.specs.Placed.{Look, Placed, head_of_item, integer_in, look, look_with}
use Rattle.cose_head.proofs.lemmas.Placed.Placed.{negative_found, no_integer, unsigned_found}
use Rattle.cose_c.specs.CoseClaims.{date_numbers, no_date}

pub looks : (p : Placed) (h : Head) → h ≡ head_of_item p → look p ≡ look_with h (drop h.width p.bytes)
unfolding look
looks p h e = rw e refl

-- Major types 0 and 1 are integers, and no other is one (RFC 8949 section 3.1).
dates_with : (h : Head) (rest : List ℕ) (n : ℕ) → h.major ≡ n → n ≤ 1 → record { number = h.arg; present = 1; negative = n } ≡ date_numbers (integer_in (look_with h rest))
dates_with h rest zero e low = sym (ap date_numbers (unsigned_found h rest e))
dates_with h rest (suc zero) e low = sym (ap date_numbers (negative_found h rest e))
dates_with h rest (suc (suc n)) e low = absurd (omega (arith, low))

pub date_found : (p : Placed) (h : Head) → h ≡ head_of_item p → h.major ≤ 1 → record { number = h.arg; present = 1; negative = h.major } ≡ date_numbers (integer_in (look p))
date_found p h e low = dates_with h (drop h.width p.bytes) h.major refl low ∙ sym (ap (λ (l : Look). date_numbers (integer_in l)) (looks p h e))

pub no_date_found : (p : Placed) (h : Head) → h ≡ head_of_item p → 1 < h.major → no_date ≡ date_numbers (integer_in (look p))
no_date_found p h e high =
    let not_zero : h.major ≢ 0 = omega (arith, high) in
    let not_one : h.major ≢ 1 = omega (arith, high) in
    sym (ap (λ (l : Look). date_numbers (integer_in l)) (looks p h e) ∙ ap date_numbers (no_integer h _ not_zero not_one))
