-- The items of a payload, and the content of its strings, are ranges of it.
use Rattle.std.proofs.Common.{◌≡◌, ℕ, zero, suc, ◌+◌, ◌-◌, ◌≤◌, Bool, true, false, cond, List, [], ◌∷◌, length, take, drop, Result, Ok, Err, refl, sym, ap, ◌∙◌, arith}
use Rattle.std.proofs.lemmas.List.{take_all}
use Rattle.std.specs.List.{AllByRecursion}
use Rattle.cose_head.specs.declared.head.Head.{Head}
use Rattle.cose_head.specs.declared.item.Span.{Span}
use Rattle.cose_head.specs.declared.refusal.Refusal.{Refusal}
use Rattle.cose_head.specs.Placed.{Placed, children_of, first_of, has_children, head_of_item, items_from, past_head, span_at}
use Rattle.cose_head.specs.Reading.{child_count}

-- ---- lists

drop_nothing : (n : ℕ) → drop {A = ℕ} n [] ≡ []
drop_nothing zero = refl
drop_nothing (suc n) = refl

take_nothing : (n : ℕ) → take {A = ℕ} n [] ≡ []
take_nothing zero = refl
take_nothing (suc n) = refl

pub drop_twice : (a b : ℕ) (xs : List ℕ) → drop a (drop b xs) ≡ drop (b + a) xs
drop_twice a zero xs = let same : a ≡ 0 + a = omega arith in ap (λ (n : ℕ). drop n xs) same
drop_twice a (suc b) [] = drop_nothing a ∙ sym (drop_nothing (suc b + a))
drop_twice a (suc b) (x ∷ xs) = let same : suc (b + a) ≡ suc b + a = omega arith in drop_twice a b xs ∙ ap (λ (n : ℕ). drop n (x ∷ xs)) same

pub drop_taken : (n k : ℕ) (xs : List ℕ) → drop n (take k xs) ≡ take (k - n) (drop n xs)
drop_taken zero k xs = let same : k ≡ k - 0 = omega arith in ap (λ (m : ℕ). take m xs) same
drop_taken (suc n) zero xs = let same : 0 ≡ 0 - suc n = omega arith in ap (λ (m : ℕ). take m (drop (suc n) xs)) same
drop_taken (suc n) (suc k) [] = sym (take_nothing (suc k - suc n))
drop_taken (suc n) (suc k) (x ∷ xs) = let same : k - n ≡ suc k - suc n = omega arith in drop_taken n k xs ∙ ap (λ (m : ℕ). take m (drop n xs)) same

pub taken_twice : (a b : ℕ) (xs : List ℕ) → (n : ℕ) × (take a (take b xs) ≡ take n xs)
taken_twice zero b xs = (0, refl)
taken_twice (suc a) zero xs = (0, refl)
taken_twice (suc a) (suc b) [] = (0, refl)
taken_twice (suc a) (suc b) (x ∷ xs) = let others = taken_twice a b xs in (suc others.0, ap (λ (l : List ℕ). x ∷ l) others.1)

-- As many as there are.
pub taken_all : (n : ℕ) (xs : List ℕ) → take (length (take n xs)) xs ≡ take n xs
taken_all zero xs = refl
taken_all (suc n) [] = refl
taken_all (suc n) (x ∷ xs) = ap (λ (l : List ℕ). x ∷ l) (taken_all n xs)

pub taken_short : (n : ℕ) (xs : List ℕ) → length (take n xs) ≤ length xs
taken_short zero xs = omega arith
taken_short (suc n) [] = omega arith
taken_short (suc n) (x ∷ xs) = let others = taken_short n xs in omega (arith, others)

-- ---- items

-- The item is some of the bytes of a whole, at its place.
pub record Part (whole part : Placed) : Type 0 where
  pub offset : ℕ
  pub count : ℕ
  pub at : part.place ≡ whole.place + offset
  pub cut : part.bytes ≡ take count (drop offset whole.bytes)

pub within : (p q r : Placed) → Part p q → Part q r → Part p r
within p q r first then =
    let bytes : r.bytes ≡ take then.count (drop then.offset (take first.count (drop first.offset p.bytes))) = then.cut ∙ ap (λ (l : List ℕ). take then.count (drop then.offset l)) first.cut in
    let out : take then.count (drop then.offset (take first.count (drop first.offset p.bytes))) ≡ take then.count (take (first.count - then.offset) (drop (first.offset + then.offset) p.bytes)) =
    ap (take then.count) (drop_taken then.offset first.count (drop first.offset p.bytes) ∙ ap (take (first.count - then.offset)) (drop_twice then.offset first.offset p.bytes)) in
    let one = taken_twice then.count (first.count - then.offset) (drop (first.offset + then.offset) p.bytes) in
    record { offset = first.offset + then.offset; count = one.0; at = omega (arith, first.at, then.at); cut = bytes ∙ out ∙ one.1 }

all_within : (p q : Placed) → Part p q → (items : List Placed) → AllByRecursion (Part q) items → AllByRecursion (Part p) items
all_within p q part [] all = all
all_within p q part (x ∷ xs) all = (within p q x part all.0, all_within p q part xs all.1)

-- The bytes after the first ones.
rest_part : (p : Placed) (n : ℕ) → Part p (record { bytes = drop n p.bytes; place = p.place + n })
rest_part p n = record { offset = n; count = length (drop n p.bytes); at = refl; cut = sym (take_all (length (drop n p.bytes)) (drop n p.bytes) (omega arith)) }

first_part : (p : Placed) (others : Placed → List Placed) → ((q : Placed) → AllByRecursion (Part q) (others q)) → (span : Result Span Refusal) → AllByRecursion (Part p) (first_of others p span)
first_part p others parts (Err refusal) = tt
first_part p others parts (Ok span) =
    let tail : Placed = record { bytes = drop span.length p.bytes; place = p.place + span.length } in
    (record { offset = 0; count = span.length; at = omega arith; cut = refl }, all_within p tail (rest_part p span.length) (others tail) (parts tail))

items_part : (n : ℕ) (p : Placed) → AllByRecursion (Part p) (items_from n p)
unfolding items_from
items_part zero p = tt
items_part (suc n) p = first_part p (items_from n) (items_part n) (span_at p.bytes)

choose_part : (p : Placed) (h : Head) (b : Bool) → AllByRecursion (Part p) (cond b (items_from (child_count h) (past_head h p)) [])
choose_part p h true = all_within p (past_head h p) (rest_part p h.width) (items_from (child_count h) (past_head h p)) (items_part (child_count h) (past_head h p))
choose_part p h false = tt

pub children_part : (p : Placed) → AllByRecursion (Part p) (children_of p)
unfolding children_of
children_part p = choose_part p (head_of_item p) (has_children (head_of_item p))
