-- The items of a key set.
use Rattle.std.proofs.Common.{◌≡◌, ℕ, zero, suc, ◌+◌, ◌≤◌, ◌<◌, List, [], ◌∷◌, length, drop, Option, Some, None, Result, Ok, Err, refl, arith, zero-add, ◌^◌}
use Rattle.std.specs.Prelude.{◌≢◌, filter_map}
use Rattle.std.specs.List.{cons_option}
use Rattle.std.proofs.lemmas.Bool.Decides.{nat_tests}
use Rattle.cose_head.specs.declared.head.Head.{Head}
use Rattle.cose_head.specs.declared.item.Span.{Span}
use Rattle.cose_head.specs.declared.refusal.Refusal.{Refusal}
use Rattle.cose_head.specs.Placed.{Placed, look, look_with, head_of_item, children_of, children_with, items_from, first_of, span_at}
use Rattle.cose_map.specs.KeySet.{items_in, items_like}

like_array : (p : Placed) (h : Head) (rest : List ℕ) → h.major ≡ 4 → items_like p (look_with h rest) ≡ children_of p
like_array p h rest e = rw e refl

like_map : (p : Placed) (h : Head) (rest : List ℕ) → h.major ≡ 5 → items_like p (look_with h rest) ≡ p ∷ []
like_map p h rest e = rw e refl

like_none : (p : Placed) (h : Head) (rest : List ℕ) → h.major ≢ 4 → h.major ≢ 5 → items_like p (look_with h rest) ≡ []
like_none p h rest d e = grind (arith, nat_tests)

pub array_items : (p : Placed) (h : Head) → h ≡ head_of_item p → h.major ≡ 4 → items_in p ≡ children_of p
unfolding look
array_items p h same e = rw (← same) (like_array p h _ e)

pub map_items : (p : Placed) (h : Head) → h ≡ head_of_item p → h.major ≡ 5 → items_in p ≡ p ∷ []
unfolding look
map_items p h same e = rw (← same) (like_map p h _ e)

pub no_items : (p : Placed) (h : Head) → h ≡ head_of_item p → h.major ≢ 5 → h.major ≢ 4 → items_in p ≡ []
unfolding look
no_items p h same e d = rw (← same) (like_none p h _ d e)

-- There are at most as many items as the head announces.
one_more : (n : ℕ) (p : Placed) (found : Result Span Refusal) → ((q : Placed) → length (items_from n q) ≤ n) → length (first_of (items_from n) p found) ≤ suc n
one_more n p (Ok span) most = omega (arith, most (record { bytes = drop span.length p.bytes; place = p.place + span.length }))
one_more n p (Err refusal) most = omega arith

at_most : (n : ℕ) (p : Placed) → length (items_from n p) ≤ n
unfolding items_from
at_most zero p = omega arith
at_most (suc n) p = one_more n p (span_at p.bytes) (at_most n)

few_of : (h : Head) (p : Placed) → h.major ≡ 4 → length (children_with h p) ≤ h.arg
few_of h p e = rw e (at_most h.arg _)

pub few_children : (p : Placed) (h : Head) → h ≡ head_of_item p → h.major ≡ 4 → length (children_of p) ≤ h.arg
unfolding children_of
few_children p h same e = rw (← same) (few_of h p e)

-- No more items are usable than there are items.
usable_more : {A B : Type 0} (found : Option B) (f : A → Option B) (xs : List A) (n : ℕ) → length (filter_map f xs) ≤ n → length (cons_option found (filter_map f xs)) ≤ suc n
usable_more None f xs n most = omega (arith, most)
usable_more (Some y) f xs n most = omega (arith, most)

pub length-filter_map : {A B : Type 0} (f : A → Option B) (xs : List A) → length (filter_map f xs) ≤ length xs
length-filter_map f [] = omega arith
length-filter_map f (x ∷ xs) = usable_more (f x) f xs (length xs) (length-filter_map f xs)

pub none_counted : {B : Type 0} (usable : Placed → Option B) (xs ys zs : List Placed) → ys ≡ xs → xs ≡ zs → length xs < 2 ^ 64 →
    (0 + length (filter_map usable ys) ≡ length (filter_map usable zs)) × (length (filter_map usable zs) < 2 ^ 64)
none_counted usable xs ys zs e d few = rw (e, ← d) (zero-add _, omega (arith, length-filter_map usable xs, few))
