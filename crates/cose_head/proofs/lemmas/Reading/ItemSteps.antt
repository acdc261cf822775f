-- Each exit of the reader of spans is what `read` gives.
use Rattle.std.proofs.Common.{◌≡◌, ℕ, zero, suc, ◌+◌, ◌-◌, ◌<◌, ◌≤◌, ◌/◌, ◌%◌, true, false, List, [], ◌∷◌, max, slice_index_or, length, take, drop, Ok, Err, refl, sym, ap, ◌∙◌, arith, Result, zero-add}
use Rattle.std.proofs.lemmas.List.{length-drop}
use Rattle.std.proofs.Math.Seq.{take-length}
use Rattle.std.proofs.lemmas.Bool.Decides.{nat_tests}
use Rattle.std.specs.Ordering.{ord_max, nat_cmp}
use Rattle.std.specs.Prelude.{nat_lt, ◌==◌}
use Rattle.cose_head.specs.Head.{head_of}
use Rattle.cose_head.specs.declared.head.Head.{Head}
use Rattle.cose_head.specs.declared.item.Span.{Span}
use Rattle.cose_head.specs.Item.{Item, depth_of}
use Rattle.cose_head.specs.declared.refusal.Refusal.{Refusal}
use Rattle.cose_head.specs.Reading.{Left, Outcome, Reader, after, string, is_string, is_parent, read_all, read, head, span_of}
use Rattle.cose_head.specs.Measured.{left_of, span_found, nesting, nesting_all, children_allowed}
use Rattle.cose_head.proofs.lemmas.Reading.Measured.{same_ok, after-after, deeper, onward, items_go_on, items_end, item_string, item_leaf, item_childless, item_parent, string_whole}

-- what is left after some bytes, as a slice gives it
abbrev pub cut : ℕ → List ℕ → ℕ → ℕ → Left
cut n bytes room place = left_of (take (length bytes - n) (drop n bytes)) (room - n) (place + n)

pub slice_from : (n : ℕ) (bytes : List ℕ) → take (length bytes - n) (drop n bytes) ≡ drop n bytes
slice_from n bytes = rw (← length-drop n bytes) (take-length (drop n bytes))

cut_is : (n : ℕ) (bytes : List ℕ) (room place : ℕ) → cut n bytes room place ≡ after n (left_of bytes room place)
cut_is n bytes room place = rw (slice_from n bytes) refl

module _ (depth : ℕ) (bytes : List ℕ) (room place : ℕ) (h : Head) (width : ℕ) (w : width ≡ h.width)
    (found : Ok (h, after h.width (left_of bytes room place)) ≡ head (left_of bytes room place)) where
  past : cut width bytes room place ≡ after h.width (left_of bytes room place)
  past = cut_is width bytes room place ∙ ap (λ n. after n (left_of bytes room place)) w

  pub leaf_done : false ≡ is_string h → false ≡ is_parent h →
      Ok (0, after width (left_of bytes room place)) ≡ nesting (read depth (left_of bytes room place))
  leaf_done s p = rw w (item_leaf depth (left_of bytes room place) h found (sym s) (sym p))

  pub string_refused : (refusal : Refusal) → true ≡ is_string h → Err refusal ≡ nesting (string place h (cut width bytes room place)) →
      Err refusal ≡ nesting (read depth (left_of bytes room place))
  string_refused refusal s e = e ∙ ap (λ l. nesting (string place h l)) past ∙ sym (item_string depth (left_of bytes room place) h found (sym s))

  pub string_done : (n nested : ℕ) → true ≡ is_string h →
      Ok (nested, after n (cut width bytes room place)) ≡ nesting (string place h (cut width bytes room place)) → nested ≡ 0 →
      Ok (0, after (width + n) (left_of bytes room place)) ≡ nesting (read depth (left_of bytes room place))
  string_done n nested s e z =
      let f : ℕ → Left → Outcome ℕ = λ m l. Ok (m, after n l) in
      let i : f nested (cut width bytes room place) ≡ nesting (string place h (cut width bytes room place)) = e in
      rw (w, ← after-after h.width n (left_of bytes room place))
      (ap (f 0) (sym past) ∙ ap (λ m. f m (cut width bytes room place)) (sym z) ∙ i ∙ ap (λ l. nesting (string place h l)) past
      ∙ sym (item_string depth (left_of bytes room place) h found (sym s)))

  pub parent_refused : (refusal : Refusal) → false ≡ is_string h → true ≡ is_parent h →
      Err refusal ≡ children_allowed h (room - width) depth place → Err refusal ≡ nesting (read depth (left_of bytes room place))
  parent_refused refusal s p e = item_childless depth (left_of bytes room place) h refusal found (sym s) (sym p) (sym (rw w at e))

  pub children_refused : (count : ℕ) (refusal : Refusal) → false ≡ is_string h → true ≡ is_parent h →
      Ok count ≡ children_allowed h (room - width) depth place →
      Err refusal ≡ nesting_all (read_all (read (depth - 1)) count (cut width bytes room place)) →
      Err refusal ≡ nesting (read depth (left_of bytes room place))
  children_refused count refusal s p c e =
      ap deeper (e ∙ ap (λ l. nesting_all (read_all (read (depth - 1)) count l)) past)
      ∙ sym (item_parent depth count (left_of bytes room place) h found (sym s) (sym p) (sym (rw w at c)))

  pub parent_done : (count n nested : ℕ) → false ≡ is_string h → true ≡ is_parent h → Ok count ≡ children_allowed h (room - width) depth place →
      Ok (nested, after n (cut width bytes room place)) ≡ nesting_all (read_all (read (depth - 1)) count (cut width bytes room place)) →
      Ok (1 + nested, after (width + n) (left_of bytes room place)) ≡ nesting (read depth (left_of bytes room place))
  parent_done count n nested s p c e =
      let f : Left → Outcome ℕ = λ l. Ok (nested, after n l) in
      let i : f (cut width bytes room place) ≡ nesting_all (read_all (read (depth - 1)) count (cut width bytes room place)) = e in
      rw (w, ← after-after h.width n (left_of bytes room place))
      (ap deeper (ap f (sym past) ∙ i ∙ ap (λ l. nesting_all (read_all (read (depth - 1)) count l)) past)
      ∙ sym (item_parent depth count (left_of bytes room place) h found (sym s) (sym p) (sym (rw w at c))))

-- the loop over the items: after one more item, and after the last
pub items_next : (depth : ℕ) (bytes : List ℕ) (room place most index count length nested n more : ℕ) (all : Outcome ℕ) → index < count →
    more ≡ max most nested →
    Ok (nested, after n (cut length bytes room place)) ≡ nesting (read depth (cut length bytes room place)) →
    onward (read depth) most (count - index) length (left_of bytes room place) ≡ all →
    onward (read depth) more (count - (index + 1)) (length + n) (left_of bytes room place) ≡ all
items_next depth bytes room place most index count length nested n more all in_range m e so_far =
    let f : Left → Outcome ℕ = λ l. Ok (nested, after n l) in
    let i : f (cut length bytes room place) ≡ nesting (read depth (cut length bytes room place)) = e in
    let c = cut_is length bytes room place in
    rw m (sym (items_go_on (read depth) most index count length (left_of bytes room place) nested n in_range
    (ap f (sym c) ∙ i ∙ ap (λ l. nesting (read depth l)) c)) ∙ so_far)

pub items_done : (one : Reader Item) (most index count length : ℕ) (l : Left) (all : Outcome ℕ) → count ≤ index → index ≤ count →
    onward one most (count - index) length l ≡ all → Ok (most, after length l) ≡ all
items_done one most index count length l all ended in_range so_far =
    let e : count ≡ index = omega arith in
    sym (items_end one most index length l) ∙ rw e at so_far

pub ord_max-nat_cmp : (a b : ℕ) → ord_max nat_cmp a b ≡ max a b
ord_max-nat_cmp a b = grind (arith, nat_tests)

-- from place 0 the place at the end is the length
pub whole_span : (bytes : List ℕ) (room : ℕ) (result : Result Span Refusal) (found : Outcome Item) →
    span_found (left_of bytes room 0) result ≡ nesting found → result ≡ span_of found
whole_span bytes room (Ok span) (Ok found) e =
    let p = same_ok _ _ e in
    let d : span.depth ≡ depth_of found.0 = ap (λ x. x.0) p in
    let n : span.length ≡ found.1.place = sym (zero-add span.length) ∙ ap (λ x. x.1.place) p in
    let q : Ok (record { length = span.length; depth = span.depth }) ≡ span_of (Ok found) = rw (d, n) refl in
    q
whole_span bytes room (Ok span) (Err refusal) e = cc
whole_span bytes room (Err refusal) (Ok found) e = cc
whole_span bytes room (Err refusal) (Err other) e = let r : refusal ≡ other = cc in rw r refl

-- the head of one byte that begins an integer or a string
small_head : (initial : ℕ) (rest : List ℕ) (room place : ℕ) → initial < 128 → initial % 32 < 24 →
    Ok (head_of initial [], after 1 (left_of (initial ∷ rest) (suc room) place)) ≡ head (left_of (initial ∷ rest) (suc room) place)
unfolding head
small_head initial rest room place low few =
    let definite : nat_lt (initial % 32) 28 ≡ true = grind (arith, nat_tests) in
    let bare : nat_lt (initial % 32) 24 ≡ true = grind (arith, nat_tests) in
    let plain : initial / 32 % 8 == 7 ≡ false = grind (arith, nat_tests) in
    let some : suc room == 0 ≡ false = grind (arith, nat_tests) in
    let fits : nat_lt (suc room - 1) 0 ≡ false = grind (arith, nat_tests) in
    let there : nat_lt (length rest) 0 ≡ false = grind (arith, nat_tests) in
    rw (definite, bare, plain, some, fits, there) refl

-- an integer of one byte, which is its head
pub short_integer : (bytes : List ℕ) (depth room place : ℕ) → 1 ≤ length bytes → slice_index_or bytes 0 0 < 64 →
    slice_index_or bytes 0 0 % 32 < 24 → 0 < room → Ok (0, after 1 (left_of bytes room place)) ≡ nesting (read depth (left_of bytes room place))
short_integer [] depth room place there low few some = absurd (omega arith)
short_integer (initial ∷ rest) depth zero place there low few some = absurd (omega arith)
short_integer (initial ∷ rest) depth (suc room) place there low few some =
    let below : initial < 128 = omega (arith, low) in
    let two : initial / 32 % 8 == 2 ≡ false = grind (arith, nat_tests) in
    let three : initial / 32 % 8 == 3 ≡ false = grind (arith, nat_tests) in
    let four : initial / 32 % 8 == 4 ≡ false = grind (arith, nat_tests) in
    let five : initial / 32 % 8 == 5 ≡ false = grind (arith, nat_tests) in
    let six : initial / 32 % 8 == 6 ≡ false = grind (arith, nat_tests) in
    item_leaf depth (left_of (initial ∷ rest) (suc room) place) (head_of initial []) (small_head initial rest room place below few)
    (rw (two, three) refl) (rw (four, five, six) refl)

short_argument : (initial : ℕ) → initial % 32 < 24 → (head_of initial []).arg ≡ initial % 32
short_argument initial few =
    let bare : nat_lt (initial % 32) 24 ≡ true = grind (arith, nat_tests) in
    rw bare refl

is_short_string : (initial : ℕ) → 64 ≤ initial → initial < 128 → is_string (head_of initial []) ≡ true
is_short_string initial high low = grind (arith, nat_tests)

-- a string whose length is in the one byte of its head, and which is all there
pub short_string : (bytes : List ℕ) (depth room place : ℕ) → 1 ≤ length bytes → 64 ≤ slice_index_or bytes 0 0 → slice_index_or bytes 0 0 < 128 →
    slice_index_or bytes 0 0 % 32 < 24 → 1 + slice_index_or bytes 0 0 % 32 ≤ room → 1 + slice_index_or bytes 0 0 % 32 ≤ length bytes →
    Ok (0, after (1 + slice_index_or bytes 0 0 % 32) (left_of bytes room place)) ≡ nesting (read depth (left_of bytes room place))
short_string [] depth room place there high low few fits whole = absurd (omega arith)
short_string (initial ∷ rest) depth zero place there high low few fits whole = absurd (omega arith)
short_string (initial ∷ rest) depth (suc room) place there high low few fits whole =
    let l : Left = left_of (initial ∷ rest) (suc room) place in
    let h : Head = head_of initial [] in
    let argument : h.arg ≡ initial % 32 = short_argument initial few in
    let roomy : h.arg ≤ suc room - 1 = omega (arith, argument, fits) in
    let enough : h.arg ≤ length rest = omega (arith, argument, whole) in
    let content : Ok (0, after h.arg (after 1 l)) ≡ nesting (string place h (after 1 l)) = string_whole place h (after 1 l) roomy enough in
    let all : Ok (0, after (1 + h.arg) l) ≡ nesting (read depth l) =
    rw (← after-after 1 h.arg l) (content ∙ sym (item_string depth l h (small_head initial rest room place low few) (is_short_string initial high low))) in
    rw (← argument) all
