-- What is spelled is read.
use Rattle.std.proofs.Common.{◌≡◌, ℕ, zero, suc, ◌+◌, ◌-◌, ◌*◌, ◌<◌, ◌≤◌, ◌⊎◌, inl, inr, true, false, List, ◌∷◌, ◌++◌, length, take, drop, Some, Ok, refl, sym, ap, ◌∙◌, arith, append_assoc, one-add}
use Rattle.std.proofs.lemmas.Bool.{lt-ltb, le-ltb, ne_eqb}
use Rattle.std.proofs.lemmas.List.{length-append}
use Rattle.std.proofs.Math.Seq.{take-append_seam, drop-append_seam}
use Rattle.std.specs.Prelude.{nat_lt, ◌==◌, ◌&&◌}
use Rattle.cose_head.specs.declared.head.Head.{Head}
use Rattle.cose_head.specs.Head.{low_of, argument_length, head_of, is_bad_simple}
use Rattle.cose_head.specs.Item.{Item, unsigned, negative, byte_string, text_string, array, map, tag, simple, float, Items, no_items, item, count_of, depth_of, deepest, IsHead, Begins, Spells, SpellsAll}
use Rattle.cose_head.specs.Reading.{Left, Outcome, Reader, after, string, string_item, is_string, is_parent, leaf, parent, child_count, list_item, read_all, read, head}
use Rattle.cose_head.specs.Measured.{left_of}
use Rattle.cose_head.specs.Laws.{Between}
use Rattle.cose_head.proofs.lemmas.Reading.Measured.{read_past_head}
use Rattle.cose_head.proofs.lemmas.Reading.ReadSteps.{after-zero}

-- the rest is what follows the part
rest_is : (l rest : Left) (P : List ℕ → Type 0) (p : Between l rest P) → after (length p.part) l ≡ rest
rest_is l rest P p =
    let b : drop (length p.part) l.bytes ≡ rest.bytes = ap (drop (length p.part)) p.whole ∙ drop-append_seam p.part rest.bytes in
    let r = p.room in
    let m : l.room - length p.part ≡ rest.room = omega arith in
    rw (b, m, ← p.place) refl

-- a part of two parts
split : (l rest : Left) (P Q R : List ℕ → Type 0) (p : Between l rest R) (a b : List ℕ) → p.part ≡ a ++ b → P a → Q b → (middle : Left)
    × Between l middle P × Between middle rest Q
split l rest P Q R p a b e is_first is_second =
    let n = length-append a b in
    let c : length p.part ≡ length (a ++ b) = ap length e in
    let r = p.room in let s = p.place in (
      left_of (b ++ rest.bytes) (l.room - length a) (l.place + length a),
      record {
        part = a;
        whole = p.whole ∙ ap (λ x. x ++ rest.bytes) e ∙ append_assoc a b rest.bytes;
        room = omega arith;
        place = refl;
        is_part = is_first;
      },
      record { part = b; whole = refl; room = omega arith; place = omega arith; is_part = is_second },
    )

-- a head that is spelled is read
head_spelled : (initial : ℕ) (argument rest : List ℕ) (room place : ℕ) → low_of initial < 28 →
    length argument ≡ argument_length (low_of initial) → length argument < room →
    is_bad_simple (head_of initial argument) ≡ false →
    head (left_of (initial ∷ (argument ++ rest)) room place) ≡ Ok
    (head_of initial argument, after (1 + length argument) (left_of (initial ∷ (argument ++ rest)) room place))
unfolding head
head_spelled initial argument rest room place definite wide fits good =
    let n = length-append argument rest in
    let some : room == 0 ≡ false = ne_eqb room 0 (λ e. absurd (omega arith)) in
    let low : nat_lt (low_of initial) 28 ≡ true = lt-ltb (low_of initial) 28 definite in
    let in_room : nat_lt (room - 1) (argument_length (low_of initial)) ≡ false = le-ltb (room - 1) (argument_length (low_of initial)) (omega arith) in
    let there : nat_lt (length (argument ++ rest)) (argument_length (low_of initial)) ≡ false = le-ltb (length (argument ++ rest))
    (argument_length (low_of initial)) (omega arith) in
    let seam : take (argument_length (low_of initial)) (argument ++ rest) ≡ argument = ap (λ m. take m (argument ++ rest)) (sym wide)
    ∙ take-append_seam argument rest in
    rw (some, low, in_room, there, seam, good) refl

pub head_again : (l rest : Left) (major argument : ℕ) (p : Between l rest (λ part. IsHead part major argument)) →
    is_bad_simple (record { major = major; arg = argument; width = length p.part }) ≡ false →
    head l ≡ Ok (record { major = major; arg = argument; width = length p.part }, rest)
head_again l rest major argument p good =
    let s : IsHead p.part major argument = p.is_part in
    let found : Head = record { major = major; arg = argument; width = length p.part } in
    let bytes : l.bytes ≡ s.initial ∷ (s.argument_bytes ++ rest.bytes) = p.whole ∙ ap (λ b. b ++ rest.bytes) s.whole in
    let n : length p.part ≡ suc (length s.argument_bytes) = ap length s.whole in
    let w : 1 + length s.argument_bytes ≡ length p.part = omega arith in
    let r = p.room in
    let same : head_of s.initial s.argument_bytes ≡ found = rw (s.has_major, s.has_argument, w) refl in
    let left : after (1 + length s.argument_bytes) (left_of (s.initial ∷ (s.argument_bytes ++ rest.bytes)) l.room l.place) ≡ rest =
    ap (λ m. after m (left_of (s.initial ∷ (s.argument_bytes ++ rest.bytes)) l.room l.place)) w
    ∙ ap (λ b. after (length p.part) (left_of b l.room l.place)) (sym bytes) ∙ rest_is l rest (λ part. IsHead part major argument) p in
    let result : Head → Left → Outcome Head = λ h m. Ok (h, m) in
    ap (λ b. head (left_of b l.room l.place)) bytes
    ∙ head_spelled s.initial s.argument_bytes rest.bytes l.room l.place s.is_definite s.has_width (omega arith) (ap is_bad_simple same ∙ good)
    ∙ ap (λ h. result h (after (1 + length s.argument_bytes) (left_of (s.initial ∷ (s.argument_bytes ++ rest.bytes)) l.room l.place))) same
    ∙ ap (result found) left

-- every item has a byte, so there are no more children than bytes
head_some : (part : List ℕ) (major argument : ℕ) → IsHead part major argument → 0 < length part
head_some part major argument s = let n : length part ≡ suc (length s.argument_bytes) = ap length s.whole in omega arith

begins_some : (part : List ℕ) (major argument : ℕ) (R : List ℕ → Type 0) → Begins part major argument R → 0 < length part
begins_some part major argument R s =
    let n : length part ≡ length s.head + length s.rest = ap length s.whole ∙ length-append s.head s.rest in
    let k = head_some s.head major argument s.is_head in
    omega arith

pub item_some : (content : Item) (part : List ℕ) → Spells part content → 0 < length part
unfolding Spells
item_some (unsigned n) part s = head_some part 0 n s
item_some (negative n) part s = head_some part 1 n s
item_some (byte_string content) part s = begins_some part 2 (length content) (λ rest. rest ≡ content) s
item_some (text_string content) part s = begins_some part 3 (length content) (λ rest. rest ≡ content) s
item_some (array items) part s = begins_some part 4 (count_of items) (λ rest. SpellsAll rest items) s
item_some (map items) part s = begins_some part 5 s.0 (λ rest. SpellsAll rest items) s.2
item_some (tag n content) part s = begins_some part 6 n (λ rest. Spells rest content) s
item_some (simple n) part s = head_some part 7 n s.0
item_some (float width bits) part s = head_some part 7 bits s.0

pub count_fits : (items : Items) (part : List ℕ) → SpellsAll part items → count_of items ≤ length part
unfolding Spells
count_fits no_items part s = omega arith
count_fits (item first others) part s =
    let n : length part ≡ length s.0 + length s.1 = ap length s.2 ∙ length-append s.0 s.1 in
    let a = item_some first s.0 s.3 in
    let b = count_fits others s.1 s.4 in
    omega arith

-- what follows a head
leaf_again : (depth : ℕ) (l rest : Left) (major argument : ℕ) (content : Item) (p : Between l rest (λ part. IsHead part major argument)) (h : Head) →
    h ≡ record { major = major; arg = argument; width = length p.part } → is_bad_simple h ≡ false → is_string h ≡ false →
    is_parent h ≡ false → leaf h ≡ content → read depth l ≡ Ok (content, rest)
leaf_again depth l rest major argument content p h e good no_string no_parent made =
    let result : Item → Outcome Item = λ c. Ok (c, rest) in
    read_past_head depth l h rest (head_again l rest major argument p (ap is_bad_simple (sym e) ∙ good)
    ∙ ap {B = Outcome Head} (λ g. Ok (g, rest)) (sym e)) ∙ rw (no_string, no_parent) (ap result made)

string_body : (l rest : Left) (place : ℕ) (h : Head) (content : List ℕ) → Between l rest (λ part. part ≡ content) → h.arg ≡ length content →
    string place h l ≡ Ok (string_item h content, rest)
string_body l rest place h content p e =
    let c : length p.part ≡ length content = ap length p.is_part in
    let r = p.room in
    let n : length l.bytes ≡ length p.part + length rest.bytes = ap length p.whole ∙ length-append p.part rest.bytes in
    let a : nat_lt l.room h.arg ≡ false = le-ltb l.room h.arg (omega arith) in
    let b : nat_lt (length l.bytes) h.arg ≡ false = le-ltb (length l.bytes) h.arg (omega arith) in
    let m : h.arg ≡ length p.part = e ∙ sym c in
    let t : take h.arg l.bytes ≡ content = ap (λ k. take k l.bytes) m ∙ ap (take (length p.part)) p.whole ∙ take-append_seam p.part rest.bytes
    ∙ p.is_part in
    let left : after h.arg l ≡ rest = ap (λ k. after k l) m ∙ rest_is l rest (λ part. part ≡ content) p in
    let result : List ℕ → Left → Outcome Item = λ k o. Ok (string_item h k, o) in
    rw (a, b) (ap (λ k. result k (after h.arg l)) t ∙ ap (result content) left)

list_body : (one : Reader Item) (place n : ℕ) (h : Head) (l rest : Left) (items : Items) → h.major == 6 ≡ false → child_count h ≡ n →
    n ≤ l.room → read_all one n l ≡ Ok (items, rest) →
    parent (Some one) place h l ≡ Ok (list_item h items, rest)
list_body one place n h l rest items six count fits all =
    let a : nat_lt l.room n ≡ false = le-ltb l.room n fits in
    rw (count, a, six, all) refl

tag_body : (one : Reader Item) (place : ℕ) (h : Head) (l rest : Left) (content : Item) → h.major == 6 ≡ true → child_count h ≡ 1 →
    0 < l.room → one l ≡ Ok (content, rest) →
    parent (Some one) place h l ≡ Ok (tag h.arg content, rest)
tag_body one place h l rest content six count fits read_one =
    let a : nat_lt l.room 1 ≡ false = le-ltb l.room 1 (omega arith) in
    rw (count, a, six, read_one) refl

string_again : (depth : ℕ) (l rest : Left) (major : ℕ) (content : List ℕ) (made : Item)
    (p : Between l rest (λ part. Begins part major (length content) (λ q. q ≡ content))) →
    ((width : ℕ) → is_bad_simple (record { major = major; arg = length content; width = width }) ≡ false) →
    ((width : ℕ) → is_string (record { major = major; arg = length content; width = width }) ≡ true) →
    ((width : ℕ) → string_item (record { major = major; arg = length content; width = width }) content ≡ made) → read depth l ≡ Ok (made, rest)
string_again depth l rest major content made p good is_text makes =
    let b = p.is_part in
    let s = split l rest (λ q. IsHead q major (length content)) (λ q. q ≡ content)
    (λ q. Begins q major (length content) (λ r. r ≡ content)) p b.head b.rest b.whole b.is_head b.is_rest in
    let h : Head = record { major = major; arg = length content; width = length s.1.part } in
    read_past_head depth l h s.0 (head_again l s.0 major (length content) s.1 (good (length s.1.part)))
    ∙ rw (is_text (length s.1.part))
    (string_body s.0 rest l.place h content s.2 refl ∙ ap {B = Outcome Item} (λ c. Ok (c, rest)) (makes (length s.1.part)))

parent_again : (depth : ℕ) (l middle : Left) (major argument : ℕ) (p : Between l middle (λ part. IsHead part major argument)) (h : Head) →
    h ≡ record { major = major; arg = argument; width = length p.part } →
    is_bad_simple h ≡ false → is_string h ≡ false → is_parent h ≡ true → read (suc depth) l ≡ parent (Some (read depth)) l.place h middle
parent_again depth l middle major argument p h e good no_string is_list =
    read_past_head (suc depth) l h middle
    (head_again l middle major argument p (ap is_bad_simple (sym e) ∙ good) ∙ ap {B = Outcome Head} (λ g. Ok (g, middle)) (sym e))
    ∙ rw (no_string, is_list) refl

pub simple_good : (n width : ℕ) → (width ≡ 1) ⊎ ((width ≡ 2) × (32 ≤ n)) → (width == 2 && nat_lt n 32) ≡ false
simple_good n width (inl e) = rw e refl
simple_good n width (inr e) = rw (e.0, le-ltb n 32 e.1) refl

simple_small : (n width : ℕ) → (width ≡ 1) ⊎ ((width ≡ 2) × (32 ≤ n)) → nat_lt width 3 ≡ true
simple_small n width (inl e) = rw e refl
simple_small n width (inr e) = rw e.0 refl

pub float_large : (width bytes : ℕ) → bytes ≡ 1 + width → (width ≡ 2) ⊎ ((width ≡ 4) ⊎ (width ≡ 8)) → (bytes == 2 ≡ false) × (nat_lt bytes 3 ≡ false)
float_large width bytes e (inl w) = let f : bytes ≡ 3 = omega arith in rw f (refl, refl)
float_large width bytes e (inr (inl w)) = let f : bytes ≡ 5 = omega arith in rw f (refl, refl)
float_large width bytes e (inr (inr w)) = let f : bytes ≡ 9 = omega arith in rw f (refl, refl)

mutual
  unfolding Spells depth_of

  pub complete : (content : Item) (depth : ℕ) (l rest : Left) → Between l rest (λ part. Spells part content) → depth_of content ≤ depth →
      read depth l ≡ Ok (content, rest)
  complete (unsigned n) depth l rest p shallow = leaf_again depth l rest 0 n (unsigned n) p
      (record { major = 0; arg = n; width = length p.part }) refl refl refl refl refl
  complete (negative n) depth l rest p shallow = leaf_again depth l rest 1 n (negative n) p
      (record { major = 1; arg = n; width = length p.part }) refl refl refl refl refl
  complete (byte_string content) depth l rest p shallow = string_again depth l rest 2 content (byte_string content) p (λ w. refl) (λ w. refl)
      (λ w. refl)
  complete (text_string content) depth l rest p shallow = string_again depth l rest 3 content (text_string content) p (λ w. refl) (λ w. refl)
      (λ w. refl)
  complete (array items) zero l rest p shallow = absurd (omega arith)
  complete (array items) (suc depth) l rest p shallow =
      let b : Begins p.part 4 (count_of items) (λ q. SpellsAll q items) = p.is_part in
      let s = split l rest (λ q. IsHead q 4 (count_of items)) (λ q. SpellsAll q items)
      (λ q. Spells q (array items)) p b.head b.rest b.whole b.is_head b.is_rest in
      let h : Head = record { major = 4; arg = count_of items; width = length s.1.part } in
      let n = count_fits items s.2.part s.2.is_part in
      let r = s.2.room in
      parent_again depth l s.0 4 (count_of items) s.1 h refl refl refl refl
      ∙ list_body (read depth) l.place (count_of items) h s.0 rest items refl refl (omega arith) (complete_all items depth s.0 rest s.2 (omega arith))
  complete (map items) zero l rest p shallow = absurd (omega arith)
  complete (map items) (suc depth) l rest p shallow =
      let pairs : ℕ = p.is_part.0 in
      let even : 2 * pairs ≡ count_of items = p.is_part.1 in
      let b : Begins p.part 5 pairs (λ q. SpellsAll q items) = p.is_part.2 in
      let s = split l rest (λ q. IsHead q 5 pairs) (λ q. SpellsAll q items) (λ q. Spells q (map items)) p b.head b.rest b.whole b.is_head b.is_rest in
      let h : Head = record { major = 5; arg = pairs; width = length s.1.part } in
      let n = count_fits items s.2.part s.2.is_part in
      let r = s.2.room in
      parent_again depth l s.0 5 pairs s.1 h refl refl refl refl
      ∙ list_body (read depth) l.place (count_of items) h s.0 rest items refl even (omega arith) (complete_all items depth s.0 rest s.2 (omega arith))
  complete (tag n content) zero l rest p shallow = absurd (omega arith)
  complete (tag n content) (suc depth) l rest p shallow =
      let b : Begins p.part 6 n (λ q. Spells q content) = p.is_part in
      let s = split l rest (λ q. IsHead q 6 n) (λ q. Spells q content) (λ q. Spells q (tag n content)) p b.head b.rest b.whole b.is_head b.is_rest in
      let h : Head = record { major = 6; arg = n; width = length s.1.part } in
      let k = item_some content s.2.part s.2.is_part in
      let r = s.2.room in
      parent_again depth l s.0 6 n s.1 h refl refl refl refl
      ∙ tag_body (read depth) l.place h s.0 rest content refl refl (omega arith) (complete content depth s.0 rest s.2 (omega arith))
  complete (simple n) depth l rest p shallow =
      let widths : (length p.part ≡ 1) ⊎ ((length p.part ≡ 2) × (32 ≤ n)) = p.is_part.1 in
      let small : nat_lt (length p.part) 3 ≡ true = simple_small n (length p.part) widths in
      let h : Head = record { major = 7; arg = n; width = length p.part } in
      leaf_again depth l rest 7 n (simple n)
      (record { part = p.part; whole = p.whole; room = p.room; place = p.place; is_part = p.is_part.0 }) h refl
      (simple_good n (length p.part) widths) refl refl (rw small refl)
  complete (float width bits) depth l rest p shallow =
      let n : length p.part ≡ 1 + width = p.is_part.1 in
      let large = float_large width (length p.part) n p.is_part.2 in
      let w : length p.part - 1 ≡ width = omega arith in
      let h : Head = record { major = 7; arg = bits; width = length p.part } in
      leaf_again depth l rest 7 bits (float width bits)
      (record { part = p.part; whole = p.whole; room = p.room; place = p.place; is_part = p.is_part.0 }) h refl
      (rw (large.0) refl) refl refl (rw (large.1, w) refl)

  pub complete_all : (items : Items) (depth : ℕ) (l rest : Left) → Between l rest (λ part. SpellsAll part items) → deepest items ≤ depth →
      read_all (read depth) (count_of items) l ≡ Ok (items, rest)
  complete_all no_items depth l rest p shallow =
      let none : length p.part ≡ 0 = ap length p.is_part in
      let same : l ≡ rest = sym (after-zero l) ∙ ap (λ m. after m l) (sym none) ∙ rest_is l rest (λ part. SpellsAll part no_items) p in
      ap {B = Outcome Items} (λ m. Ok (no_items, m)) same
  complete_all (item first others) depth l rest p shallow =
      let t : (front : List ℕ) × (tail : List ℕ) × (p.part ≡ front ++ tail) × Spells front first × SpellsAll tail others = p.is_part in
      let s = split l rest (λ q. Spells q first) (λ q. SpellsAll q others) (λ q. SpellsAll q (item first others)) p t.0 t.1 t.2 t.3 t.4 in
      let e = complete first depth l s.0 s.1 (omega arith) in
      let f = complete_all others depth s.0 rest s.2 (omega arith) in
      rw (one-add, e, f) refl
