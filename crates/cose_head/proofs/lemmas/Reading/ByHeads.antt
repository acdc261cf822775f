-- Items one after another, read head after head: after each head its children and the other items are still to come.
use Rattle.std.proofs.Common.{◌≡◌, ℕ, ◌+◌, ◌-◌, ◌<◌, ◌≤◌, ◌⊎◌, ⊎_elim, false, List, [], ◌++◌, length, take, drop, Ok, if◌then◌else◌, refl, sym, ap, subst, ◌∙◌, arith, append_assoc, append-nil, zero-add}
use Rattle.std.proofs.lemmas.List.{take-append-drop, length-take-le, length-append, length-drop, drop-drop}
use Rattle.std.proofs.Math.Seq.{drop-append_seam}
use Rattle.cose_head.specs.declared.head.Head.{Head}
use Rattle.cose_head.specs.declared.head.HeadStep.{HeadStep}
use Rattle.cose_head.specs.declared.head.HeadStep.TheVariants.{Got, More, Fault}
use Rattle.cose_head.specs.declared.reason.Reason.{Reason}
use Rattle.cose_head.specs.Head.{bare_head, is_bad_simple}
use Rattle.cose_head.specs.Item.{Item, unsigned, negative, byte_string, text_string, array, map, tag, simple, float, Items, no_items, item, count_of, depth_of, IsHead, Begins, Spells, SpellsAll}
use Rattle.cose_head.specs.Reading.{Left, after, read, is_string, is_parent, child_count}
use Rattle.cose_head.specs.Measured.{left_of, nesting}
use Rattle.cose_head.proofs.lemmas.Head.BareHeads.{head_complete}
use Rattle.cose_head.proofs.lemmas.Reading.Complete.{count_fits, simple_good, float_large}
use Rattle.cose_head.proofs.lemmas.Reading.Measured.{same_ok}
use Rattle.cose_head.proofs.lemmas.Reading.ReadLaws.{whole_list, spelled_is_read}

-- what follows a head: the bytes of its string, and its children
abbrev pub string_length : Head → ℕ
string_length h = if is_string h then h.arg else 0

abbrev pub children_after : Head → ℕ
children_after h = if is_parent h then child_count h else 0

-- items before others
abbrev append : Items → Items → Items
append no_items others = others
append (item first items) others = item first (append items others)

count-append : (items others : Items) → count_of (append items others) ≡ count_of items + count_of others
count-append no_items others = sym (zero-add (count_of others))
count-append (item first items) others = let rest = count-append items others in omega (arith, rest)

spells-append : (items others : Items) (part rest : List ℕ) → SpellsAll part items → SpellsAll rest others →
    SpellsAll (part ++ rest) (append items others)
unfolding Spells
spells-append no_items others part rest s t = subst (λ b. SpellsAll (b ++ rest) others) (sym s) t
spells-append (item first items) others part rest s t = (
  s.0,
  s.1 ++ rest,
  ap (λ b. b ++ rest) s.2 ∙ append_assoc s.0 s.1 rest,
  s.3,
  spells-append items others s.1 rest s.4 t,
)

-- A head with its string, and what is spelled behind it: its children, and then as many other items.
record HeadFirst (bytes : List ℕ) (others : ℕ) : Type 0 where
  head : Head
  own : List ℕ
  behind : List ℕ
  items : Items
  whole : bytes ≡ own ++ behind
  is_head : (tail : List ℕ) → bare_head (bytes ++ tail) ≡ Got head head.width
  owned : length own ≡ head.width + string_length head
  count : count_of items ≡ children_after head + others
  spelled : SpellsAll behind items

head_first : (head content behind : List ℕ) (items : Items) (major argument others : ℕ) → IsHead head major argument →
    is_bad_simple (record { major = major; arg = argument; width = length head }) ≡ false →
    string_length (record { major = major; arg = argument; width = length head }) ≡ length content →
    count_of items ≡ children_after (record { major = major; arg = argument; width = length head }) + others → SpellsAll behind items →
    HeadFirst (head ++ (content ++ behind)) others
head_first head content behind items major argument others is_head good long count spelled =
    let n = length-append head content in
    record {
      head = record { major = major; arg = argument; width = length head };
      own = head ++ content;
      behind = behind;
      items = items;
      whole = sym (append_assoc head content behind);
      is_head = λ tail. ap bare_head (append_assoc head (content ++ behind) tail)
          ∙ head_complete head ((content ++ behind) ++ tail) major argument is_head good;
      owned = omega (arith, n, long);
      count = count;
      spelled = spelled;
    }

-- the first of items that are spelled one after another
module _ (others : Items) (rest : List ℕ) (t : SpellsAll rest others) where
  leaf_first : (front : List ℕ) (major argument : ℕ) → IsHead front major argument →
      is_bad_simple (record { major = major; arg = argument; width = length front }) ≡ false →
      string_length (record { major = major; arg = argument; width = length front }) ≡ 0 →
      children_after (record { major = major; arg = argument; width = length front }) ≡ 0 →
      HeadFirst (front ++ rest) (count_of others)
  leaf_first front major argument s good long none =
      head_first front [] rest others major argument (count_of others) s good long
      (sym (ap (λ n. n + count_of others) none ∙ zero-add (count_of others))) t

  begun_first : (front : List ℕ) (major argument : ℕ) (R : List ℕ → Type 0) (b : Begins front major argument R) →
      HeadFirst (b.head ++ (b.rest ++ rest)) (count_of others) → HeadFirst (front ++ rest) (count_of others)
  begun_first front major argument R b f =
      subst (λ bytes. HeadFirst bytes (count_of others)) (sym (ap (λ c. c ++ rest) b.whole ∙ append_assoc b.head b.rest rest)) f

  string_first : (front : List ℕ) (major : ℕ) (content : List ℕ) (b : Begins front major (length content) (λ r. r ≡ content)) →
      ((width : ℕ) → is_bad_simple (record { major = major; arg = length content; width = width }) ≡ false) →
      ((width : ℕ) → string_length (record { major = major; arg = length content; width = width }) ≡ length content) →
      ((width : ℕ) → children_after (record { major = major; arg = length content; width = width }) ≡ 0) →
      HeadFirst (front ++ rest) (count_of others)
  string_first front major content b good long none =
      begun_first front major (length content) (λ r. r ≡ content) b
      (head_first b.head b.rest rest others major (length content) (count_of others) b.is_head (good (length b.head))
      (long (length b.head) ∙ ap length (sym b.is_rest))
      (sym (ap (λ n. n + count_of others) (none (length b.head)) ∙ zero-add (count_of others))) t)

  list_first : (front : List ℕ) (major argument : ℕ) (items : Items) (b : Begins front major argument (λ r. SpellsAll r items)) →
      ((width : ℕ) → is_bad_simple (record { major = major; arg = argument; width = width }) ≡ false) →
      ((width : ℕ) → string_length (record { major = major; arg = argument; width = width }) ≡ 0) →
      ((width : ℕ) → children_after (record { major = major; arg = argument; width = width }) ≡ count_of items) →
      HeadFirst (front ++ rest) (count_of others)
  list_first front major argument items b good long count =
      begun_first front major argument (λ r. SpellsAll r items) b
      (head_first b.head [] (b.rest ++ rest) (append items others) major argument (count_of others) b.is_head (good (length b.head))
      (long (length b.head))
      (count-append items others ∙ sym (ap (λ n. n + count_of others) (count (length b.head))))
      (spells-append items others b.rest rest b.is_rest t))

  first_of_all : (first : Item) (front : List ℕ) → Spells front first → HeadFirst (front ++ rest) (count_of others)
  unfolding Spells
  first_of_all (unsigned n) front s = leaf_first front 0 n s refl refl refl
  first_of_all (negative n) front s = leaf_first front 1 n s refl refl refl
  first_of_all (byte_string content) front s = string_first front 2 content s (λ w. refl) (λ w. refl) (λ w. refl)
  first_of_all (text_string content) front s = string_first front 3 content s (λ w. refl) (λ w. refl) (λ w. refl)
  first_of_all (array items) front s = list_first front 4 (count_of items) items s (λ w. refl) (λ w. refl) (λ w. refl)
  first_of_all (map items) front s = list_first front 5 s.0 items s.2 (λ w. refl) (λ w. refl) (λ w. s.1)
  first_of_all (tag n content) front s =
      begun_first front 6 n (λ r. Spells r content) s
      (head_first s.head [] (s.rest ++ rest) (item content others) 6 n (count_of others) s.is_head refl refl refl (s.rest, rest, refl, s.is_rest, t))
  first_of_all (simple n) front s = leaf_first front 7 n s.0 (simple_good n (length front) s.1) refl refl
  first_of_all (float width bits) front s =
      let large = float_large width (length front) s.1 s.2 in
      leaf_first front 7 bits s.0 (rw (large.0) refl) refl refl

-- Between a place and an end, bytes spell so many items.
pub record ToCome (bytes : List ℕ) (used left end : ℕ) : Type 0 where
  pub part : List ℕ
  pub tail : List ℕ
  pub items : Items
  pub whole : drop used bytes ≡ part ++ tail
  pub ends : end ≡ used + length part
  pub count : count_of items ≡ left
  pub spelled : SpellsAll part items

pub one_to_come : (bytes : List ℕ) (content : Item) (end : ℕ) → end ≤ length bytes → Spells (take end bytes) content → ToCome bytes 0 1 end
unfolding Spells
one_to_come bytes content end there s =
    let n = length-take-le end bytes there in
    record {
      part = take end bytes;
      tail = drop end bytes;
      items = item content no_items;
      whole = sym (take-append-drop end bytes);
      ends = omega (arith, n);
      count = refl;
      spelled = (take end bytes, [], sym (append-nil (take end bytes)), s, refl);
    }

pub none_to_come : (bytes : List ℕ) (used end : ℕ) → ToCome bytes used 0 end → used ≡ end
unfolding Spells
none_to_come bytes used end c = go c.items c.count c.spelled
  where
    go : (items : Items) → count_of items ≡ 0 → SpellsAll c.part items → used ≡ end
    go no_items none s = let n : length c.part ≡ 0 = ap length s in let e = c.ends in omega arith
    go (item first others) some s = absurd (omega arith)

-- the first of them
record FirstToCome (bytes : List ℕ) (used left end : ℕ) : Type 0 where
  first : Item
  others : Items
  front : List ℕ
  rest : List ℕ
  tail : List ℕ
  whole : drop used bytes ≡ (front ++ rest) ++ tail
  ends : end ≡ used + length (front ++ rest)
  count : count_of others ≡ left - 1
  is_first : Spells front first
  are_others : SpellsAll rest others

first_to_come : (bytes : List ℕ) (used left end : ℕ) → 0 < left → ToCome bytes used left end → FirstToCome bytes used left end
unfolding Spells
first_to_come bytes used left end some c = go c.items c.count c.spelled
  where
    go : (items : Items) → count_of items ≡ left → SpellsAll c.part items → FirstToCome bytes used left end
    go no_items none s = absurd (omega arith)
    go (item first others) count s = record {
      first = first;
      others = others;
      front = s.0;
      rest = s.1;
      tail = c.tail;
      whole = c.whole ∙ ap (λ b. b ++ c.tail) s.2;
      ends = c.ends ∙ ap (λ b. used + length b) s.2;
      count = omega arith;
      is_first = s.3;
      are_others = s.4;
    }

-- after what was taken of the part
taken : (bytes own behind tail : List ℕ) (used end : ℕ) → drop used bytes ≡ (own ++ behind) ++ tail → end ≡ used + length (own ++ behind) →
    (drop (used + length own) bytes ≡ behind ++ tail) × (end ≡ used + length own + length behind)
taken bytes own behind tail used end whole ends =
    let n = length-append own behind in (
      sym (drop-drop (length own) used bytes) ∙ ap (drop (length own)) (whole ∙ append_assoc own behind tail)
          ∙ drop-append_seam own (behind ++ tail),
      omega (arith, n, ends),
    )

-- after the head of the first
head_to_come : (bytes : List ℕ) (used left end : ℕ) → 0 < left → ToCome bytes used left end →
    (h : Head) × (bare_head (drop used bytes) ≡ Got h h.width)
    × ToCome bytes (used + (h.width + string_length h)) (left - 1 + children_after h) end
head_to_come bytes used left end some c =
    let f = first_to_come bytes used left end some c in
    let h = first_of_all f.others f.rest f.are_others f.first f.front f.is_first in
    let t = taken bytes h.own h.behind f.tail used end (f.whole ∙ ap (λ b. b ++ f.tail) h.whole) (f.ends ∙ ap (λ b. used + length b) h.whole) in
    let count = h.count in
    let others = f.count in (
      h.head,
      ap bare_head f.whole ∙ h.is_head f.tail,
      record {
        part = h.behind;
        tail = f.tail;
        items = h.items;
        whole = ap (λ n. drop (used + n) bytes) (sym h.owned) ∙ t.0;
        ends = t.1 ∙ ap (λ n. used + n + length h.behind) h.owned;
        count = omega arith;
        spelled = h.spelled;
      },
    )

-- the head that was found, in the bytes from the place on
module _ (bytes rest : List ℕ) (used left : ℕ) (from : rest ≡ drop used bytes) (some : 0 < left) where
  pub head_taken : (h : Head) (width string children end : ℕ) → Got h width ≡ bare_head rest → string ≡ string_length h → children ≡ children_after h →
      ToCome bytes used left end → ToCome bytes (used + (width + string)) (left - 1 + children) end
  head_taken h width string children end found a b c =
      let s = head_to_come bytes used left end some c in
      let same : Got h width ≡ Got s.0 s.0.width = found ∙ ap bare_head from ∙ s.1 in
      let head : h ≡ s.0 = cc in
      let wide : width ≡ s.0.width = cc in
      rw (a, b, wide, head) s.2

  -- every item has a byte
  pub head_fits : (h : Head) (width string children end : ℕ) → Got h width ≡ bare_head rest → string ≡ string_length h → children ≡ children_after h →
      ToCome bytes used left end → end ≤ length bytes → width + string + (left - 1 + children) ≤ length rest
  head_fits h width string children end found a b c there =
      let d = head_taken h width string children end found a b c in
      let few = count_fits d.items d.part d.spelled in
      let n : length rest ≡ length bytes - used = ap length from ∙ length-drop used bytes in
      let count = d.count in
      let ends = d.ends in
      omega arith

  pub has_head : (step : HeadStep) (end : ℕ) → step ≡ bare_head rest →
      ((wanted : ℕ) × (step ≡ More wanted)) ⊎ ((reason : Reason) × (step ≡ Fault reason)) → ToCome bytes used left end → ⊥
  has_head step end found none c =
      let s = head_to_come bytes used left end some c in
      let got : step ≡ Got s.0 s.0.width = found ∙ ap bare_head from ∙ s.1 in
      ⊎_elim (λ half. let more = half.1 in cc) (λ fault. let refused = fault.1 in cc) none

  -- an item whose length was found
  pub item_taken : (found end : ℕ) →
      ((depth place : ℕ) → Ok (0, after found (left_of rest (length rest) place)) ≡ nesting (read depth (left_of rest (length rest) place))) →
      ToCome bytes used left end → ToCome bytes (used + found) (left - 1) end
  item_taken found end spans c =
      let f = first_to_come bytes used left end some c in
      let behind : List ℕ = f.rest ++ f.tail in
      let whole : rest ≡ f.front ++ behind = from ∙ f.whole ∙ append_assoc f.front f.rest f.tail in
      let l : Left = left_of (f.front ++ behind) (length (f.front ++ behind)) 0 in
      let is_read : read (depth_of f.first) l ≡ Ok (f.first, left_of behind (length behind) (length f.front)) =
      spelled_is_read (depth_of f.first) l f.first _ (whole_list f.front behind f.first f.is_first) in
      let nested : Ok (0, after found l) ≡ nesting (read (depth_of f.first) l) = rw whole at (spans (depth_of f.first) 0) in
      let place : 0 + found ≡ length f.front = ap (λ x. x.1.place) (same_ok _ _ (nested ∙ ap nesting is_read)) in
      let n : found ≡ length f.front = sym (zero-add found) ∙ place in
      let t = taken bytes f.front f.rest f.tail used end f.whole f.ends in
      record {
        part = f.rest;
        tail = f.tail;
        items = f.others;
        whole = ap (λ m. drop (used + m) bytes) n ∙ t.0;
        ends = t.1 ∙ ap (λ m. used + m + length f.rest) (sym n);
        count = f.count;
        spelled = f.are_others;
      }
