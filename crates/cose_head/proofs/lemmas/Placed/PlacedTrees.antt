-- Laws of items and the trees that their bytes spell.
use Rattle.std.proofs.Common.{◌≡◌, ℕ, suc, ◌+◌, ◌-◌, ◌*◌, ◌<◌, ◌≤◌, ◌⊎◌, inl, inr, Bool, true, false, List, [], ◌∷◌, ◌++◌, length, take, drop, Option, Some, None, Ok, if◌then◌else◌, refl, sym, ap, subst, ◌∙◌, arith, append-nil, one-add}
use Rattle.std.proofs.lemmas.List.{take_all}
use Rattle.std.proofs.Math.Seq.{take-append_seam, drop-append_seam}
use Rattle.std.specs.Prelude.{nat_lt, ◌==◌}
use Rattle.cose_head.specs.declared.head.Head.{Head}
use Rattle.cose_head.specs.Head.{bare_head, is_bad_simple}
use Rattle.cose_head.specs.Item.{Item, unsigned, negative, byte_string, text_string, array, map, tag, simple, float, Items, no_items, item, count_of, depth_of, deepest, IsHead, Begins, Spells, SpellsAll}
use Rattle.cose_head.specs.Reading.{child_count, span_of}
use Rattle.cose_head.specs.Measured.{left_of}
use Rattle.cose_head.specs.Laws.{SpellsHead}
use Rattle.cose_head.specs.Placed.{Placed, head_or_undefined, head_of_item, byte_content, text_content, look_with, past_head, look, tag_with, tag_in, span_at, items_from, has_children, children_of, children_if_any}
use Rattle.cose_head.specs.PlacedLaws.{IsItem, look_of_tree, AreItems, bytes_of_all, StandFrom, HasChildren, HasContent, is_list, is_tag}
use Rattle.cose_head.proofs.lemmas.Reading.Complete.{simple_good, float_large}
use Rattle.cose_head.proofs.lemmas.Reading.ReadLaws.{sound, spelled_is_read, whole_list}
use Rattle.cose_head.proofs.lemmas.Head.BareHeads.{head_complete}

abbrev pub at : List ℕ → ℕ → Placed
at bytes place = record { bytes = bytes; place = place }

-- the bytes of an item spell it, and what they spell is read
pub item_spelled : (depth : ℕ) (p : Placed) (tree : Item) → IsItem depth p tree → Spells p.bytes tree × (depth_of tree ≤ depth)
item_spelled depth p tree s =
    let q = sound depth (left_of p.bytes (length p.bytes) p.place) tree s.rest s.is_read in
    let whole : p.bytes ≡ q.0.part = q.0.whole ∙ ap (λ b. q.0.part ++ b) s.nothing_left ∙ append-nil q.0.part in
    (subst (λ b. Spells b tree) (sym whole) q.0.is_part, q.1)

pub spelled_item : (depth : ℕ) (p : Placed) (tree : Item) → Spells p.bytes tree → depth_of tree ≤ depth → IsItem depth p tree
spelled_item depth p tree s shallow = record {
  rest = left_of [] 0 (p.place + length p.bytes);
  is_read = spelled_is_read depth (left_of p.bytes (length p.bytes) p.place) tree (left_of [] 0 (p.place + length p.bytes))
      (record { part = p.bytes; whole = sym (append-nil p.bytes); room = omega arith; place = refl; is_part = s }, shallow);
  nothing_left = refl;
}

-- an item that begins with a head
module _ (p : Placed) (head rest : List ℕ) (major argument : ℕ) (whole : p.bytes ≡ head ++ rest) (is_head : IsHead head major argument)
    (good : is_bad_simple (record { major = major; arg = argument; width = length head }) ≡ false) where
  abbrev the_head : Head
  the_head = record { major = major; arg = argument; width = length head }

  head_found : head_of_item p ≡ the_head
  unfolding head_of_item
  head_found = ap head_or_undefined (ap bare_head whole ∙ head_complete head rest major argument is_head good)

  past_found : past_head (head_of_item p) p ≡ at rest (p.place + length head)
  past_found = ap (λ h. past_head h p) head_found
      ∙ ap (λ b. at b (p.place + length head)) (ap (drop (length head)) whole ∙ drop-append_seam head rest)

  look_found : look p ≡ look_with the_head rest
  unfolding look
  look_found = ap (λ h. look_with h (past_head (head_of_item p) p).bytes) head_found ∙ ap (λ q. look_with the_head q.bytes) past_found

  head_spelled : SpellsHead p.bytes (head_of_item p) (head_of_item p).width
  head_spelled = subst (λ h. SpellsHead p.bytes h h.width) (sym head_found)
      (record { part = head; rest = rest; whole = whole; is_head = is_head; wide = refl; ends = refl; good = good })

  some_children : has_children the_head ≡ true → children_of p ≡ items_from (child_count the_head) (at rest (p.place + length head))
  unfolding children_of
  some_children some = rw (head_found, some) (ap (λ q. items_from (child_count the_head) q) (sym (ap (λ h. past_head h p) head_found) ∙ past_found))

  any_children : has_children the_head ≡ true → children_if_any p ≡ Some (children_of p)
  any_children some = rw (head_found, some) refl

  no_children : has_children the_head ≡ false → (children_if_any p ≡ None) × (children_of p ≡ [])
  unfolding children_of
  no_children none = rw (head_found, none) (refl, refl)

  tag_found : tag_in p ≡ tag_with the_head p
  tag_found = ap (λ h. tag_with h p) head_found

  past_the_head : past_head the_head p ≡ at rest (p.place + length head)
  past_the_head = sym (ap (λ h. past_head h p) head_found) ∙ past_found

-- the spelling of an item begins with its head
record Headed (p : Placed) (tree : Item) : Type 0 where
  head : List ℕ
  rest : List ℕ
  major : ℕ
  argument : ℕ
  whole : p.bytes ≡ head ++ rest
  is_head : IsHead head major argument
  good : is_bad_simple (record { major = major; arg = argument; width = length head }) ≡ false
  looks : look_with (record { major = major; arg = argument; width = length head }) rest ≡ look_of_tree tree
  lists : has_children (record { major = major; arg = argument; width = length head }) ≡ is_list tree
  encloses : major == 6 ≡ is_tag tree

bare : (p : Placed) (tree : Item) (major argument : ℕ) → IsHead p.bytes major argument →
    is_bad_simple (record { major = major; arg = argument; width = length p.bytes }) ≡ false →
    look_with (record { major = major; arg = argument; width = length p.bytes }) [] ≡ look_of_tree tree →
    has_children (record { major = major; arg = argument; width = length p.bytes }) ≡ is_list tree → major == 6 ≡ is_tag tree → Headed p tree
bare p tree major argument is_head good looks lists encloses = record {
  head = p.bytes;
  rest = [];
  major = major;
  argument = argument;
  whole = sym (append-nil p.bytes);
  is_head = is_head;
  good = good;
  looks = looks;
  lists = lists;
  encloses = encloses;
}

begun : (p : Placed) (tree : Item) (major argument : ℕ) (R : List ℕ → Type 0) (b : Begins p.bytes major argument R) →
    ((width : ℕ) → is_bad_simple (record { major = major; arg = argument; width = width }) ≡ false) →
    ((width : ℕ) → look_with (record { major = major; arg = argument; width = width }) b.rest ≡ look_of_tree tree) →
    ((width : ℕ) → has_children (record { major = major; arg = argument; width = width }) ≡ is_list tree) → major == 6 ≡ is_tag tree → Headed p tree
begun p tree major argument R b good looks lists encloses = record {
  head = b.head;
  rest = b.rest;
  major = major;
  argument = argument;
  whole = b.whole;
  is_head = b.is_head;
  good = good (length b.head);
  looks = looks (length b.head);
  lists = lists (length b.head);
  encloses = encloses;
}

-- a simple value has one byte or two, and a float has more
simple_narrow : (n width : ℕ) → (width ≡ 1) ⊎ ((width ≡ 2) × (32 ≤ n)) → nat_lt 2 width ≡ false
simple_narrow n width (inl e) = rw e refl
simple_narrow n width (inr e) = rw e.0 refl

float_wide : (width bytes : ℕ) → bytes ≡ 1 + width → (width ≡ 2) ⊎ ((width ≡ 4) ⊎ (width ≡ 8)) → nat_lt 2 bytes ≡ true
float_wide width bytes e (inl w) = let f : bytes ≡ 3 = omega arith in rw f refl
float_wide width bytes e (inr (inl w)) = let f : bytes ≡ 5 = omega arith in rw f refl
float_wide width bytes e (inr (inr w)) = let f : bytes ≡ 9 = omega arith in rw f refl

string_rest : (content rest : List ℕ) → rest ≡ content → take (length content) rest ≡ content
string_rest content rest e = ap (take (length content)) e ∙ take_all (length content) content (omega arith)

headed : (tree : Item) (p : Placed) → Spells p.bytes tree → Headed p tree
unfolding Spells
headed (unsigned n) p s = bare p (unsigned n) 0 n s refl refl refl refl
headed (negative n) p s = bare p (negative n) 1 n s refl refl refl refl
headed (byte_string content) p s =
    begun p (byte_string content) 2 (length content) (λ rest. rest ≡ content) s (λ width. refl)
    (λ width. ap byte_content (string_rest content s.rest s.is_rest)) (λ width. refl) refl
headed (text_string content) p s =
    begun p (text_string content) 3 (length content) (λ rest. rest ≡ content) s (λ width. refl)
    (λ width. ap text_content (string_rest content s.rest s.is_rest)) (λ width. refl) refl
headed (array trees) p s =
    begun p (array trees) 4 (count_of trees) (λ rest. SpellsAll rest trees) s (λ width. refl) (λ width. refl) (λ width. refl) refl
headed (map trees) p s =
    begun p (map trees) 5 s.0 (λ rest. SpellsAll rest trees) s.2 (λ width. refl) (λ width. refl) (λ width. refl) refl
headed (tag n content) p s =
    begun p (tag n content) 6 n (λ rest. Spells rest content) s (λ width. refl) (λ width. refl) (λ width. refl) refl
headed (simple n) p s =
    bare p (simple n) 7 n s.0 (simple_good n (length p.bytes) s.1) (rw (simple_narrow n (length p.bytes) s.1) refl) refl refl
headed (float width bits) p s =
    let n : length p.bytes ≡ 1 + width = s.1 in
    let large = float_large width (length p.bytes) n s.2 in
    bare p (float width bits) 7 bits s.0 (rw (large.0) refl) (rw (float_wide width (length p.bytes) n s.2) refl) refl refl

headed_item : (depth : ℕ) (p : Placed) (tree : Item) → IsItem depth p tree → Headed p tree
headed_item depth p tree s = headed tree p (item_spelled depth p tree s).0

-- what an item is
pub look_is_of_tree : (depth : ℕ) (p : Placed) (tree : Item) → IsItem depth p tree → look p ≡ look_of_tree tree
look_is_of_tree depth p tree s =
    let h = headed_item depth p tree s in
    look_found p h.head h.rest h.major h.argument h.whole h.is_head h.good ∙ h.looks

pub head_is_of_item : (depth : ℕ) (p : Placed) (tree : Item) → IsItem depth p tree → SpellsHead p.bytes (head_of_item p) (head_of_item p).width
head_is_of_item depth p tree s =
    let h = headed_item depth p tree s in
    head_spelled p h.head h.rest h.major h.argument h.whole h.is_head h.good

pub others_have_none : (depth : ℕ) (p : Placed) (tree : Item) → IsItem depth p tree → is_list tree ≡ false → (children_if_any p ≡ None)
    × (children_of p ≡ [])
others_have_none depth p tree s none =
    let h = headed_item depth p tree s in
    no_children p h.head h.rest h.major h.argument h.whole h.is_head h.good (h.lists ∙ none)

pub others_enclose_none : (depth : ℕ) (p : Placed) (tree : Item) → IsItem depth p tree → is_tag tree ≡ false → tag_in p ≡ None
others_enclose_none depth p tree s none =
    let h = headed_item depth p tree s in
    tag_found p h.head h.rest h.major h.argument h.whole h.is_head h.good ∙ rw (h.encloses, none) refl

pub tag_has_its_content : (depth : ℕ) (p : Placed) (number : ℕ) (content : Item) → IsItem depth p (tag number content) →
    HasContent depth p number content
unfolding Spells depth_of
tag_has_its_content depth p number content s =
    let q = item_spelled depth p (tag number content) s in
    let b : Begins p.bytes 6 number (λ rest. Spells rest content) = q.0 in
    let shallow : 1 + depth_of content ≤ depth = q.1 in
    let enclosed : Placed = at b.rest (p.place + length b.head) in
    record {
      head = b.head;
      enclosed = enclosed;
      is_head = b.is_head;
      whole = b.whole;
      place = refl;
      is_item = spelled_item (depth - 1) enclosed content b.is_rest (omega arith);
      found = tag_found p b.head b.rest 6 number b.whole b.is_head refl
          ∙ ap (λ r. Some (number, r)) (past_the_head p b.head b.rest 6 number b.whole b.is_head refl);
    }

pub tag_of_head : (tree : Item) (p : Placed) → IsItem 32 p tree → (head_of_item p).major ≡ 6 → is_tag tree ≡ true
tag_of_head tree p s six =
    let h = headed_item 32 p tree s in
    let major : (head_of_item p).major ≡ h.major = ap (λ g. g.major) (head_found p h.head h.rest h.major h.argument h.whole h.is_head h.good) in
    sym h.encloses ∙ ap (λ m. m == 6) (sym major ∙ six)

-- what is found in a tag is after its head
abbrev tag_content : Placed → Option (ℕ × Placed)
tag_content p = Some ((head_of_item p).arg, past_head (head_of_item p) p)

abbrev content_found : Placed → Option (ℕ × Placed) → Placed
content_found p None = p
content_found p (Some found) = found.1

pub in_tag : (p : Placed) (number : ℕ) (enclosed : Placed) → tag_in p ≡ Some (number, enclosed) → past_head (head_of_item p) p ≡ enclosed
in_tag p number enclosed e = go ((head_of_item p).major == 6) e
  where
    go : (b : Bool) → (if b then tag_content p else None) ≡ Some (number, enclosed) →
        past_head (head_of_item p) p ≡ enclosed
    go true e = ap (content_found p) e
    go false e = absurd cc

-- items that are spelled one after another are found
record Found (depth : ℕ) (bytes : List ℕ) (place : ℕ) (items : List Placed) (trees : Items) : Type 0 where
  whole : bytes ≡ bytes_of_all items
  places : StandFrom place items
  count : length items ≡ count_of trees
  are_items : AreItems depth items trees

span_found : (front rest : List ℕ) (tree : Item) → Spells front tree → depth_of tree ≤ 32 →
    span_at (front ++ rest) ≡ Ok (record { length = length front; depth = depth_of tree })
span_found front rest tree s shallow =
    let w = whole_list front rest tree s in
    ap span_of (spelled_is_read 32 (left_of (front ++ rest) (length (front ++ rest)) 0) tree (left_of rest (length rest) (length front)) (w.0, shallow))

first_found : (n : ℕ) (front rest : List ℕ) (place : ℕ) (tree : Item) → Spells front tree → depth_of tree ≤ 32 →
    items_from (suc n) (at (front ++ rest) place) ≡ at front place ∷ items_from n (at rest (place + length front))
unfolding items_from
first_found n front rest place tree s shallow =
    rw (span_found front rest tree s shallow, take-append_seam front rest, drop-append_seam front rest) refl

all_found : (trees : Items) (depth : ℕ) (bytes : List ℕ) (place : ℕ) → SpellsAll bytes trees → deepest trees ≤ depth → depth ≤ 32 →
    Found depth bytes place (items_from (count_of trees) (at bytes place)) trees
unfolding Spells depth_of items_from
all_found no_items depth bytes place s shallow deep = record { whole = s; places = tt; count = refl; are_items = tt }
all_found (item tree trees) depth bytes place s shallow deep =
    let q = all_found trees depth s.1 (place + length s.0) s.4 (omega arith) deep in
    let items : List Placed = items_from (count_of trees) (at s.1 (place + length s.0)) in
    let e : items_from (count_of (item tree trees)) (at bytes place) ≡ at s.0 place ∷ items =
    ap (λ n. items_from n (at bytes place)) (one-add (count_of trees)) ∙ ap (λ b. items_from (suc (count_of trees)) (at b place)) s.2
    ∙ first_found (count_of trees) s.0 s.1 place tree s.3 (omega arith) in
    let made : Found depth bytes place (at s.0 place ∷ items) (item tree trees) = record {
      whole = s.2 ∙ ap (λ b. s.0 ++ b) q.whole;
      places = (refl, q.places);
      count = ap suc q.count ∙ sym (one-add (count_of trees));
      are_items = (spelled_item depth (at s.0 place) tree s.3 (omega arith), q.are_items);
    } in
    subst (λ found. Found depth bytes place found (item tree trees)) (sym e) made

-- the children of an item that begins with the head of a list
list_has : (depth : ℕ) (p : Placed) (major argument : ℕ) (trees : Items) (b : Begins p.bytes major argument (λ rest. SpellsAll rest trees)) →
    deepest trees < depth → depth ≤ 32 →
    is_bad_simple (record { major = major; arg = argument; width = length b.head }) ≡ false →
    has_children (record { major = major; arg = argument; width = length b.head }) ≡ true →
    child_count (record { major = major; arg = argument; width = length b.head }) ≡ count_of trees →
    HasChildren (depth - 1) p major argument trees
list_has depth p major argument trees b shallow deep good some announced =
    let q = all_found trees (depth - 1) b.rest (p.place + length b.head) b.is_rest (omega arith) (omega arith) in
    let e : children_of p ≡ items_from (count_of trees) (at b.rest (p.place + length b.head)) =
    some_children p b.head b.rest major argument b.whole b.is_head good some
    ∙ ap (λ n. items_from n (at b.rest (p.place + length b.head))) announced in
    let r : Found (depth - 1) b.rest (p.place + length b.head) (children_of p) trees =
    subst (λ found. Found (depth - 1) b.rest (p.place + length b.head) found trees) (sym e) q in
    record {
      head = b.head;
      is_head = b.is_head;
      whole = b.whole ∙ ap (λ c. b.head ++ c) r.whole;
      places = r.places;
      count = r.count;
      are_items = r.are_items;
      some = any_children p b.head b.rest major argument b.whole b.is_head good some;
    }

pub array_has_its_elements : (depth : ℕ) (p : Placed) (trees : Items) → depth ≤ 32 → IsItem depth p (array trees) →
    HasChildren (depth - 1) p 4 (count_of trees) trees
unfolding Spells depth_of
array_has_its_elements depth p trees deep s =
    let q = item_spelled depth p (array trees) s in
    let shallow : 1 + deepest trees ≤ depth = q.1 in
    list_has depth p 4 (count_of trees) trees q.0 (omega arith) deep refl refl refl

pub map_has_its_pairs : (depth : ℕ) (p : Placed) (trees : Items) → depth ≤ 32 → IsItem depth p (map trees) →
    (pairs : ℕ) × (2 * pairs ≡ count_of trees) × HasChildren (depth - 1) p 5 pairs trees
unfolding Spells depth_of
map_has_its_pairs depth p trees deep s =
    let q = item_spelled depth p (map trees) s in
    let shallow : 1 + deepest trees ≤ depth = q.1 in
    let spelled : (pairs : ℕ) × (2 * pairs ≡ count_of trees) × Begins p.bytes 5 pairs (λ rest. SpellsAll rest trees) = q.0 in
    (spelled.0, spelled.1, list_has depth p 5 spelled.0 trees spelled.2 (omega arith) deep refl refl spelled.1)
