-- As many items as there are to be, one after another.
use Rattle.std.proofs.Common.{◌≡◌, ℕ, zero, suc, ◌+◌, ◌-◌, ◌<◌, ◌≤◌, true, false, List, ◌∷◌, length, take, drop, Option, Some, None, Ok, Err, if◌then◌else◌, refl, sym, ap, ◌∙◌, arith, zero-add}
use Rattle.std.proofs.lemmas.List.{length-append}
use Rattle.std.proofs.Math.Seq.{take-append_seam}
use Rattle.cose_head.specs.declared.head.Head.{Head}
use Rattle.cose_head.specs.declared.head.HeadStep.TheVariants.{Got}
use Rattle.cose_head.specs.Head.{bare_head, is_bad_simple}
use Rattle.cose_head.specs.Item.{Item, Items, array, map, count_of, Spells}
use Rattle.cose_head.specs.Reading.{Left, Outcome, read, child_count, span_of}
use Rattle.cose_head.specs.Measured.{left_of}
use Rattle.cose_head.specs.Laws.{IsSpelled}
use Rattle.cose_head.specs.Placed.{Placed, has_children, children_of, children_if_any, items_from, first_of}
use Rattle.cose_head.specs.PlacedLaws.{IsItem, HasChildren, bytes_of_all}
use Rattle.cose_head.specs.Whole.{is_one_item}
use Rattle.cose_head.proofs.lemmas.Head.BareHeads.{head_complete}
use Rattle.cose_head.proofs.lemmas.Reading.Sound.{AtOk, read_sound}
use Rattle.cose_head.proofs.lemmas.Placed.Placed.{children_found}
use Rattle.cose_head.proofs.lemmas.Placed.PlacedTrees.{at, spelled_item, array_has_its_elements, map_has_its_pairs, others_have_none}
use Rattle.cose_head.proofs.lemmas.Placed.Whole.{one_item_is_spelled, spelled_is_one_item}

-- Of the items that bytes begin with the first is the front, and the others are in the rest.
pub record IsNext (left : ℕ) (bytes : List ℕ) (place : ℕ) (front rest : List ℕ) : Type 0 where
  pub is_one : is_one_item front ≡ true
  pub goes_on : items_from left (at bytes place) ≡ at front place ∷ items_from (left - 1) (at rest (place + length front))
  pub others : length (items_from (left - 1) (at rest (place + length front))) ≡ left - 1

-- where the front is as long as the item that the bytes begin with
module _ (bytes : List ℕ) (place used : ℕ) (front rest : List ℕ) (before : front ≡ take used bytes) (behind : rest ≡ drop used bytes)
    (long : (content : Item) (end : ℕ) → end ≤ length bytes → Spells (take end bytes) content → used ≡ end) where
  found_next : (n : ℕ) (found : Outcome Item) → AtOk (IsSpelled 32 (left_of bytes (length bytes) 0)) found →
      length (first_of (items_from n) (at bytes place) (span_of found)) ≡ suc n →
      (is_one_item front ≡ true)
      × (first_of (items_from n) (at bytes place) (span_of found) ≡ at front place ∷ items_from n (at rest (place + length front)))
  found_next n (Ok found) s all =
      let part = s.0.part in
      let sum : length bytes ≡ length part + length found.1.bytes = ap length s.0.whole ∙ length-append part found.1.bytes in
      let end : found.1.place ≡ length part = s.0.place ∙ zero-add (length part) in
      let cut : take (length part) bytes ≡ part = ap (take (length part)) s.0.whole ∙ take-append_seam part found.1.bytes in
      let same : used ≡ length part = long found.0 (length part) (omega arith) (rw cut s.0.is_part) in
      let is : front ≡ part = before ∙ ap (λ m. take m bytes) same ∙ cut in
      let others : rest ≡ drop (length part) bytes = behind ∙ ap (λ m. drop m bytes) same in
      (rw is (spelled_is_one_item part found.0 s.0.is_part s.1), rw (is, others, end, cut) refl)
  found_next n (Err refusal) s all = absurd (omega arith)

  pub is_next : (left : ℕ) → length (items_from left (at bytes place)) ≡ left → 0 < left → IsNext left bytes place front rest
  unfolding items_from
  is_next zero all some = absurd (omega arith)
  is_next (suc n) all some =
      let l : Left = left_of bytes (length bytes) 0 in
      let s = found_next n (read 32 l) (read_sound 32 l) all in
      let one : suc n - 1 ≡ n = omega arith in
      let more : suc (length (items_from n (at rest (place + length front)))) ≡ suc n = sym (ap length s.1) ∙ all in
      record { is_one = s.0; goes_on = rw one s.1; others = rw one (omega arith) }

-- the children of an item are as many as its head announces
abbrev announced_by : Head → Option ℕ
announced_by h = if has_children h then Some (child_count h) else None

module _ (p : Placed) (h : Head) (used left : ℕ) (items : List Placed) (got : Got h used ≡ bare_head p.bytes)
    (announced : Some left ≡ announced_by h) (found : Some items ≡ children_if_any p) where
  list_there : (depth major argument : ℕ) (trees : Items) → HasChildren depth p major argument trees →
      ((width : ℕ) → is_bad_simple (record { major = major; arg = argument; width = width }) ≡ false) →
      ((width : ℕ) → announced_by (record { major = major; arg = argument; width = width }) ≡ Some (count_of trees)) → length items ≡ left
  list_there depth major argument trees c good count =
      let g : Head = record { major = major; arg = argument; width = length c.head } in
      let same : Got h used ≡ Got g (length c.head) = got ∙ ap bare_head c.whole
      ∙ head_complete c.head (bytes_of_all (children_of p)) major argument c.is_head (good (length c.head)) in
      let head : h ≡ g = cc in
      let as_many : Some left ≡ Some (count_of trees) = rw head at announced ∙ count (length c.head) in
      let n : left ≡ count_of trees = cc in
      let are : Some items ≡ Some (children_of p) = found ∙ c.some in
      let its : items ≡ children_of p = cc in
      ap length its ∙ c.count ∙ sym n

  tree_there : (tree : Item) → IsItem 32 p tree → length items ≡ left
  tree_there (array trees) t = list_there 31 4 (count_of trees) trees (array_has_its_elements 32 p trees (omega arith) t) (λ w. refl) (λ w. refl)
  tree_there (map trees) t =
      let s = map_has_its_pairs 32 p trees (omega arith) t in
      list_there 31 5 s.0 trees s.2 (λ w. refl) (λ w. ap {B = Option ℕ} Some s.1)
  tree_there other t = let none = (others_have_none 32 p other t refl).0 in absurd cc

pub children_are_there : (bytes rest : List ℕ) (place used left : ℕ) (h : Head) → is_one_item bytes ≡ true → Got h used ≡ bare_head bytes →
    rest ≡ drop used bytes → Some left ≡ announced_by h →
    length (items_from left (at rest (place + used))) ≡ left
children_are_there bytes rest place used left h one got from announced =
    let s = one_item_is_spelled bytes one in
    tree_there (at bytes place) h used left (items_from left (at rest (place + used))) got announced
    (children_found bytes rest place used left h got from announced) s.0 (spelled_item 32 (at bytes place) s.0 s.1 s.2)
