-- Header buckets in their shortest spelling: the empty map, and a map of one pair.
use Rattle.std.proofs.Common.{◌≡◌, ℕ, ◌+◌, ◌*◌, ◌≤◌, false, List, [], ◌∷◌, ◌++◌, length, Some, None, refl, sym, ap, subst, ◌∙◌, arith}
use Rattle.std.specs.Prelude.{Ok, ◌==◌}
use Rattle.std.proofs.lemmas.Bool.{ne_eqb}
use Rattle.std.proofs.lemmas.List.{drop_at}
use Rattle.cose_head.specs.Head.{shortest_head}
use Rattle.cose_head.specs.Item.{Item, map, no_items, depth_of, deepest, IsHead, Spells}
use Rattle.cose_head.specs.Placed.{Placed, a_map, look, head_of_item, children_of, items_from}
use Rattle.cose_head.specs.Shortest.{shortest, shortest_all, HasShortest, HaveShortest, ShortestIsSpelled}
use Rattle.cose_head.specs.Whole.{whole}
use Rattle.cose_map.specs.Bucket.{bucket_of}
use Rattle.cose_map.specs.Bucket.Form.{bucket_table}
use Rattle.cose_map.specs.Label.{LabelValue, label_of, label_like}
use Rattle.cose_map.specs.Laws.Tree.{label_of_tree}
use Rattle.cose_map.specs.Map.Pairs.{Pair}
use Rattle.cose_map.specs.Map.Read.{check_pairs}
use Rattle.cose_msg.specs.Making.{map_of_one}
use Rattle.cose_msg.specs.Phases.{placed_at}
use Rattle.cose_msg.proofs.lemmas.Spelling.Spelled.{SpellingLaws, head_found, one_byte_head}
use Rattle.cose_msg.proofs.lemmas.Made.SpelledItems.{ItemLaws, whole_spelled, look_spelled, first_spelled}

-- The laws of spellings that these proofs cite.
pub record ShortestLaws : Type 0 where
  pub spelling : SpellingLaws
  pub items : ItemLaws
  pub shortest : ShortestIsSpelled

-- A bucket that is read: the bytes are one item, a map, and the pairs of its children are right.
bucket_read : (depth : ℕ) (p : Placed) (children : List Placed) (pairs : List Pair) → (length p.bytes == 0) ≡ false → whole depth p ≡ Ok p → look p ≡ a_map → children_of p ≡ children → check_pairs bucket_table [] children ≡ Ok pairs → bucket_of depth p ≡ Ok pairs
unfolding bucket_of
bucket_read depth p children pairs some is_whole is_map are_children good = rw (some, is_whole, is_map, are_children) good

some_bytes : (byte : ℕ) (rest : List ℕ) → (length (byte ∷ rest) == 0) ≡ false
some_bytes byte rest = ne_eqb (length (byte ∷ rest)) 0 (λ e. absurd (omega (arith, e)))

-- One pair, whose value has its form.
one_pair : (name : LabelValue) (label value : Placed) → label_of label ≡ Some name → bucket_table name value ≡ None
    → check_pairs bucket_table [] (label ∷ value ∷ []) ≡ Ok (record { name = name; label = label; value = value } ∷ [])
unfolding check_pairs
one_pair name label value named formed = rw (named, formed) refl

-- The pair of these two, spelled from a place on.
abbrev pub pair_at : ℕ → LabelValue → Item → Item → Pair
pair_at place name label value = record { name = name; label = placed_at place (shortest label); value = placed_at (place + length (shortest label)) (shortest value) }

module _ (laws : ShortestLaws) where
  pub shortest_label : (place : ℕ) (label : Item) → HasShortest label → label_of (placed_at place (shortest label)) ≡ label_of_tree label
  shortest_label place label has = ap label_like (look_spelled laws.items (placed_at place (shortest label)) label (laws.shortest label has))

  map_children : (place pairs : ℕ) (head rest : List ℕ) → IsHead head 5 pairs → children_of (placed_at place (head ++ rest)) ≡ items_from (2 * pairs) (placed_at (place + length head) rest)
  unfolding children_of head_of_item
  map_children place pairs head rest is = rw (head_found laws.spelling 5 pairs head rest refl is, drop_at head rest (length head) refl) refl

  pub empty_bucket : (depth place : ℕ) → 1 ≤ depth → bucket_of depth (placed_at place (shortest (map no_items))) ≡ Ok []
  unfolding shortest shortest_all shortest_head HasShortest HaveShortest depth_of deepest items_from check_pairs
  empty_bucket depth place nests =
      let p : Placed = placed_at place (160 ∷ []) in
      let spelled : Spells p.bytes (map no_items) = laws.shortest (map no_items) (0, omega arith, refl, tt) in
      bucket_read depth p [] [] refl (whole_spelled laws.items depth p (map no_items) spelled nests) (look_spelled laws.items p (map no_items) spelled) (map_children place 0 (160 ∷ []) [] (one_byte_head 5 0 (omega arith) (omega arith))) refl

  two_items : (place : ℕ) (label value : Item) → HasShortest label → HasShortest value → depth_of label ≡ 0 → depth_of value ≡ 0
      → items_from 2 (placed_at place (shortest label ++ (shortest value ++ []))) ≡ placed_at place (shortest label) ∷ placed_at (place + length (shortest label)) (shortest value) ∷ []
  unfolding items_from
  two_items place label value has_label has_value flat_label flat_value =
      let first = first_spelled laws.items 1 place label (shortest label) (shortest value ++ []) (laws.shortest label has_label) (omega (arith, flat_label)) in
      let second = first_spelled laws.items 0 (place + length (shortest label)) value (shortest value) [] (laws.shortest value has_value) (omega (arith, flat_value)) in
      first ∙ ap (λ (others : List Placed). placed_at place (shortest label) ∷ others) second

  one_pair_whole : (depth : ℕ) (p : Placed) (label value : Item) → p.bytes ≡ shortest (map_of_one label value) → 1 ≤ depth → HasShortest label → HasShortest value → depth_of label ≡ 0 → depth_of value ≡ 0
      → (whole depth p ≡ Ok p) × (look p ≡ a_map)
  unfolding HasShortest HaveShortest depth_of deepest
  one_pair_whole depth p label value is nests has_label has_value flat_label flat_value =
      let tree : Item = map_of_one label value in
      let spelled : Spells p.bytes tree = subst (λ (bytes : List ℕ). Spells bytes tree) (sym is) (laws.shortest tree (1, omega arith, refl, (has_label, (has_value, tt)))) in
      let fits : depth_of tree ≤ depth = rw (flat_label, flat_value) nests in
      (whole_spelled laws.items depth p tree spelled fits, look_spelled laws.items p tree spelled)

  pub one_pair_bucket : (depth place : ℕ) (name : LabelValue) (label value : Item) → 1 ≤ depth → HasShortest label → HasShortest value → depth_of label ≡ 0 → depth_of value ≡ 0 → label_of_tree label ≡ Some name
      → bucket_table name (placed_at (place + 1 + length (shortest label)) (shortest value)) ≡ None
      → bucket_of depth (placed_at place (shortest (map_of_one label value))) ≡ Ok (pair_at (place + 1) name label value ∷ [])
  unfolding shortest shortest_all shortest_head
  one_pair_bucket depth place name label value nests has_label has_value flat_label flat_value named formed =
      let rest : List ℕ = shortest label ++ (shortest value ++ []) in
      let p : Placed = placed_at place (161 ∷ rest) in
      let is = one_pair_whole depth p label value refl nests has_label has_value flat_label flat_value in
      let children = map_children place 1 (161 ∷ []) rest (one_byte_head 5 1 (omega arith) (omega arith)) ∙ two_items (place + 1) label value has_label has_value flat_label flat_value in
      let pair = one_pair name (placed_at (place + 1) (shortest label)) (placed_at (place + 1 + length (shortest label)) (shortest value)) (shortest_label (place + 1) label has_label ∙ named) formed in
      bucket_read depth p _ _ (some_bytes 161 rest) is.0 is.1 children pair
