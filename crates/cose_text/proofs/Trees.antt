-- The text of an item as bytes is the diagnostic notation of the item that they spell.
use Rattle.std.proofs.Common.{◌≡◌, ℕ, suc, ◌+◌, ◌-◌, ◌*◌, ◌≤◌, ◌⊎◌, inl, inr, true, false, List, [], ◌∷◌, ◌++◌, length, map as map_list, take, drop, codes, refl, sym, ap, subst, ◌∙◌, arith, append-nil, le-ltb, nat_lt, ◌==◌, ◌&&◌}
use Rattle.std.proofs.lemmas.List.{take_all}
use Rattle.std.proofs.Math.Seq.{drop-append_seam}
use Rattle.cose_head.specs.declared.head.Head.{Head}
use Rattle.cose_head.specs.Head.{is_bad_simple}
use Rattle.cose_head.specs.Item.{Item, unsigned, negative, byte_string, text_string, array, map, tag, simple, float, Items, no_items, item, count_of, depth_of, deepest, IsHead, Begins, Spells, SpellsAll}
use Rattle.cose_head.specs.Laws.{HeadIsSpelled, ReadIsSpelled}
use Rattle.cose_head.specs.Measured.{left_of}
use Rattle.cose_head.specs.Placed.{Placed, children_of, head_of_item, head_or_undefined}
use Rattle.cose_head.specs.PlacedLaws.{AreItems, ArrayHasItsElements, IsItem, MapHasItsPairs, OneItemIsWhole, TagHasItsContent, WholeIsItem}
use Rattle.cose_head.specs.Whole.{is_one_item}
use Rattle.cose_text.specs.Diagnostic.{array_text, bytes_text, diagnostic, diagnostic_of, diagnostics, map_text, string_text, tag_text, tree_text}
use Rattle.cose_text.specs.Shown.{item_text, level_text}

simple_good : (n width : ℕ) → (width ≡ 1) ⊎ ((width ≡ 2) × (32 ≤ n)) → ((width == 2 && nat_lt n 32) ≡ false) × (nat_lt 2 width ≡ false)
simple_good n width (inl e) = rw e (refl, refl)
simple_good n width (inr e) = rw (e.0, le-ltb n 32 e.1) (refl, refl)

float_wide : (width bytes : ℕ) → bytes ≡ 1 + width → (width ≡ 2) ⊎ ((width ≡ 4) ⊎ (width ≡ 8)) → (bytes == 2 ≡ false) × (nat_lt 2 bytes ≡ true) × (bytes - 1 ≡ width)
float_wide width bytes e (inl w) = let f : bytes ≡ 3 = omega arith in rw (f, w) (refl, refl, refl)
float_wide width bytes e (inr (inl w)) = let f : bytes ≡ 5 = omega arith in rw (f, w) (refl, refl, refl)
float_wide width bytes e (inr (inr w)) = let f : bytes ≡ 9 = omega arith in rw (f, w) (refl, refl, refl)

-- the content of a string is what follows its head
content_found : (bytes head rest content : List ℕ) → bytes ≡ head ++ rest → rest ≡ content → take (length content) (drop (length head) bytes) ≡ content
content_found bytes head rest content whole is =
    ap (λ b. take (length content) (drop (length head) b)) whole
    ∙ ap (take (length content)) (drop-append_seam head rest ∙ is)
    ∙ take_all (length content) content (omega arith)

module _ (heads : HeadIsSpelled) (items : ReadIsSpelled) (arrays : ArrayHasItsElements) (maps : MapHasItsPairs) (tags : TagHasItsContent) where
  item_spelled : (depth : ℕ) (p : Placed) (tree : Item) → IsItem depth p tree → Spells p.bytes tree × (depth_of tree ≤ depth)
  item_spelled depth p tree s =
      let q = (items depth (left_of p.bytes (length p.bytes) p.place) tree s.rest).0 s.is_read in
      let whole : p.bytes ≡ q.0.part = q.0.whole ∙ ap (λ b. q.0.part ++ b) s.nothing_left ∙ append-nil q.0.part in
      (subst (λ b. Spells b tree) (sym whole) q.0.is_part, q.1)

  headed : (p : Placed) (major argument : ℕ) (head rest : List ℕ) → p.bytes ≡ head ++ rest → IsHead head major argument →
      is_bad_simple (record { major = major; arg = argument; width = length head }) ≡ false →
      head_of_item p ≡ record { major = major; arg = argument; width = length head }
  unfolding head_of_item
  headed p major argument head rest whole is_head good =
      let h : Head = record { major = major; arg = argument; width = length head } in
      ap head_or_undefined ((heads p.bytes h (length head)).1
      (record { part = head; rest = rest; whole = whole; is_head = is_head; wide = refl; ends = refl; good = good }))

  bare : (p : Placed) (major argument : ℕ) → IsHead p.bytes major argument →
      is_bad_simple (record { major = major; arg = argument; width = length p.bytes }) ≡ false →
      head_of_item p ≡ record { major = major; arg = argument; width = length p.bytes }
  bare p major argument is_head good = headed p major argument p.bytes [] (sym (append-nil p.bytes)) is_head good

  mutual
    unfolding Spells depth_of diagnostic item_text

    pub of_tree : (tree : Item) (depth : ℕ) (p : Placed) → depth ≤ 32 → IsItem depth p tree → item_text (suc depth) p ≡ diagnostic tree
    of_tree (unsigned n) depth p deep s = rw (bare p 0 n (item_spelled depth p (unsigned n) s).0 refl) refl
    of_tree (negative n) depth p deep s = rw (bare p 1 n (item_spelled depth p (negative n) s).0 refl) refl
    of_tree (byte_string content) depth p deep s =
        let b : Begins p.bytes 2 (length content) (λ rest. rest ≡ content) = (item_spelled depth p (byte_string content) s).0 in
        rw (headed p 2 (length content) b.head b.rest b.whole b.is_head refl) (ap (bytes_text (codes "h")) (content_found p.bytes b.head b.rest content b.whole b.is_rest))
    of_tree (text_string content) depth p deep s =
        let b : Begins p.bytes 3 (length content) (λ rest. rest ≡ content) = (item_spelled depth p (text_string content) s).0 in
        rw (headed p 3 (length content) b.head b.rest b.whole b.is_head refl) (ap string_text (content_found p.bytes b.head b.rest content b.whole b.is_rest))
    of_tree (array trees) depth p deep s =
        let q = item_spelled depth p (array trees) s in
        let b : Begins p.bytes 4 (count_of trees) (λ rest. SpellsAll rest trees) = q.0 in
        let shallow : 1 + deepest trees ≤ depth = q.1 in
        let less : suc (depth - 1) ≡ depth = omega arith in
        let texts : map_list (item_text (suc (depth - 1))) (children_of p) ≡ diagnostics trees =
        of_trees trees (depth - 1) (children_of p) (omega arith) (arrays depth p trees deep s).are_items in
        rw (headed p 4 (count_of trees) b.head b.rest b.whole b.is_head refl)
        (ap array_text (ap (λ n. map_list (item_text n) (children_of p)) (sym less) ∙ texts))
    of_tree (map trees) depth p deep s =
        let q = item_spelled depth p (map trees) s in
        let spelled : (pairs : ℕ) × (2 * pairs ≡ count_of trees) × Begins p.bytes 5 pairs (λ rest. SpellsAll rest trees) = q.0 in
        let b = spelled.2 in
        let shallow : 1 + deepest trees ≤ depth = q.1 in
        let less : suc (depth - 1) ≡ depth = omega arith in
        let texts : map_list (item_text (suc (depth - 1))) (children_of p) ≡ diagnostics trees =
        of_trees trees (depth - 1) (children_of p) (omega arith) (maps depth p trees deep s).2.are_items in
        rw (headed p 5 spelled.0 b.head b.rest b.whole b.is_head refl)
        (ap map_text (ap (λ n. map_list (item_text n) (children_of p)) (sym less) ∙ texts))
    of_tree (tag n content) depth p deep s =
        let q = item_spelled depth p (tag n content) s in
        let b : Begins p.bytes 6 n (λ rest. Spells rest content) = q.0 in
        let shallow : 1 + depth_of content ≤ depth = q.1 in
        let less : suc (depth - 1) ≡ depth = omega arith in
        let has = tags depth p n content s in
        let text : item_text (suc (depth - 1)) has.enclosed ≡ diagnostic content = of_tree content (depth - 1) has.enclosed (omega arith) has.is_item in
        let h = headed p 6 n b.head b.rest b.whole b.is_head refl in
        ap (λ x. level_text (item_text depth) x p) h
        ∙ rw has.found (ap (tag_text n) (ap (λ d. item_text d has.enclosed) (sym less) ∙ text))
    of_tree (simple n) depth p deep s =
        let q = (item_spelled depth p (simple n) s).0 in
        let good = simple_good n (length p.bytes) q.1 in
        rw (bare p 7 n q.0 good.0, good.1) refl
    of_tree (float width bits) depth p deep s =
        let q = (item_spelled depth p (float width bits) s).0 in
        let wide = float_wide width (length p.bytes) q.1 q.2 in
        rw (bare p 7 bits q.0 (rw wide.0 refl), wide.1, wide.2) refl

    pub of_trees : (trees : Items) (depth : ℕ) (ps : List Placed) → depth ≤ 32 → AreItems depth ps trees → map_list (item_text (suc depth)) ps ≡ diagnostics trees
    of_trees no_items depth [] deep s = refl
    of_trees no_items depth (p ∷ ps) deep s = absurd s
    of_trees (item tree trees) depth [] deep s = absurd s
    of_trees (item tree trees) depth (p ∷ ps) deep s =
        let first : item_text (suc depth) p ≡ diagnostic tree = of_tree tree depth p deep s.0 in
        let others : map_list (item_text (suc depth)) ps ≡ diagnostics trees = of_trees trees depth ps deep s.1 in
        rw (first, others) refl

  pub is_diagnostic : OneItemIsWhole → WholeIsItem → (p : Placed) → is_one_item p.bytes ≡ true → item_text 33 p ≡ diagnostic_of p
  is_diagnostic test accepted p one =
      let found = accepted 32 p p ((test p).0 one) in
      of_tree found.0 32 p (omega arith) found.1 ∙ ap tree_text (sym found.1.is_read)
