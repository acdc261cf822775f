-- Bytes that are one item spell a tree, and the pairs of a map that was read are those of its tree.
use Rattle.std.proofs.Common.{◌≡◌, ◌∙◌, ◌⊎◌, inl, inr, ℕ, ◌-◌, ◌*◌, ◌≤◌, Bool, true, false, List, [], ◌∷◌, ◌++◌, length, Option, Some, None, Ok, Err, if◌then◌else◌, refl, sym, ap, subst, arith, append-nil, append_assoc, ◌+◌}
use Rattle.std.specs.Prelude.{◌↔◌, ◌==◌}
use Rattle.std.proofs.lemmas.Bool.Decides.{nat_tests}
use Rattle.cose_head.specs.declared.reason.Reason.{Reason}
use Rattle.cose_head.specs.declared.reason.Reason.TheVariants.{NotMap}
use Rattle.cose_head.specs.Item.{Item, unsigned, negative, byte_string, text_string, array, map, tag, simple, float, Items, no_items, item, count_of, Spells}
use Rattle.cose_head.specs.Laws.{ReadIsSpelled}
use Rattle.cose_head.specs.Measured.{left_of}
use Rattle.cose_head.specs.Placed.{Placed, truth, other, look, is_a_map, children_of}
use Rattle.cose_head.specs.PlacedLaws.{IsItem, WholeIsItem, ItemIsWhole, look_of_tree, AreItems, LookIsOfTree, MapHasItsPairs}
use Rattle.cose_head.specs.Reading.{read}
use Rattle.cose_head.specs.Whole.{whole}
use Rattle.cose_map.specs.Bucket.{bucket_of}
use Rattle.cose_map.specs.Bucket.Form.{bucket_table}
use Rattle.cose_map.specs.Key.{key_of, key_with}
use Rattle.cose_map.specs.Key.Form.{key_table}
use Rattle.cose_map.specs.Key.Material.{material_of}
use Rattle.cose_map.specs.Key.Value.{KeyValue, MaterialValue}
use Rattle.cose_map.specs.Label.{LabelValue, label_of, label_like}
use Rattle.cose_map.specs.Laws.Tree.{IsTree, IsPair, ArePairs, items_of, HasPairs}
use Rattle.cose_map.specs.Map.Form.{Table}
use Rattle.cose_map.specs.Map.Pairs.{Pair, has_label}
use Rattle.cose_map.specs.Map.Read.{Read, ◌>>=◌, refuse, name_at, new_name, value_at, pair_after, check_pairs, check_map, read_map}

-- a pair that passes is made of its label and its value
abbrev pair_with : LabelValue → Placed → Placed → Pair
pair_with name label value = record { name = name; label = label; value = value }

passed_value : (fault : Option Reason) (name : LabelValue) (label value : Placed) (pair : Pair) → value_at label fault name value ≡ Ok pair → pair_with name label value ≡ pair
passed_value None name label value pair e = cc
passed_value (Some reason) name label value pair e = cc

passed_new : (taken : Bool) (table : Table) (name : LabelValue) (label value : Placed) (pair : Pair) →
    (new_name label taken name >>= λ n. value_at label (table n value) n value) ≡ Ok pair → pair_with name label value ≡ pair
passed_new true table name label value pair e = cc
passed_new false table name label value pair e = passed_value (table name value) name label value pair e

passed_name : (found : Option LabelValue) (table : Table) (earlier : List Pair) (label value : Placed) (pair : Pair) →
    ((name_at label found >>= λ n. new_name label (has_label n earlier) n) >>= λ n. value_at label (table n value) n value) ≡ Ok pair →
    (name : LabelValue) × (found ≡ Some name) × (pair_with name label value ≡ pair)
passed_name None table earlier label value pair e = cc
passed_name (Some name) table earlier label value pair e = (name, refl, passed_new (has_label name earlier) table name label value pair e)

passed : (table : Table) (earlier : List Pair) (label value : Placed) (pair : Pair) → pair_after table earlier label value ≡ Ok pair →
    (name : LabelValue) × (label_of label ≡ Some name) × (pair_with name label value ≡ pair)
passed table earlier label value pair e = passed_name (label_of label) table earlier label value pair e

-- a tree whose look is that of a map is a map
simple_no_map : (a b : Bool) → is_a_map (if a then truth false else if b then truth true else other) ≡ true → ⊥
simple_no_map true b e = cc
simple_no_map false true e = cc
simple_no_map false false e = cc

map_tree : (tree : Item) → is_a_map (look_of_tree tree) ≡ true → (trees : Items) × (tree ≡ map trees)
map_tree (map trees) e = (trees, refl)
map_tree (unsigned n) e = cc
map_tree (negative n) e = cc
map_tree (byte_string content) e = cc
map_tree (text_string content) e = cc
map_tree (array trees) e = cc
map_tree (tag n content) e = cc
map_tree (simple n) e = absurd (simple_no_map (n == 20) (n == 21) e)
map_tree (float width bits) e = cc

-- lengths
is_zero : (n : ℕ) → (n == 0) ≡ true → n ≡ 0
is_zero n e = grind (arith, nat_tests)

no_bytes : (bytes : List ℕ) → (length bytes == 0) ≡ true → bytes ≡ []
no_bytes [] e = refl
no_bytes (b ∷ bs) e = let none : length (b ∷ bs) ≡ 0 = is_zero (length (b ∷ bs)) e in absurd (omega arith)

-- given the laws of reading and of children
module _ (spelled : ReadIsSpelled) where
  item_tree : (depth : ℕ) (p : Placed) (tree : Item) → IsItem depth p tree → IsTree depth p tree
  item_tree depth p tree s =
      let q = (spelled depth (left_of p.bytes (length p.bytes) p.place) tree s.rest).0 s.is_read in
      let all : p.bytes ≡ q.0.part = q.0.whole ∙ ap (λ b. q.0.part ++ b) s.nothing_left ∙ append-nil q.0.part in
      record { spelled = subst (λ b. Spells b tree) (sym all) q.0.is_part; nested = q.1 }

  tree_read : (depth : ℕ) (p : Placed) (tree : Item) (place : ℕ) → IsTree depth p tree →
      read depth (left_of p.bytes (length p.bytes) place) ≡ Ok (tree, left_of [] 0 (place + length p.bytes))
  tree_read depth p tree place s = (spelled depth (left_of p.bytes (length p.bytes) place) tree (left_of [] 0 (place + length p.bytes))).1
      (record { part = p.bytes; whole = sym (append-nil p.bytes); room = omega arith; place = refl; is_part = s.spelled }, s.nested)

  tree_item : (depth : ℕ) (p : Placed) (tree : Item) → IsTree depth p tree → IsItem depth p tree
  tree_item depth p tree s = record { rest = left_of [] 0 (p.place + length p.bytes); is_read = tree_read depth p tree p.place s; nothing_left = refl }

  module _ (wholes : WholeIsItem) where
    whole_tree : (depth : ℕ) (p q : Placed) → whole depth p ≡ Ok q → (q ≡ p) × ((tree : Item) × IsTree depth p tree)
    whole_tree depth p q e = let found = wholes depth p q e in (found.2, (found.0, item_tree depth p found.0 found.1))

    pub item_is_tree : ItemIsWhole → (depth : ℕ) (p : Placed) → (whole depth p ≡ Ok p) ↔ ((tree : Item) × IsTree depth p tree)
    item_is_tree accepted depth p = (λ e. (whole_tree depth p p e).1, λ s. accepted depth p s.0 (tree_item depth p s.0 s.1))

  module _ (wholes : WholeIsItem) (looks : LookIsOfTree) (maps : MapHasItsPairs) where
    pair_tree : (depth : ℕ) (label value : Placed) (t v : Item) → IsItem depth label t → IsItem depth value v → (name : LabelValue) → label_of label ≡ Some name →
        IsPair (pair_with name label value) t v
    pair_tree depth label value t v s r name e = record {
      named = sym (ap label_like (looks depth label t s)) ∙ e;
      label_spelled = (item_tree depth label t s).spelled;
      value_spelled = (item_tree depth value v r).spelled;
    }

    -- the pairs that were read are those of the trees
    pairs_trees : (depth : ℕ) (table : Table) (earlier : List Pair) (items : List Placed) (trees : Items) (n : ℕ) (all : List Pair) →
        AreItems depth items trees → 2 * n ≡ count_of trees → check_pairs table earlier items ≡ Ok all →
        (others : List Pair) × (all ≡ earlier ++ others) × ArePairs others trees × (items_of others ≡ items)
    unfolding check_pairs
    pairs_trees depth table earlier [] no_items n all s e c = let same : earlier ≡ all = cc in ([], sym same ∙ sym (append-nil earlier), tt, refl)
    pairs_trees depth table earlier [] (item t trees) n all s e c = absurd s
    pairs_trees depth table earlier (label ∷ []) no_items n all s e c = absurd s
    pairs_trees depth table earlier (label ∷ []) (item t no_items) n all s e c = absurd (omega arith)
    pairs_trees depth table earlier (label ∷ []) (item t (item v trees)) n all s e c = absurd s.1
    pairs_trees depth table earlier (label ∷ value ∷ others) no_items n all s e c = absurd s
    pairs_trees depth table earlier (label ∷ value ∷ others) (item t no_items) n all s e c = absurd s.1
    pairs_trees depth table earlier (label ∷ value ∷ others) (item t (item v trees)) n all s e c =
        on (pair_after table earlier label value) refl c
        (λ pair rest. pairs_trees depth table (earlier ++ pair ∷ []) others trees (n - 1) all s.1.1 (omega arith) rest)
      where
        on : (answer : Read Pair) → pair_after table earlier label value ≡ answer → (answer >>= λ pair. check_pairs table (earlier ++ pair ∷ []) others) ≡ Ok all →
            ((pair : Pair) → check_pairs table (earlier ++ pair ∷ []) others ≡ Ok all →
            (more : List Pair) × (all ≡ (earlier ++ pair ∷ []) ++ more) × ArePairs more trees × (items_of more ≡ others)) →
            (more : List Pair) × (all ≡ earlier ++ more) × ArePairs more (item t (item v trees)) × (items_of more ≡ label ∷ value ∷ others)
        on (Err refusal) a c go = cc
        on (Ok pair) a c go =
            let found = passed table earlier label value pair a in
            let more = go pair c in
            let name = found.0 in
            let made = found.2 in (
              pair ∷ more.0,
              more.1 ∙ append_assoc earlier (pair ∷ []) more.0,
              (subst (λ q. IsPair q t v) made (pair_tree depth label value t v s.0 s.1.0 name found.1), more.2),
              subst (λ q. items_of (q ∷ more.0) ≡ label ∷ value ∷ others) made (ap (λ xs. label ∷ value ∷ xs) more.3),
            )

    map_pairs : (table : Table) (depth : ℕ) (p : Placed) (pairs : List Pair) (trees : Items) → depth ≤ 32 → IsTree depth p (map trees) →
        check_pairs table [] (children_of p) ≡ Ok pairs → HasPairs depth p pairs
    map_pairs table depth p pairs trees shallow s c =
        let has = maps depth p trees shallow (tree_item depth p (map trees) s) in
        let found = pairs_trees (depth - 1) table [] (children_of p) trees has.0 pairs has.2.are_items has.1 c in
        record {
          trees = trees;
          is_map = s;
          are_pairs = subst (λ others. ArePairs others trees) (sym found.1) found.2;
          are_children = ap items_of found.1 ∙ found.3;
        }

    checked_tree : (table : Table) (depth : ℕ) (p : Placed) (pairs : List Pair) (tree : Item) → depth ≤ 32 → IsTree depth p tree → check_map table p ≡ Ok pairs →
        HasPairs depth p pairs
    checked_tree table depth p pairs tree shallow s c = at (is_a_map (look p)) refl c
      where
        at : (b : Bool) → is_a_map (look p) ≡ b → (if b then check_pairs table [] (children_of p) else refuse NotMap p) ≡ Ok pairs → HasPairs depth p pairs
        at false e c = cc
        at true e c =
            let found = map_tree tree (sym (ap is_a_map (looks depth p tree (tree_item depth p tree s))) ∙ e) in
            map_pairs table depth p pairs found.0 shallow (subst (IsTree depth p) found.1 s) c

    pub map_of_tree : (table : Table) (depth : ℕ) (p : Placed) (pairs : List Pair) → depth ≤ 32 → read_map table depth p ≡ Ok pairs → HasPairs depth p pairs
    map_of_tree table depth p pairs shallow c = at (whole depth p) refl c
      where
        at : (answer : Read Placed) → whole depth p ≡ answer → (answer >>= check_map table) ≡ Ok pairs → HasPairs depth p pairs
        at (Err refusal) e c = cc
        at (Ok q) e c =
            let found = whole_tree wholes depth p q e in
            checked_tree table depth p pairs found.1.0 shallow found.1.1 (rw found.0 at c)

    pub bucket_of_tree : (depth : ℕ) (p : Placed) (pairs : List Pair) → depth ≤ 32 → bucket_of depth p ≡ Ok pairs → ((p.bytes ≡ []) × (pairs ≡ [])) ⊎ HasPairs depth p pairs
    unfolding bucket_of
    bucket_of_tree depth p pairs shallow c = at (length p.bytes == 0) refl c
      where
        at : (b : Bool) → (length p.bytes == 0) ≡ b → (if b then Ok [] else read_map bucket_table depth p) ≡ Ok pairs → ((p.bytes ≡ []) × (pairs ≡ [])) ⊎ HasPairs depth p pairs
        at true e c = inl (no_bytes p.bytes e, let same : [] ≡ pairs = cc in sym same)
        at false e c = inr (map_of_tree bucket_table depth p pairs shallow c)

    pub key_of_tree : (p : Placed) (key : KeyValue) → key_of p ≡ Ok key →
        (pairs : List Pair) × HasPairs 8 p pairs × (material_of p pairs ≡ Ok key.material) × (key ≡ key_with pairs key.material)
    unfolding key_of
    key_of_tree p key c = at (read_map key_table 8 p) refl c
      where
        made : (pairs : List Pair) (answer : Read MaterialValue) → material_of p pairs ≡ answer → (answer >>= λ material. Ok (key_with pairs material)) ≡ Ok key →
            (material_of p pairs ≡ Ok key.material) × (key ≡ key_with pairs key.material)
        made pairs (Err refusal) e c = cc
        made pairs (Ok material) e c =
            let same : key_with pairs material ≡ key = cc in
            (e ∙ ap Ok (ap (λ k. k.material) same), sym same ∙ ap (λ m. key_with pairs m) (ap (λ k. k.material) same))

        at : (answer : Read (List Pair)) → read_map key_table 8 p ≡ answer → (answer >>= λ pairs. (material_of p pairs >>= λ material. Ok (key_with pairs material))) ≡ Ok key →
            (pairs : List Pair) × HasPairs 8 p pairs × (material_of p pairs ≡ Ok key.material) × (key ≡ key_with pairs key.material)
        at (Err refusal) e c = cc
        at (Ok pairs) e c = let parts = made pairs (material_of p pairs) refl c in (pairs, map_of_tree key_table 8 p pairs (omega arith) e, parts.0, parts.1)
