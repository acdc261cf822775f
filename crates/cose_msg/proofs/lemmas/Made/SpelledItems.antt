-- Items that are spelled, and what is said of them in addition to the grammar.
use Rattle.std.proofs.Common.{◌≡◌, ℕ, suc, ◌+◌, ◌≤◌, List, [], ◌∷◌, ◌++◌, length, refl, sym, arith, length-append, zero-add}
use Rattle.std.specs.Prelude.{Ok}
use Rattle.std.proofs.lemmas.List.{append-nil, take_at, drop_at}
use Rattle.cose_head.specs.Item.{Item, depth_of, Spells}
use Rattle.cose_head.specs.Laws.{ReadIsSpelled}
use Rattle.cose_head.specs.Measured.{left_of}
use Rattle.cose_head.specs.Placed.{Placed, look, items_from}
use Rattle.cose_head.specs.PlacedLaws.{IsItem, ItemIsWhole, LookIsOfTree, look_of_tree}
use Rattle.cose_head.specs.Reading.{read}
use Rattle.cose_head.specs.Whole.{whole}
use Rattle.cose_msg.specs.Phases.{placed_at}

-- The laws of items that these proofs cite.
pub record ItemLaws : Type 0 where
  pub read : ReadIsSpelled
  pub whole : ItemIsWhole
  pub look : LookIsOfTree

module _ (laws : ItemLaws) where
  is_item : (depth : ℕ) (p : Placed) (tree : Item) → Spells p.bytes tree → depth_of tree ≤ depth → IsItem depth p tree
  is_item depth p tree spelled nests = record {
    rest = left_of [] 0 (p.place + length p.bytes);
    is_read = (laws.read depth (left_of p.bytes (length p.bytes) p.place) tree (left_of [] 0 (p.place + length p.bytes))).1 (
      record {
        part = p.bytes;
        whole = sym (append-nil p.bytes);
        room = omega arith;
        place = refl;
        is_part = spelled;
      },
      nests,
    );
    nothing_left = refl;
  }

  pub whole_spelled : (depth : ℕ) (p : Placed) (tree : Item) → Spells p.bytes tree → depth_of tree ≤ depth → whole depth p ≡ Ok p
  whole_spelled depth p tree spelled nests = laws.whole depth p tree (is_item depth p tree spelled nests)

  pub look_spelled : (p : Placed) (tree : Item) → Spells p.bytes tree → look p ≡ look_of_tree tree
  look_spelled p tree spelled = laws.look (depth_of tree) p tree (is_item (depth_of tree) p tree spelled (omega arith))

  -- The first of several items, before any bytes.
  pub first_spelled : (n place : ℕ) (tree : Item) (part rest : List ℕ) → Spells part tree → depth_of tree ≤ 32
      → items_from (suc n) (placed_at place (part ++ rest)) ≡ placed_at place part ∷ items_from n (placed_at (place + length part) rest)
  unfolding items_from
  first_spelled n place tree part rest spelled nests =
      let found : read 32 (left_of (part ++ rest) (length (part ++ rest)) 0) ≡ Ok (tree, left_of rest (length rest) (length part)) =
      (laws.read 32 (left_of (part ++ rest) (length (part ++ rest)) 0) tree (left_of rest (length rest) (length part))).1 (
        record {
          part = part;
          whole = refl;
          room = length-append part rest;
          place = sym (zero-add (length part));
          is_part = spelled;
        },
        nests,
      ) in
      rw (found, take_at part rest (length part) refl, drop_at part rest (length part) refl) refl
