-- The shortest spelling of an item spells it.
use Rattle.std.proofs.Common.{◌≡◌, ℕ, ◌*◌, ◌/◌, length, refl, arith}
use Rattle.cose_head.specs.Head.{shortest_head}
use Rattle.cose_head.specs.Item.{Item, unsigned, negative, byte_string, text_string, array, map, tag, simple, float, Items, no_items, item, count_of, Spells, SpellsAll}
use Rattle.cose_head.specs.Shortest.{shortest, shortest_all, HasShortest, HaveShortest}
use Rattle.cose_head.proofs.lemmas.Shortest.ShortHeads.{short_head_is}

mutual
  unfolding Spells shortest HasShortest

  pub shortest_spells : (content : Item) → HasShortest content → Spells (shortest content) content
  shortest_spells (unsigned n) fits = short_head_is 0 n (omega arith) fits
  shortest_spells (negative n) fits = short_head_is 1 n (omega arith) fits
  shortest_spells (byte_string content) fits =
      record {
        head = shortest_head 2 (length content);
        rest = content;
        whole = refl;
        is_head = short_head_is 2 (length content) (omega arith) fits;
        is_rest = refl;
      }
  shortest_spells (text_string content) fits =
      record {
        head = shortest_head 3 (length content);
        rest = content;
        whole = refl;
        is_head = short_head_is 3 (length content) (omega arith) fits;
        is_rest = refl;
      }
  shortest_spells (array items) fits =
      record {
        head = shortest_head 4 (count_of items);
        rest = shortest_all items;
        whole = refl;
        is_head = short_head_is 4 (count_of items) (omega arith) fits.0;
        is_rest = shortest_all_spells items fits.1;
      }
  shortest_spells (map items) fits =
      let pairs : ℕ = fits.0 in
      let even : 2 * pairs ≡ count_of items = fits.2 in
      let half : count_of items / 2 ≡ pairs = omega arith in (
        pairs,
        even,
        record {
          head = shortest_head 5 (count_of items / 2);
          rest = shortest_all items;
          whole = refl;
          is_head = rw half (short_head_is 5 pairs (omega arith) fits.1);
          is_rest = shortest_all_spells items fits.3;
        },
      )
  shortest_spells (tag n content) fits =
      record {
        head = shortest_head 6 n;
        rest = shortest content;
        whole = refl;
        is_head = short_head_is 6 n (omega arith) fits.0;
        is_rest = shortest_spells content fits.1;
      }
  shortest_spells (simple n) fits = absurd fits
  shortest_spells (float width bits) fits = absurd fits

  pub shortest_all_spells : (items : Items) → HaveShortest items → SpellsAll (shortest_all items) items
  shortest_all_spells no_items fits = refl
  shortest_all_spells (item first others) fits =
      (shortest first, shortest_all others, refl, shortest_spells first fits.0, shortest_all_spells others fits.1)
