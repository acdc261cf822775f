-- The spelling of an item in which every head has the least width that holds its argument (RFC 8949 section 4.2.1,
-- RFC 9052 section 9). It is meant for items without simple values and floats, which structures to be signed don't have.
use Rattle.std.specs.Prelude.{◌≡◌, ℕ, ◌*◌, ◌/◌, ◌<◌, ◌≤◌, ◌^◌, List, [], ◌++◌, length, get_or}
use Rattle.cose_head.specs.Head.{shortest_head}
use Rattle.cose_head.specs.Item.{Item, unsigned, negative, byte_string, text_string, array, map, tag, simple, float, Items, no_items, item, count_of, Spells}

unfoldable mutual
  pub shortest : Item → List ℕ
  shortest (unsigned n) = shortest_head 0 n
  shortest (negative n) = shortest_head 1 n
  shortest (byte_string content) = shortest_head 2 (length content) ++ content
  shortest (text_string content) = shortest_head 3 (length content) ++ content
  shortest (array items) = shortest_head 4 (count_of items) ++ shortest_all items
  shortest (map items) = shortest_head 5 (count_of items / 2) ++ shortest_all items
  shortest (tag n content) = shortest_head 6 n ++ shortest content
  shortest (simple n) = []
  shortest (float width bits) = []

  pub shortest_all : Items → List ℕ
  shortest_all no_items = []
  shortest_all (item first others) = shortest first ++ shortest_all others

-- What has a shortest spelling: each argument fits in eight bytes, and the items of a map are pairs.
unfoldable mutual
  pub HasShortest : Item → Type 0
  HasShortest (unsigned n) = n < 2 ^ 64
  HasShortest (negative n) = n < 2 ^ 64
  HasShortest (byte_string content) = length content < 2 ^ 64
  HasShortest (text_string content) = length content < 2 ^ 64
  HasShortest (array items) = (count_of items < 2 ^ 64) × HaveShortest items
  HasShortest (map items) = (pairs : ℕ) × (pairs < 2 ^ 64) × (2 * pairs ≡ count_of items) × HaveShortest items
  HasShortest (tag n content) = (n < 2 ^ 64) × HasShortest content
  HasShortest (simple n) = ⊥
  HasShortest (float width bits) = ⊥

  pub HaveShortest : Items → Type 0
  HaveShortest no_items = Unit {0}
  HaveShortest (item first others) = HasShortest first × HaveShortest others

abbrev pub ShortestIsSpelled : Type 0
ShortestIsSpelled = (content : Item) → HasShortest content → Spells (shortest content) content

abbrev pub AreBytes : List ℕ → Type 0
AreBytes bytes = (i : ℕ) → get_or bytes i 0 < 2 ^ 8

-- And no bytes that spell the item are fewer.
abbrev pub ShortestIsLeast : Type 0
ShortestIsLeast = (content : Item) (bytes : List ℕ) → AreBytes bytes → Spells bytes content → length (shortest content) ≤ length bytes
