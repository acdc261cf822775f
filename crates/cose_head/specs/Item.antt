-- Data items (RFC 8949 section 3): the values, their nesting, and the bytes that spell them.
use Rattle.std.specs.Prelude.{◌≡◌, ℕ, ◌+◌, ◌*◌, ◌<◌, ◌≤◌, ◌⊎◌, max, List, [], ◌∷◌, ◌++◌, length}
use Rattle.cose_head.specs.Head.{major_of, low_of, argument_length, argument_of}

-- A value (sections 3.1 to 3.4). negative n is the number -1 - n. A map's items are label, value, label, value.
-- A float has a width of 2, 4 or 8 bytes, and these bytes as a number.
mutual
  pub data Item : Type 0 where
    unsigned : ℕ → Item
    negative : ℕ → Item
    byte_string : List ℕ → Item
    text_string : List ℕ → Item
    array : Items → Item
    map : Items → Item
    tag : ℕ → Item → Item
    simple : ℕ → Item
    float : ℕ → ℕ → Item

  pub data Items : Type 0 where
    no_items : Items
    item : Item → Items → Items

abbrev pub count_of : Items → ℕ
count_of no_items = 0
count_of (item first others) = 1 + count_of others

-- The nesting: 0 for an item that isn't an array, map or tag; else 1 more than its deepest child, and 1 for an empty
-- array or map.
unfoldable mutual
  pub depth_of : Item → ℕ
  depth_of (unsigned n) = 0
  depth_of (negative n) = 0
  depth_of (byte_string content) = 0
  depth_of (text_string content) = 0
  depth_of (array items) = 1 + deepest items
  depth_of (map items) = 1 + deepest items
  depth_of (tag n content) = 1 + depth_of content
  depth_of (simple n) = 0
  depth_of (float width bits) = 0

  pub deepest : Items → ℕ
  deepest no_items = 0
  deepest (item first others) = max (depth_of first) (deepest others)

-- A head of a major type and an argument, of any width that holds the argument: an initial byte, and the argument bytes that it announces.
pub record IsHead (bytes : List ℕ) (major argument : ℕ) : Type 0 where
  pub initial : ℕ
  pub argument_bytes : List ℕ
  pub whole : bytes ≡ initial ∷ argument_bytes
  pub has_major : major_of initial ≡ major
  pub is_definite : low_of initial < 28
  pub has_width : length argument_bytes ≡ argument_length (low_of initial)
  pub has_argument : argument_of (low_of initial) argument_bytes ≡ argument

-- A head, and a property of the bytes after it.
pub record Begins (bytes : List ℕ) (major argument : ℕ) (IsRest : List ℕ → Type 0) : Type 0 where
  pub head : List ℕ
  pub rest : List ℕ
  pub whole : bytes ≡ head ++ rest
  pub is_head : IsHead head major argument
  pub is_rest : IsRest rest

-- The bytes that spell a value: a head with its argument, then the string, or the children in their order.
-- A simple value has one byte, or two from 32 on (section 3.3).
unfoldable mutual
  pub Spells : List ℕ → Item → Type 0
  Spells bytes (unsigned n) = IsHead bytes 0 n
  Spells bytes (negative n) = IsHead bytes 1 n
  Spells bytes (byte_string content) = Begins bytes 2 (length content) (λ rest. rest ≡ content)
  Spells bytes (text_string content) = Begins bytes 3 (length content) (λ rest. rest ≡ content)
  Spells bytes (array items) = Begins bytes 4 (count_of items) (λ rest. SpellsAll rest items)
  Spells bytes (map items) = (pairs : ℕ) × (2 * pairs ≡ count_of items) × Begins bytes 5 pairs (λ rest. SpellsAll rest items)
  Spells bytes (tag n content) = Begins bytes 6 n (λ rest. Spells rest content)
  Spells bytes (simple n) = IsHead bytes 7 n × ((length bytes ≡ 1) ⊎ ((length bytes ≡ 2) × (32 ≤ n)))
  Spells bytes (float width bits) = IsHead bytes 7 bits × (length bytes ≡ 1 + width) × ((width ≡ 2) ⊎ ((width ≡ 4) ⊎ (width ≡ 8)))

  pub SpellsAll : List ℕ → Items → Type 0
  SpellsAll bytes no_items = bytes ≡ []
  SpellsAll bytes (item first others) = (front : List ℕ) × (rest : List ℕ) × (bytes ≡ front ++ rest) × Spells front first × SpellsAll rest others
