-- How long and how deep a message may be, how many keys a key set may have, and how long the claims of a token may be.
use Rattle.std.specs.Prelude.{◌≡◌, ℕ}
use Rattle.cose_answers.specs.declared.limits.Limits.{Limits}
use Rattle.cose_answers.specs.declared.limits.Limits.TheVariants.{Small, Large}

-- The most bytes of a header bucket; how deep its items, and those of claims, may nest; the most usable keys of a key set; the
-- most bytes of the claims of a token.
pub record Room : Type 0 where
  pub header : ℕ
  pub nesting : ℕ
  pub keys : ℕ
  pub claims : ℕ

abbrev pub room_of : Limits → Room
room_of Small = record { header = 1024; nesting = 8; keys = 16; claims = 4096 }
room_of Large = record { header = 65535; nesting = 16; keys = 256; claims = 65535 }

-- These are the sizes under these limits: of header buckets, how deep they nest, and of a table of keys.
pub record AreSizesUnder (limits : Limits) (header nesting keys : ℕ) : Type 0 where
  pub header_is : (room_of limits).header ≡ header
  pub nesting_is : (room_of limits).nesting ≡ nesting
  pub keys_are : (room_of limits).keys ≡ keys
