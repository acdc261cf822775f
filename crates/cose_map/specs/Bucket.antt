-- Header buckets (RFC 9052 sections 3 and 3.1).
pub mod Header
pub mod Form
pub mod Both
pub mod View
use Rattle.std.specs.Prelude.{ℕ, List, [], length, Option, Ok, ◌==◌, if◌then◌else◌, option_map, option_and_then}
use Rattle.cose_head.specs.Placed.{Placed, look, bytes_in, children_of}
use Rattle.cose_head.specs.Whole.{whole}
use Rattle.cose_map.specs.Bucket.Form.{bucket_table}
use Rattle.cose_map.specs.Bucket.Header.{alg, crit, kid}
use Rattle.cose_map.specs.Label.{LabelValue, label_of}
use Rattle.cose_map.specs.Map.Pairs.{Pair, value_of, pairs_of}
use Rattle.cose_map.specs.Map.Read.{Read, read_map, ◌>>=◌}

-- The pairs of a bucket, or its first fault. Zero bytes are the empty bucket (RFC 9052 section 3).
unfoldable pub bucket_of : ℕ → Placed → Read (List Pair)
bucket_of depth p = if length p.bytes == 0 then Ok [] else read_map bucket_table depth p

-- The pairs of bytes that are one item, without the checks of a bucket: neither the type of the item, nor the labels and the
-- forms of their values. They are those of the bucket where that has no fault.
unfoldable pub unchecked_of : ℕ → Placed → Read (List Pair)
unchecked_of depth p = if length p.bytes == 0 then Ok [] else do
  item ← whole depth p
  Ok (pairs_of (children_of item))

-- The parameters of a bucket, from its pairs.
abbrev pub alg_of : List Pair → Option LabelValue
alg_of pairs = option_and_then label_of (value_of alg pairs)

abbrev pub kid_of : List Pair → Option (List ℕ)
kid_of pairs = option_and_then (λ value. bytes_in (look value)) (value_of kid pairs)

-- The elements of crit, if it is present.
abbrev pub crit_of : List Pair → Option (List Placed)
crit_of pairs = option_map children_of (value_of crit pairs)
