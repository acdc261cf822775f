-- The pairs of a bucket of the code.
use Rattle.std.specs.Prelude.{List}
use Rattle.cose_map.specs.declared.bucket.Bucket.{Bucket}
use Rattle.cose_map.specs.Map.Pairs.{Pair}
use Rattle.cose_map.specs.Map.View.{pairs_left}

abbrev pub bucket_pairs : Bucket → List Pair
bucket_pairs bucket = pairs_left bucket.pairs
