-- The places of the faults of maps, buckets and keys: never after the bytes that were read.
use Rattle.std.specs.Prelude.{◌≡◌, ◌⊎◌, ℕ, ◌≤◌, max, List, Ok, IfErr, IfSome}
use Rattle.std.specs.List.{AllByRecursion}
use Rattle.cose_head.specs.Placed.{Placed}
use Rattle.cose_head.specs.PlacedLaws.{end_of, EndsBy}
use Rattle.cose_map.specs.Bucket.{bucket_of}
use Rattle.cose_map.specs.Key.{key_of}
use Rattle.cose_map.specs.Key.Okp.{okp_of}
use Rattle.cose_map.specs.Label.{LabelValue}
use Rattle.cose_map.specs.Map.Read.{Read, check_map, read_map}
use Rattle.cose_map.specs.Map.Form.{Table}
use Rattle.cose_map.specs.Map.Pairs.{Pair, pair_of}
use Rattle.cose_map.specs.Bucket.Both.{pair_fault}

-- A refusal's place is no later than a place.
abbrev pub RefusedBy : {A : Type 0} → ℕ → Read A → Type 0
RefusedBy end answer = IfErr answer (λ refusal. refusal.place ≤ end)

abbrev pub MapIsRefusedInside : Type 0
MapIsRefusedInside = (table : Table) (p : Placed) → RefusedBy (end_of p) (check_map table p)

abbrev pub ReadIsRefusedInside : Type 0
ReadIsRefusedInside = (table : Table) (depth : ℕ) (p : Placed) → RefusedBy (end_of p) (read_map table depth p)

abbrev pub BucketIsRefusedInside : Type 0
BucketIsRefusedInside = (depth : ℕ) (p : Placed) → RefusedBy (end_of p) (bucket_of depth p)

abbrev pub KeyIsRefusedInside : Type 0
KeyIsRefusedInside = (p : Placed) → RefusedBy (end_of p) (key_of p)

abbrev pub OkpKeyIsRefusedInside : Type 0
OkpKeyIsRefusedInside = (p : Placed) → RefusedBy (end_of p) (okp_of p)

-- The label and the value of a pair end by a place, and those of several pairs do.
abbrev pub PairEndsBy : ℕ → Pair → Type 0
PairEndsBy end pair = EndsBy end pair.label × EndsBy end pair.value

abbrev pub PairsEndBy : ℕ → List Pair → Type 0
PairsEndBy end pairs = AllByRecursion (PairEndsBy end) pairs

-- The pair that a map that was read has for a label ends within the map's bytes.
abbrev pub FoundEndsInside : Type 0
FoundEndsInside = (table : Table) (p : Placed) (pairs : List Pair) (name : LabelValue) → check_map table p ≡ Ok pairs →
    IfSome (pair_of name pairs) (PairEndsBy (end_of p))

-- The pairs of a bucket are within its bytes.
abbrev pub BucketEndsInside : Type 0
BucketEndsInside = (depth : ℕ) (p : Placed) (pairs : List Pair) → bucket_of depth p ≡ Ok pairs → PairsEndBy (end_of p) pairs

-- The place of a fault of two buckets together is no later than the later of their ends, or it is the place after both.
abbrev pub PairIsRefusedInside : Type 0
PairIsRefusedInside = (protected unprotected : List Pair) (understood : List LabelValue) (protected_end unprotected_end after : ℕ) →
    PairsEndBy protected_end protected → PairsEndBy unprotected_end unprotected →
    IfSome (pair_fault protected unprotected understood after) (λ refusal. (refusal.place ≤ max protected_end unprotected_end) ⊎ (refusal.place ≡ after))
