-- The reasons for which maps, buckets, keys, key sets, two buckets together and the choice of the key are refused.
use Rattle.std.specs.Prelude.{◌≢◌, ℕ, List, [], ◌∷◌, ◌++◌, IfErr, IfSome}
use Rattle.std.specs.List.{Contains}
use Rattle.cose_head.specs.declared.reason.Reason.{Reason}
use Rattle.cose_head.specs.declared.reason.Reason.TheVariants.{Truncated, NotMap, BadLabel, DuplicateLabel, BothBuckets, BadValue, CritUnprotected, CritAbsent, CritUnknown, BothIvs, NoAlg, UnknownAlg, AlgUnprotected, NoKey, AmbiguousKey, BadKeySet, UnknownKey}
use Rattle.cose_head.specs.Reason.{whole_reasons}
use Rattle.cose_head.specs.Placed.{Placed}
use Rattle.cose_map.specs.Bucket.{bucket_of}
use Rattle.cose_map.specs.Choice.{Question, chosen}
use Rattle.cose_map.specs.Key.{key_of}
use Rattle.cose_map.specs.KeySet.{keys_of}
use Rattle.cose_map.specs.Key.Value.{KeyValue}
use Rattle.cose_map.specs.Label.{LabelValue}
use Rattle.cose_map.specs.Map.Read.{Read, check_map, read_map}
use Rattle.cose_map.specs.Map.Form.{Table}
use Rattle.cose_map.specs.Map.Pairs.{Pair}
use Rattle.cose_map.specs.Bucket.Both.{pair_fault}

-- An item that must be a map of labels, none twice (RFC 9052 section 3). The table of the values adds its own.
abbrev pub map_reasons : List Reason
map_reasons = NotMap ∷ BadLabel ∷ DuplicateLabel ∷ []

-- A header bucket (RFC 9052 section 3).
abbrev pub bucket_reasons : List Reason
bucket_reasons = whole_reasons ++ (map_reasons ++ BadValue ∷ [])

-- A key (RFC 9052 section 7).
abbrev pub key_reasons : List Reason
key_reasons = whole_reasons ++ (map_reasons ++ BadValue ∷ UnknownKey ∷ [])

-- A key set (RFC 9052 section 7).
abbrev pub key_set_reasons : List Reason
key_set_reasons = whole_reasons ++ BadKeySet ∷ []

-- The two buckets of a message together (RFC 9052 sections 3 and 3.1).
abbrev pub pair_reasons : List Reason
pair_reasons = BothBuckets ∷ CritUnprotected ∷ CritAbsent ∷ CritUnknown ∷ BothIvs ∷ []

-- The choice of the key (RFC 9052 section 7.1).
abbrev pub choice_reasons : List Reason
choice_reasons = NoAlg ∷ UnknownAlg ∷ AlgUnprotected ∷ NoKey ∷ AmbiguousKey ∷ []

-- A refusal has one of these reasons.
abbrev pub RefusedFor : {A : Type 0} → List Reason → Read A → Type 0
RefusedFor reasons answer = IfErr answer (λ refusal. Contains reasons refusal.reason)

-- The fault that a table finds in a value has one of these reasons.
abbrev pub FindsFaults : List Reason → Table → Type 0
FindsFaults reasons table = (name : LabelValue) (value : Placed) → IfSome (table name value) (Contains reasons)

abbrev pub MapIsRefusedFor : Type 0
MapIsRefusedFor = (reasons : List Reason) (table : Table) → FindsFaults reasons table → (p : Placed) →
    RefusedFor (map_reasons ++ reasons) (check_map table p)

abbrev pub ReadIsRefusedFor : Type 0
ReadIsRefusedFor = (reasons : List Reason) (table : Table) → FindsFaults reasons table → (depth : ℕ) (p : Placed) →
    RefusedFor (whole_reasons ++ (map_reasons ++ reasons)) (read_map table depth p)

abbrev pub BucketIsRefusedFor : Type 0
BucketIsRefusedFor = (depth : ℕ) (p : Placed) → RefusedFor bucket_reasons (bucket_of depth p)

abbrev pub KeyIsRefusedFor : Type 0
KeyIsRefusedFor = (p : Placed) → RefusedFor key_reasons (key_of p)

abbrev pub KeySetIsRefusedFor : Type 0
KeySetIsRefusedFor = (bytes : List ℕ) → RefusedFor key_set_reasons (keys_of bytes)

abbrev pub PairIsRefusedFor : Type 0
PairIsRefusedFor = (protected unprotected : List Pair) (understood : List LabelValue) (after : ℕ) →
    IfSome (pair_fault protected unprotected understood after) (λ refusal. Contains pair_reasons refusal.reason)

abbrev pub ChoiceIsRefusedFor : Type 0
ChoiceIsRefusedFor = (q : Question) (keys : List KeyValue) → IfErr (chosen q keys) (Contains choice_reasons)

-- So none of these refusals is Truncated.
abbrev pub BucketIsNotTruncated : Type 0
BucketIsNotTruncated = (depth : ℕ) (p : Placed) → IfErr (bucket_of depth p) (λ refusal. refusal.reason ≢ Truncated)

abbrev pub KeyIsNotTruncated : Type 0
KeyIsNotTruncated = (p : Placed) → IfErr (key_of p) (λ refusal. refusal.reason ≢ Truncated)

abbrev pub KeySetIsNotTruncated : Type 0
KeySetIsNotTruncated = (bytes : List ℕ) → IfErr (keys_of bytes) (λ refusal. refusal.reason ≢ Truncated)

abbrev pub PairIsNotTruncated : Type 0
PairIsNotTruncated = (protected unprotected : List Pair) (understood : List LabelValue) (after : ℕ) →
    IfSome (pair_fault protected unprotected understood after) (λ refusal. refusal.reason ≢ Truncated)

abbrev pub ChoiceIsNotTruncated : Type 0
ChoiceIsNotTruncated = (q : Question) (keys : List KeyValue) → IfErr (chosen q keys) (λ reason. reason ≢ Truncated)
