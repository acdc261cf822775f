-- The range of an item in the payload has the item's bytes.
use Rattle.std.proofs.Common.{◌≡◌, ℕ, ◌≤◌, List, [], length, take, drop, Option, Some, None, Result, Ok, Err, refl, sym, ap, ◌∙◌, arith}
use Rattle.cose_head.specs.declared.item.Span.{Span}
use Rattle.cose_head.specs.declared.refusal.Refusal.{Refusal}
use Rattle.cose_head.specs.Placed.{Placed, span_at}
use Rattle.cose_head.specs.PlacedLaws.{ChildrenEndInside, end_of}
use Rattle.cose_head.specs.Reading.{read, head}
use Rattle.cose_map.specs.Label.{LabelValue}
use Rattle.cose_map.specs.Map.Pairs.{value_of}
use Rattle.cose_map.specs.Map.Read.{Read}
use Rattle.cose_cwt.specs.Claims.{ClaimsValue, claims_of}
use Rattle.cose_cwt.specs.Laws.{ClaimsAreOfTree}
use Rattle.cose_c.specs.declared.item.CoseItem.{CoseItem}
use Rattle.cose_c.specs.CoseClaims.{first_with}
use Rattle.cose_c.specs.Item.{HoldsItem, claim_in, item_at, item_numbers}
use Rattle.cose_c.proofs.Parts.{Part, taken_all}
use Rattle.cose_c.proofs.Strings.{ends_here, part_here, value_ends, value_part}

-- A part of the payload is covered by its place and its count.
part_holds : (payload : List ℕ) (item : Placed) (numbers : CoseItem) → Part (record { bytes = payload; place = 0 }) item → end_of item ≤ length payload →
    numbers ≡ item_numbers (Some item) → HoldsItem payload (Some item) numbers
part_holds payload item numbers part ends is =
    let at : numbers.at ≡ item.place = ap (λ (n : CoseItem). n.at) is in
    let count : numbers.length ≡ length item.bytes = ap (λ (n : CoseItem). n.length) is in
    let offset : numbers.at ≡ part.offset = omega (arith, at, part.at) in
    let long : length item.bytes ≡ length (take part.count (drop part.offset payload)) = ap length part.cut in
    let cut : take (length item.bytes) (drop part.offset payload) ≡ item.bytes =
    ap (λ (n : ℕ). take n (drop part.offset payload)) long ∙ taken_all part.count (drop part.offset payload) ∙ sym part.cut in
    record {
      inside = omega (arith, at, count, ends);
      has = ap (λ (n : ℕ). take n (drop numbers.at payload)) count ∙ ap (λ (n : ℕ). take (length item.bytes) (drop n payload)) offset ∙ cut;
    }

-- ---- the claim of a label

value_holds : ClaimsAreOfTree → ChildrenEndInside → (depth : ℕ) (payload : List ℕ) (claims : ClaimsValue) → depth ≤ 32 →
    claims_of depth (record { bytes = payload; place = 0 }) ≡ Ok claims → (label : LabelValue) (value : Option Placed) (numbers : CoseItem) →
    value_of label claims.pairs ≡ value → numbers ≡ item_numbers value → HoldsItem payload value numbers
value_holds tree ends depth payload claims shallow read label None numbers found is = is
value_holds tree ends depth payload claims shallow read label (Some item) numbers found is =
    part_holds payload item numbers (value_part tree ends depth payload claims shallow read label item found) (value_ends tree ends depth payload claims shallow read label item found) is

pub claim_holds : ClaimsAreOfTree → ChildrenEndInside → (depth : ℕ) (payload : List ℕ) → depth ≤ 32 → (label : LabelValue) (numbers : CoseItem) (read : Read ClaimsValue) →
    claims_of depth (record { bytes = payload; place = 0 }) ≡ read → numbers ≡ item_numbers (claim_in label read) → HoldsItem payload (claim_in label read) numbers
claim_holds tree ends depth payload shallow label numbers (Ok claims) read is =
    value_holds tree ends depth payload claims shallow read label (value_of label claims.pairs) numbers refl is
claim_holds tree ends depth payload shallow label numbers (Err refusal) read is = is

-- ---- the item at a place

first_holds : (payload : List ℕ) (place : ℕ) (numbers : CoseItem) → place ≤ length payload → (span : Result Span Refusal) →
    numbers ≡ item_numbers (first_with (record { bytes = drop place payload; place = place }) span) → HoldsItem payload (first_with (record { bytes = drop place payload; place = place }) span) numbers
first_holds payload place numbers here (Ok span) is =
    let item : Placed = record { bytes = take span.length (drop place payload); place = place } in
    part_holds payload item numbers (part_here payload place span.length item here refl) (ends_here payload place span.length item here refl) is
first_holds payload place numbers here (Err refusal) is = is

pub item_holds : (payload : List ℕ) (place : ℕ) (numbers : CoseItem) → place ≤ length payload → numbers ≡ item_numbers (item_at payload place) → HoldsItem payload (item_at payload place) numbers
item_holds payload place numbers here is = first_holds payload place numbers here (span_at (drop place payload)) is

-- No item is where no byte is.
pub no_item_at : (payload : List ℕ) (place : ℕ) → drop place payload ≡ [] → item_at payload place ≡ None
unfolding read head
no_item_at payload place none = rw none refl
