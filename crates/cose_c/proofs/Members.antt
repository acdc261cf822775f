-- The strings of a confirmation are within its item.
use Rattle.std.proofs.Common.{◌≡◌, ℕ, ◌+◌, ◌≤◌, List, length, take, drop, Option, Some, None, Ok, refl, ap, arith}
use Rattle.std.proofs.lemmas.List.{length-drop}
use Rattle.std.specs.Prelude.{IfSome}
use Rattle.cose_head.specs.Placed.{Placed, bytes_in, head_of_item, look}
use Rattle.cose_head.specs.PlacedLaws.{end_of}
use Rattle.cose_map.specs.Label.{LabelValue}
use Rattle.cose_map.specs.Laws.Inside.{FoundEndsInside, PairEndsBy}
use Rattle.cose_map.specs.Map.Pairs.{Pair, pair_of, value_of}
use Rattle.cose_map.specs.Map.Read.{check_map}
use Rattle.cose_c.specs.declared.cose_claims.CoseRange.{CoseRange}
use Rattle.cose_c.specs.CoseClaims.{EndsIn, LiesIn, StartsInside, any_value, bytes_range, content_range, no_range}
use Rattle.cose_c.proofs.Parts.{taken_short}
use Rattle.cose_c.proofs.Strings.{bytes_content}

-- No range is within any item.
pub none_lies : (item : Placed) (range : CoseRange) → range ≡ no_range → LiesIn (Some item) range
none_lies item range e =
    let at : range.at ≡ 0 = ap (λ (r : CoseRange). r.at) e in
    let count : range.length ≡ 0 = ap (λ (r : CoseRange). r.length) e in
    omega (arith, at, count)

-- The content of a byte string is within its item.
content_lies : (p : Placed) (content : Option (List ℕ)) (range : CoseRange) → bytes_in (look p) ≡ content → range ≡ content_range p content → range.at ≤ end_of p → LiesIn (Some p) range
content_lies p None range is e inside = none_lies p range e
content_lies p (Some content) range is e inside =
    let at : range.at ≡ p.place + (head_of_item p).width = ap (λ (r : CoseRange). r.at) e in
    let count : range.length ≡ length content = ap (λ (r : CoseRange). r.length) e in
    let has : length content ≡ length (take (head_of_item p).arg (drop (head_of_item p).width p.bytes)) = ap length (bytes_content p content is) in
    let short : length (take (head_of_item p).arg (drop (head_of_item p).width p.bytes)) ≤ length (drop (head_of_item p).width p.bytes) = taken_short (head_of_item p).arg (drop (head_of_item p).width p.bytes) in
    let left = length-drop (head_of_item p).width p.bytes in
    omega (arith, at, count, has, short, left, inside)

-- The value of a member ends within the map.
value_inside : (found : Option Pair) (pairs : List Pair) (name : LabelValue) (end : ℕ) (item : Placed) → end ≡ end_of item → pair_of name pairs ≡ found → IfSome found (PairEndsBy end) → EndsIn item (value_of name pairs)
value_inside None pairs name end item e is ends = rw is tt
value_inside (Some pair) pairs name end item e is ends = rw is (let by : end_of pair.value ≤ end = ends.1 in omega (arith, by, e))

pub member_inside : FoundEndsInside → (item : Placed) (pairs : List Pair) (name : LabelValue) (value : Option Placed) → check_map any_value item ≡ Ok pairs → value ≡ value_of name pairs → EndsIn item value
member_inside law item pairs name value read is = rw is (value_inside (pair_of name pairs) pairs name (end_of item) item refl refl (law any_value item pairs name read))

-- So is the range of its content.
pub member_lies : (item : Placed) (value : Option Placed) (range : CoseRange) → EndsIn item value → range ≡ bytes_range value → StartsInside value range → LiesIn (Some item) range
member_lies item None range ends e inside = none_lies item range e
member_lies item (Some v) range ends e inside = let here = content_lies v (bytes_in (look v)) range refl e inside in omega (arith, here, ends)
