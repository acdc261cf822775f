-- What an item is, by its major type.
use Rattle.std.proofs.Common.{◌≡◌, ◌≢◌, ◌<◌, ℕ, ◌+◌, pos, negsuc, Bool, true, false, List, [], take, drop, Option, Some, None, refl, ap, ◌∙◌, arith, ⊎_elim, ◌≤◌, Result, Ok, Err}
use Rattle.std.specs.Prelude.{nat_lt, ◌==◌, if◌then◌else◌, IsUtf8, option_map}
use Rattle.std.specs.Str.{is_utf8}
use Rattle.std.specs.Result.{MatchResult, result_ok}
use Rattle.std.proofs.lemmas.Bool.{cases_Bool}
use Rattle.std.proofs.lemmas.Bool.Decides.{nat_tests}
use Rattle.std.proofs.lemmas.Str.{IsUtf8-from_is_utf8, is_utf8-from_IsUtf8}
use Rattle.cose_head.specs.declared.head.Head.{Head}
use Rattle.cose_head.specs.declared.head.HeadStep.TheVariants.{Got}
use Rattle.cose_head.specs.Head.{bare_head}
use Rattle.cose_head.specs.Reading.{child_count}
use Rattle.cose_head.specs.Placed.{Placed, look_with, simple_look, integer_in, bytes_in, text_in, if_utf8, is_a_text, truth_in, is_an_array, is_a_map, is_a_float, head_of_item, has_children, children_of, past_head, children_if_any, items_from}
use Rattle.cose_head.proofs.lemmas.Head.Heads.{got_width}

pub unsigned_found : (h : Head) (rest : List ℕ) → h.major ≡ 0 → integer_in (look_with h rest) ≡ Some (pos h.arg)
unsigned_found h rest e = rw e refl

pub negative_found : (h : Head) (rest : List ℕ) → h.major ≡ 1 → integer_in (look_with h rest) ≡ Some (negsuc h.arg)
negative_found h rest e = rw e refl

pub no_integer : (h : Head) (rest : List ℕ) → h.major ≢ 0 → h.major ≢ 1 → integer_in (look_with h rest) ≡ None
no_integer h rest p q = grind (arith, nat_tests)

pub bytes_found : (h : Head) (rest : List ℕ) → h.major ≡ 2 → bytes_in (look_with h rest) ≡ Some (take h.arg rest)
bytes_found h rest e = rw e refl

pub no_bytes : (h : Head) (rest : List ℕ) → h.major ≢ 2 → bytes_in (look_with h rest) ≡ None
no_bytes h rest p = grind (arith, nat_tests)

pub text_found : (h : Head) (rest : List ℕ) → h.major ≡ 3 → text_in (look_with h rest) ≡ if_utf8 (take h.arg rest)
text_found h rest e = rw e refl

pub no_text : (h : Head) (rest : List ℕ) → h.major ≢ 3 → text_in (look_with h rest) ≡ None
no_text h rest p = grind (arith, nat_tests)

pub any_text_found : (h : Head) (rest : List ℕ) → is_a_text (look_with h rest) ≡ (h.major == 3)
any_text_found h rest = grind (arith, nat_tests)

pub no_truth : (h : Head) (rest : List ℕ) → h.major < 7 → truth_in (look_with h rest) ≡ None
no_truth h rest below = grind (arith, nat_tests)

pub truth_found : (h : Head) (rest : List ℕ) → 7 ≤ h.major → truth_in (look_with h rest) ≡ truth_in (simple_look h)
truth_found h rest from = grind (arith, nat_tests)

float_simple : (h : Head) → is_a_float (simple_look h) ≡ nat_lt 2 h.width
float_simple h = grind (arith, nat_tests)

pub float_found : (h : Head) (rest : List ℕ) → 7 ≤ h.major → is_a_float (look_with h rest) ≡ nat_lt 2 h.width
float_found h rest p =
    let a : h.major == 0 ≡ false = grind (arith, nat_tests) in
    let b : h.major == 1 ≡ false = grind (arith, nat_tests) in
    let c : h.major == 2 ≡ false = grind (arith, nat_tests) in
    let d : h.major == 3 ≡ false = grind (arith, nat_tests) in
    let e : h.major == 4 ≡ false = grind (arith, nat_tests) in
    let f : h.major == 5 ≡ false = grind (arith, nat_tests) in
    let g : h.major == 6 ≡ false = grind (arith, nat_tests) in
    rw (a, b, c, d, e, f, g) (float_simple h)

pub no_float : (h : Head) (rest : List ℕ) → h.major < 7 → is_a_float (look_with h rest) ≡ false
no_float h rest p = grind (arith, nat_tests)

pub array_found : (h : Head) (rest : List ℕ) → is_an_array (look_with h rest) ≡ (h.major == 4)
array_found h rest = grind (arith, nat_tests)

pub map_found : (h : Head) (rest : List ℕ) → is_a_map (look_with h rest) ≡ (h.major == 5)
map_found h rest = grind (arith, nat_tests)

-- texts
utf8_found : (bytes : List ℕ) → IsUtf8 bytes → Some bytes ≡ if_utf8 bytes
utf8_found bytes u = rw (is_utf8-from_IsUtf8 bytes u) refl

no_utf8 : (bytes : List ℕ) → (IsUtf8 bytes → ⊥) → None ≡ if_utf8 bytes
no_utf8 bytes u = ⊎_elim (λ t. absurd (u (IsUtf8-from_is_utf8 bytes t))) (λ f. rw f refl) (cases_Bool (is_utf8 bytes))

pub utf8_read : {S E : Type 0} (bytes : List ℕ) (now : S → List ℕ) (found : Result S E) (Fails : E → Type 0) →
    MatchResult found (λ text. (now text ≡ bytes) × IsUtf8 bytes) (λ fault. (IsUtf8 bytes → ⊥) × Fails fault) →
    option_map now (result_ok found) ≡ if_utf8 bytes
utf8_read bytes now (Ok text) Fails read = rw read.0 (utf8_found bytes read.1)
utf8_read bytes now (Err fault) Fails read = no_utf8 bytes read.0

-- children
announced : (b : Bool) (n left : ℕ) (p : Placed) → Some left ≡ (if b then Some n else None) → Some (items_from left p) ≡ (if b then Some (if b then items_from n p else []) else None)
announced true n left p e = let same : left ≡ n = cc in rw same refl
announced false n left p e = cc

pub children_found : (bytes rest : List ℕ) (place used left : ℕ) (h : Head) → Got h used ≡ bare_head bytes → rest ≡ drop used bytes →
    Some left ≡ (if has_children h then Some (child_count h) else None) →
    Some (items_from left (record { bytes = rest; place = place + used })) ≡ children_if_any (record { bytes = bytes; place = place })
unfolding head_of_item children_of
children_found bytes rest place used left h e after found =
    let width : used ≡ h.width = got_width bytes h used e in
    rw (after, ← e, width) (announced (has_children h) (child_count h) left (record { bytes = drop h.width bytes; place = place + h.width }) found)

-- the children of an item that may have none
abbrev pub listed : Option (List Placed) → List Placed
listed None = []
listed (Some items) = items

all_children : (p : Placed) → listed (children_if_any p) ≡ children_of p
unfolding children_of
all_children p = elim (has_children (head_of_item p)) as (λ b. listed (if b then Some (if b then items_from (child_count (head_of_item p)) (past_head (head_of_item p) p) else []) else None) ≡ (if b then items_from (child_count (head_of_item p)) (past_head (head_of_item p) p) else [])) [ true ↦ refl | false ↦ refl ]

pub its_children : (p : Placed) (items : List Placed) → Some items ≡ children_if_any p → items ≡ children_of p
its_children p items e = ap listed e ∙ all_children p

pub no_children : (p : Placed) → None ≡ children_if_any p → [] ≡ children_of p
no_children p e = ap listed e ∙ all_children p
