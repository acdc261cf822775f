-- The content of a claim's string is a range of the payload.
use Rattle.std.proofs.Common.{◌≡◌, ℕ, suc, ◌+◌, ◌-◌, ◌≤◌, Bool, true, false, List, [], ◌∷◌, length, take, drop, Option, Some, None, Result, Ok, Err, refl, sym, ap, subst, ◌∙◌, arith}
use Rattle.std.proofs.lemmas.Bool.Decides.{nat_tests}
use Rattle.std.proofs.lemmas.List.{length-drop}
use Rattle.std.specs.List.{AllByRecursion}
use Rattle.std.specs.Prelude.{nat_eq, is_some, min, ◌==◌, ◌^◌, option_and_then}
use Rattle.std.specs.Str.{is_utf8}
use Rattle.cose_head.specs.declared.head.Head.{Head}
use Rattle.cose_head.specs.declared.item.Span.{Span}
use Rattle.cose_head.specs.declared.refusal.Refusal.{Refusal}
use Rattle.cose_head.specs.Placed.{Placed, bytes_in, children_of, head_of_item, if_utf8, is_an_array, look, look_with, span_at, text_in}
use Rattle.cose_head.specs.PlacedLaws.{ChildrenEndInside, EndsBy, end_of}
use Rattle.cose_head.specs.Reading.{read, head}
use Rattle.cose_head.proofs.lemmas.Placed.Placed.{bytes_found, no_bytes, no_text, text_found}
use Rattle.cose_map.specs.Label.{LabelValue}
use Rattle.cose_map.specs.Laws.Tree.{items_of}
use Rattle.cose_map.specs.Map.Pairs.{Pair, is_named, value_of}
use Rattle.cose_cwt.specs.Claims.{ClaimsValue, claims_of, text_before, texts_at, texts_from, texts_of}
use Rattle.cose_cwt.specs.Claims.Labels as names
use Rattle.cose_cwt.specs.Laws.{ClaimsAreOfTree}
use Rattle.cose_c.specs.declared.cose_claims.CoseRange.{CoseRange}
use Rattle.cose_c.specs.Message.{Covers}
use Rattle.cose_c.specs.CoseClaims.{IsWithin, LiesIn, Ranges, StartsInside, audience_item, bytes_range, content_range, element_numbered, first_in, first_with, text_at, text_numbered, text_range}
use Rattle.cose_c.proofs.Dates.{looks}
use Rattle.cose_c.proofs.Parts.{Part, children_part, drop_taken, drop_twice, taken_all, taken_short, taken_twice, within}

-- ---- the content of a string

if_utf8_is : (content text : List ℕ) (b : Bool) → is_utf8 content ≡ b → if_utf8 content ≡ Some text → text ≡ content
if_utf8_is content text true e is = let some : if_utf8 content ≡ Some content = rw e refl in cc
if_utf8_is content text false e is = let none : if_utf8 content ≡ None = rw e refl in absurd cc

text_is : (h : Head) (rest text : List ℕ) (b : Bool) → nat_eq h.major 3 ≡ b → text_in (look_with h rest) ≡ Some text → text ≡ take h.arg rest
text_is h rest text true e is =
    let three : h.major ≡ 3 = grind (arith, nat_tests) in
    if_utf8_is (take h.arg rest) text (is_utf8 (take h.arg rest)) refl (sym (text_found h rest three) ∙ is)
text_is h rest text false e is =
    let other = no_text h rest (λ three. let yes : nat_eq h.major 3 ≡ true = rw three refl in absurd cc) in
    absurd cc

bytes_are : (h : Head) (rest content : List ℕ) (b : Bool) → nat_eq h.major 2 ≡ b → bytes_in (look_with h rest) ≡ Some content → content ≡ take h.arg rest
bytes_are h rest content true e is =
    let two : h.major ≡ 2 = grind (arith, nat_tests) in
    let found = bytes_found h rest two in cc
bytes_are h rest content false e is =
    let other = no_bytes h rest (λ two. let yes : nat_eq h.major 2 ≡ true = rw two refl in absurd cc) in
    absurd cc

text_content : (p : Placed) (text : List ℕ) → text_in (look p) ≡ Some text → text ≡ take (head_of_item p).arg (drop (head_of_item p).width p.bytes)
text_content p text is = text_is (head_of_item p) _ text (nat_eq (head_of_item p).major 3) refl (sym (ap text_in (looks p (head_of_item p) refl)) ∙ is)

pub bytes_content : (p : Placed) (content : List ℕ) → bytes_in (look p) ≡ Some content → content ≡ take (head_of_item p).arg (drop (head_of_item p).width p.bytes)
bytes_content p content is = bytes_are (head_of_item p) _ content (nat_eq (head_of_item p).major 2) refl (sym (ap bytes_in (looks p (head_of_item p) refl)) ∙ is)

-- ---- its place

-- Of a part of the payload that ends within it, the bytes at a place.
covers_part : (payload : List ℕ) (p : Placed) (content : List ℕ) (width count at : ℕ) → Part (record { bytes = payload; place = 0 }) p → end_of p ≤ length payload →
    content ≡ take count (drop width p.bytes) → at ≡ p.place + width → at ≤ end_of p → Covers payload content at (length content)
covers_part payload p content width count at part ends is place inside =
    let cut : content ≡ take count (take (part.count - width) (drop (part.offset + width) payload)) =
    is ∙ ap (λ (l : List ℕ). take count (drop width l)) part.cut
    ∙ ap (take count) (drop_taken width part.count (drop part.offset payload) ∙ ap (take (part.count - width)) (drop_twice width part.offset payload)) in
    let one = taken_twice count (part.count - width) (drop (part.offset + width) payload) in
    let here : part.offset + width ≡ at = omega (arith, part.at, place) in
    let whole : content ≡ take one.0 (drop at payload) = cut ∙ one.1 ∙ ap (λ (n : ℕ). take one.0 (drop n payload)) here in
    let short : length (take one.0 (drop at payload)) ≤ length (drop at payload) = taken_short one.0 (drop at payload) in
    let left : length (drop at payload) ≡ length payload - at = length-drop at payload in
    let count_of : length content ≡ length (take one.0 (drop at payload)) = ap length whole in
    record {
      inside = omega (arith, short, left, count_of, inside, ends);
      has = ap (λ (n : ℕ). take n (drop at payload)) count_of ∙ taken_all one.0 (drop at payload) ∙ sym whole;
    }

-- ---- the value of a claim

found_first : (P : Placed → Type 0) (name : LabelValue) (pair : Pair) (pairs : List Pair) (b : Bool) → is_named name pair ≡ b → P pair.value →
    ((v : Placed) → value_of name pairs ≡ Some v → P v) → (v : Placed) → value_of name (pair ∷ pairs) ≡ Some v → P v
found_first P name pair pairs true e this others v is =
    let first : value_of name (pair ∷ pairs) ≡ Some pair.value = rw e refl in
    let same : pair.value ≡ v = cc in
    subst P same this
found_first P name pair pairs false e this others v is =
    let later : value_of name (pair ∷ pairs) ≡ value_of name pairs = rw e refl in
    others v (sym later ∙ is)

found_value : (P : Placed → Type 0) (name : LabelValue) (pairs : List Pair) → AllByRecursion P (items_of pairs) → (v : Placed) → value_of name pairs ≡ Some v → P v
found_value P name [] all v is = absurd cc
found_value P name (pair ∷ pairs) all v is = found_first P name pair pairs (is_named name pair) refl all.1.0 (found_value P name pairs all.1.1) v is

-- ---- the elements of an audience

element_next : (P : Placed → Type 0) (n : ℕ) (x : Placed) (xs : List Placed) (zero text : Bool) → (n == 0) ≡ zero → is_some (text_in (look x)) ≡ text → P x →
    ((e : Placed) → element_numbered (n - 1) xs ≡ Some e → P e) → (e : Placed) → element_numbered n (x ∷ xs) ≡ Some e → P e
element_next P n x xs true text z t this others e is =
    let here : element_numbered n (x ∷ xs) ≡ Some x = rw z refl in
    let same : x ≡ e = cc in
    subst P same this
element_next P n x xs false true z t this others e is =
    let later : element_numbered n (x ∷ xs) ≡ element_numbered (n - 1) xs = rw (z, t) refl in
    others e (sym later ∙ is)
element_next P n x xs false false z t this others e is =
    let none : element_numbered n (x ∷ xs) ≡ None = rw (z, t) refl in
    absurd cc

found_element : (P : Placed → Type 0) (n : ℕ) (items : List Placed) → AllByRecursion P items → (e : Placed) → element_numbered n items ≡ Some e → P e
found_element P n [] all e is = absurd cc
found_element P n (x ∷ xs) all e is = element_next P n x xs (n == 0) (is_some (text_in (look x))) refl refl all.0 (found_element P (n - 1) xs all.1) e is

text_next : (n : ℕ) (x : Placed) (xs : List Placed) (zero : Bool) (text : Option (List ℕ)) → (n == 0) ≡ zero → text_in (look x) ≡ text →
    option_and_then (λ e. text_in (look e)) (element_numbered (n - 1) xs) ≡ text_numbered (n - 1) (texts_from xs) →
    option_and_then (λ e. text_in (look e)) (element_numbered n (x ∷ xs)) ≡ text_numbered n (text_before (texts_from xs) text)
text_next n x xs true None z t others = rw (z, t) refl
text_next n x xs true (Some text) z t others = rw (z, t) refl
text_next n x xs false None z t others = rw (z, t) refl
text_next n x xs false (Some text) z t others = rw (z, t) others

elements_text : (n : ℕ) (items : List Placed) → option_and_then (λ e. text_in (look e)) (element_numbered n items) ≡ text_numbered n (texts_from items)
unfolding texts_from
elements_text n [] = refl
elements_text n (x ∷ xs) = text_next n x xs (n == 0) (text_in (look x)) refl refl (elements_text (n - 1) xs) ∙ ap (λ (t : Option (List ℕ)). text_numbered n (text_before (texts_from xs) t)) refl

one_text : (n : ℕ) (text : Option (List ℕ)) → (n == 0) ≡ true → text_numbered n (text_before [] text) ≡ text
one_text n None z = refl
one_text n (Some text) z = rw z refl

no_text_numbered : (n : ℕ) (text : Option (List ℕ)) → (n == 0) ≡ false → text_numbered n (text_before [] text) ≡ None
no_text_numbered n None z = refl
no_text_numbered n (Some text) z = rw z refl

-- ---- the number of an audience's text strings

pub no_texts : length (texts_from []) ≡ 0
unfolding texts_from
no_texts = refl

counted_before : (others : List (List ℕ)) (text : Option (List ℕ)) → is_some text ≡ true → length (text_before others text) ≡ suc (length others)
counted_before others None some = absurd cc
counted_before others (Some text) some = refl

pub text_counted : (x : Placed) (xs : List Placed) → is_some (text_in (look x)) ≡ true → length (texts_from (x ∷ xs)) ≡ suc (length (texts_from xs))
unfolding texts_from
text_counted x xs some = counted_before (texts_from xs) (text_in (look x)) some

none_before : (others : List (List ℕ)) (text : Option (List ℕ)) → is_some text ≡ false → length (text_before others text) ≡ 0
none_before others None none = refl
none_before others (Some text) none = absurd cc

pub texts_ended : (x : Placed) (xs : List Placed) → is_some (text_in (look x)) ≡ false → length (texts_from (x ∷ xs)) ≡ 0
unfolding texts_from
texts_ended x xs none = none_before (texts_from xs) (text_in (look x)) none

-- A count that is at most 2^64 - 1, of the text strings so far, and those that are left.
module _ (count total : ℕ) (items others : List Placed) (x : Placed) (steps : items ≡ x ∷ others) (so_far : min (count + length (texts_from items)) (2 ^ 64 - 1) ≡ total) where
  pub counts_on : (added : ℕ) → is_some (text_in (look x)) ≡ true → added ≡ min (count + 1) (2 ^ 64 - 1) → min (added + length (texts_from others)) (2 ^ 64 - 1) ≡ total
  counts_on added some is =
      let one : length (texts_from items) ≡ suc (length (texts_from others)) = ap (λ (l : List Placed). length (texts_from l)) steps ∙ text_counted x others some in
      grind (arith)

  pub counts_end : is_some (text_in (look x)) ≡ false → count ≤ 2 ^ 64 - 1 → count ≡ total
  counts_end none few =
      let zero_left : length (texts_from items) ≡ 0 = ap (λ (l : List Placed). length (texts_from l)) steps ∙ texts_ended x others none in
      grind (arith)

pub counts_all : (count total : ℕ) (items : List Placed) → items ≡ [] → min (count + length (texts_from items)) (2 ^ 64 - 1) ≡ total → count ≤ 2 ^ 64 - 1 → count ≡ total
counts_all count total items none so_far few =
    let zero_left : length (texts_from items) ≡ 0 = ap (λ (l : List Placed). length (texts_from l)) none ∙ no_texts in
    grind (arith)

present_as_counted : (v : Placed) (text : Option (List ℕ)) (range : CoseRange) → range ≡ content_range v text → range.present ≡ min (length (text_before [] text)) (2 ^ 64 - 1)
present_as_counted v None range e = ap (λ (r : CoseRange). r.present) e
present_as_counted v (Some text) range e = ap (λ (r : CoseRange). r.present) e

pub several_counted : (v : Placed) → is_an_array (look v) ≡ true → texts_of v ≡ texts_from (children_of v)
several_counted v array = rw array refl

pub one_counted : (v : Placed) (range : CoseRange) → is_an_array (look v) ≡ false → range ≡ text_range (Some v) → range.present ≡ min (length (texts_of v)) (2 ^ 64 - 1)
one_counted v range single e = rw single (present_as_counted v (text_in (look v)) range e)

module _ (tree : ClaimsAreOfTree) (ends : ChildrenEndInside) (depth : ℕ) (payload : List ℕ) (claims : ClaimsValue) (shallow : depth ≤ 32)
    (read : claims_of depth (record { bytes = payload; place = 0 }) ≡ Ok claims) where
  abbrev whole : Placed
  whole = record { bytes = payload; place = 0 }

  pub value_part : (name : LabelValue) (v : Placed) → value_of name claims.pairs ≡ Some v → Part whole v
  value_part name v is =
      let same : children_of whole ≡ items_of claims.pairs = sym (tree depth whole claims shallow read).are_children in
      found_value (Part whole) name claims.pairs (subst (AllByRecursion (Part whole)) same (children_part whole)) v is

  pub value_ends : (name : LabelValue) (v : Placed) → value_of name claims.pairs ≡ Some v → end_of v ≤ length payload
  value_ends name v is =
      let same : children_of whole ≡ items_of claims.pairs = sym (tree depth whole claims shallow read).are_children in
      let by : EndsBy (end_of whole) v = found_value (EndsBy (end_of whole)) name claims.pairs (subst (AllByRecursion (EndsBy (end_of whole))) same (ends whole)) v is in
      omega (arith, by)

  text_ranges : (v : Placed) (text : Option (List ℕ)) (range : CoseRange) → Part whole v → end_of v ≤ length payload → text_in (look v) ≡ text → range ≡ content_range v text →
      range.at ≤ end_of v → Ranges payload text range
  text_ranges v None range part ends is e inside = e
  text_ranges v (Some text) range part ends is e inside =
      let at : range.at ≡ v.place + (head_of_item v).width = ap (λ (r : CoseRange). r.at) e in
      let count : range.length ≡ length text = ap (λ (r : CoseRange). r.length) e in
      let covers = covers_part payload v text (head_of_item v).width (head_of_item v).arg range.at part ends (text_content v text is) at inside in
      (ap (λ (r : CoseRange). r.present) e, subst (Covers payload text range.at) (sym count) covers)

  bytes_ranges : (name : LabelValue) (v : Placed) (content : Option (List ℕ)) (range : CoseRange) → value_of name claims.pairs ≡ Some v → bytes_in (look v) ≡ content → range ≡ content_range v content →
      range.at ≤ end_of v → Ranges payload content range
  bytes_ranges name v None range found is e inside = e
  bytes_ranges name v (Some content) range found is e inside =
      let at : range.at ≡ v.place + (head_of_item v).width = ap (λ (r : CoseRange). r.at) e in
      let count : range.length ≡ length content = ap (λ (r : CoseRange). r.length) e in
      let covers = covers_part payload v content (head_of_item v).width (head_of_item v).arg range.at (value_part name v found) (value_ends name v found) (bytes_content v content is) at inside in
      (ap (λ (r : CoseRange). r.present) e, subst (Covers payload content range.at) (sym count) covers)

  pub text_claim_range : (name : LabelValue) (value : Option Placed) (range : CoseRange) → value_of name claims.pairs ≡ value → range ≡ text_range value → StartsInside value range →
      Ranges payload (option_and_then (λ v. text_in (look v)) value) range
  text_claim_range name None range found e inside = e
  text_claim_range name (Some v) range found e inside = text_ranges v (text_in (look v)) range (value_part name v found) (value_ends name v found) refl e inside

  pub bytes_claim_range : (name : LabelValue) (value : Option Placed) (range : CoseRange) → value_of name claims.pairs ≡ value → range ≡ bytes_range value → StartsInside value range →
      Ranges payload (option_and_then (λ v. bytes_in (look v)) value) range
  bytes_claim_range name None range found e inside = e
  bytes_claim_range name (Some v) range found e inside = bytes_ranges name v (bytes_in (look v)) range found refl e inside

  -- A range of the confirmation is within the payload.
  pub cnf_range : (value : Option Placed) (range : CoseRange) → value_of names.cnf claims.pairs ≡ value → LiesIn value range → IsWithin payload range
  cnf_range None range found e =
      let at : range.at ≡ 0 = ap (λ (r : CoseRange). r.at) e in
      let count : range.length ≡ 0 = ap (λ (r : CoseRange). r.length) e in
      omega (arith, at, count)
  cnf_range (Some v) range found inside = let ends = value_ends names.cnf v found in omega (arith, ends, inside)

  of_element : (v : Placed) (found : Option Placed) (range : CoseRange) → Part whole v → end_of v ≤ length payload → ((x : Placed) → found ≡ Some x → Part v x) → ((x : Placed) → found ≡ Some x → end_of x ≤ end_of v) →
      range ≡ text_range found → StartsInside found range → Ranges payload (option_and_then (λ x. text_in (look x)) found) range
  of_element v None range part inner p q e inside = e
  of_element v (Some x) range part inner p q e inside =
      let by = q x refl in
      text_ranges x (text_in (look x)) range (within whole v x part (p x refl)) (omega (arith, by, inner)) refl e inside

  audience_of : (n : ℕ) (v : Placed) (array : Bool) (first : Bool) (range : CoseRange) → value_of names.aud claims.pairs ≡ Some v → is_an_array (look v) ≡ array → (n == 0) ≡ first →
      range ≡ text_range (audience_item n (Some v)) → StartsInside (audience_item n (Some v)) range → Ranges payload (text_numbered n (texts_of v)) range
  audience_of n v true first range found is zero e inside =
      let item : audience_item n (Some v) ≡ element_numbered n (children_of v) = rw is refl in
      let texts : texts_of v ≡ texts_from (children_of v) = rw is refl in
      let p = λ (x : Placed) (among : element_numbered n (children_of v) ≡ Some x). found_element (Part v) n (children_of v) (children_part v) x among in
      let q = λ (x : Placed) (among : element_numbered n (children_of v) ≡ Some x). found_element (EndsBy (end_of v)) n (children_of v) (ends v) x among in
      subst (λ (t : Option (List ℕ)). Ranges payload t range) (elements_text n (children_of v) ∙ ap (text_numbered n) (sym texts))
      (of_element v (element_numbered n (children_of v)) range (value_part names.aud v found) (value_ends names.aud v found) p q (e ∙ ap text_range item) (subst (λ (i : Option Placed). StartsInside i range) item inside))
  audience_of n v false true range found is zero e inside =
      let item : audience_item n (Some v) ≡ Some v = rw (is, zero) refl in
      let texts : text_numbered n (texts_of v) ≡ text_in (look v) = rw is (one_text n (text_in (look v)) zero) in
      subst (λ (t : Option (List ℕ)). Ranges payload t range) (sym texts)
      (text_ranges v (text_in (look v)) range (value_part names.aud v found) (value_ends names.aud v found) refl (e ∙ ap text_range item) (subst (λ (i : Option Placed). StartsInside i range) item inside))
  audience_of n v false false range found is zero e inside =
      let item : audience_item n (Some v) ≡ None = rw (is, zero) refl in
      let texts : text_numbered n (texts_of v) ≡ None = rw is (no_text_numbered n (text_in (look v)) zero) in
      subst (λ (t : Option (List ℕ)). Ranges payload t range) (sym texts) (e ∙ ap text_range item)

  pub audience_range : (n : ℕ) (value : Option Placed) (range : CoseRange) → value_of names.aud claims.pairs ≡ value → range ≡ text_range (audience_item n value) → StartsInside (audience_item n value) range →
      Ranges payload (text_numbered n (texts_at value)) range
  audience_range n None range found e inside = e
  audience_range n (Some v) range found e inside = audience_of n v (is_an_array (look v)) (n == 0) range found refl refl e inside

-- ---- a text string at a place

-- The item that the bytes from a place on begin with is a part of the payload, which ends within it.
module _ (payload : List ℕ) (place count : ℕ) (item : Placed) (here : place ≤ length payload) (is : item ≡ record { bytes = take count (drop place payload); place = place }) where
  pub part_here : Part (record { bytes = payload; place = 0 }) item
  part_here = record { offset = place; count = count; at = ap (λ (p : Placed). p.place) is ∙ omega arith; cut = ap (λ (p : Placed). p.bytes) is }

  pub ends_here : end_of item ≤ length payload
  ends_here =
      let at : item.place ≡ place = ap (λ (p : Placed). p.place) is in
      let count_of : length item.bytes ≡ length (take count (drop place payload)) = ap (λ (p : Placed). length p.bytes) is in
      let short : length (take count (drop place payload)) ≤ length (drop place payload) = taken_short count (drop place payload) in
      let left : length (drop place payload) ≡ length payload - place = length-drop place payload in
      omega (arith, at, count_of, short, left, here)

  text_here : (text : Option (List ℕ)) (range : CoseRange) → text_in (look item) ≡ text → range ≡ content_range item text → range.at ≤ end_of item → Ranges payload text range
  text_here None range found e inside = e
  text_here (Some text) range found e inside =
      let at : range.at ≡ item.place + (head_of_item item).width = ap (λ (r : CoseRange). r.at) e in
      let size : range.length ≡ length text = ap (λ (r : CoseRange). r.length) e in
      let covers = covers_part payload item text (head_of_item item).width (head_of_item item).arg range.at part_here ends_here (text_content item text found) at inside in
      (ap (λ (r : CoseRange). r.present) e, subst (Covers payload text range.at) (sym size) covers)

ranges_first : (payload : List ℕ) (place : ℕ) (range : CoseRange) → place ≤ length payload → (span : Result Span Refusal) →
    range ≡ text_range (first_with (record { bytes = drop place payload; place = place }) span) → StartsInside (first_with (record { bytes = drop place payload; place = place }) span) range →
    Ranges payload (option_and_then (λ item. text_in (look item)) (first_with (record { bytes = drop place payload; place = place }) span)) range
ranges_first payload place range here (Ok span) e inside =
    let item : Placed = record { bytes = take span.length (drop place payload); place = place } in
    text_here payload place span.length item here refl (text_in (look item)) range refl e inside
ranges_first payload place range here (Err refusal) e inside = e

pub ranges_at : (payload : List ℕ) (place : ℕ) (found : Option Placed) (range : CoseRange) → place ≤ length payload → found ≡ first_in (record { bytes = drop place payload; place = place }) →
    range ≡ text_range found → StartsInside found range → Ranges payload (text_at payload place) range
ranges_at payload place found range here is e inside =
    ranges_first payload place range here (span_at (drop place payload)) (e ∙ ap text_range is) (subst (λ (f : Option Placed). StartsInside f range) is inside)

-- No item is where no byte is.
pub none_at : (payload : List ℕ) (place : ℕ) → drop place payload ≡ [] → text_at payload place ≡ None
unfolding read head
none_at payload place none = rw none refl

pub nothing_left : (xs : List ℕ) → (length xs == 0) ≡ true → xs ≡ []
nothing_left [] none = refl
nothing_left (x ∷ xs) none = let zero : length (x ∷ xs) ≡ 0 = grind (arith, nat_tests) in absurd (omega (arith, zero))

pub not_past : (n p k : ℕ) → k ≡ n - p → (k == 0) ≡ false → p ≤ n
not_past n p k left some = grind (arith, nat_tests)
