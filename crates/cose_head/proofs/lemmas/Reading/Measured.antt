-- What the reader of spans finds is what `read` gives.
use Rattle.std.proofs.Common.{◌≡◌, ℕ, zero, suc, ◌+◌, ◌-◌, ◌<◌, ◌≤◌, max, Bool, true, false, List, length, take, drop, Option, Some, None, Result, Ok, Err, if◌then◌else◌, refl, sym, ap, ◌∙◌, arith, ⊎_elim}
use Rattle.std.proofs.lemmas.List.{drop-drop}
use Rattle.std.proofs.lemmas.Bool.{le-ltb, cases_Bool}
use Rattle.std.proofs.lemmas.Bool.Decides.{nat_tests}
use Rattle.std.specs.Prelude.{nat_lt, ◌==◌}
use Rattle.cose_head.specs.declared.head.Head.{Head}
use Rattle.cose_head.specs.declared.refusal.Refusal.{Refusal}
use Rattle.cose_head.specs.declared.reason.Reason.TheVariants.{PastRoom}
use Rattle.cose_head.specs.Item.{Item, unsigned, negative, byte_string, text_string, simple, float, array, map, tag, Items, no_items, item, depth_of, deepest}
use Rattle.cose_head.specs.Reading.{Left, Outcome, Reader, after, refuse, ◌>>=◌, string, string_item, is_string, is_parent, leaf, body, parent, children, child_count, list_item, read_all, read_with, read, head}
use Rattle.cose_head.specs.Measured.{nesting, nesting_all, children_allowed}

pub after-after : (n m : ℕ) (l : Left) → after m (after n l) ≡ after (n + m) l
after-after n m l =
    let b : drop m (drop n l.bytes) ≡ drop (n + m) l.bytes = drop-drop m n l.bytes in
    let r : l.room - n - m ≡ l.room - (n + m) = omega arith in
    let p : l.place + n + m ≡ l.place + (n + m) = omega arith in
    rw (b, r, p) refl

-- the reader of the children at an allowance
abbrev pub inner : ℕ → Option (Reader Item)
inner zero = None
inner (suc depth) = Some (read depth)

pub read_is : (depth : ℕ) (l : Left) → read depth l ≡ read_with (inner depth) l
unfolding read
read_is zero l = refl
read_is (suc depth) l = refl

pub read_past_head : (depth : ℕ) (l : Left) (h : Head) (rest : Left) → head l ≡ Ok (h, rest) → read depth l ≡ body (inner depth) l.place h rest
read_past_head depth l h rest e = read_is depth l ∙ rw e refl

pub read_no_head : (depth : ℕ) (l : Left) (refusal : Refusal) → head l ≡ Err refusal → read depth l ≡ Err refusal
read_no_head depth l refusal e = read_is depth l ∙ rw e refl

flat_string : (h : Head) (content : List ℕ) → depth_of (string_item h content) ≡ 0
unfolding depth_of
flat_string h content = elim (h.major == 2) as
    (λ b. depth_of (if b then byte_string content else text_string content) ≡ 0) [ true ↦ refl | false ↦ refl ]

flat_leaf : (h : Head) → depth_of (leaf h) ≡ 0
unfolding depth_of
flat_leaf h =
    elim (h.major == 0) as (λ a. depth_of
    (if a then unsigned h.arg else if h.major == 1 then negative h.arg else if nat_lt h.width 3 then simple h.arg else float
    (h.width - 1) h.arg) ≡ 0) [
      | true ↦ refl
      | false ↦ elim (h.major == 1) as
          (λ b. depth_of (if b then negative h.arg else if nat_lt h.width 3 then simple h.arg else float (h.width - 1) h.arg) ≡ 0) [
            | true ↦ refl
            | false ↦ elim (nat_lt h.width 3) as
                (λ c. depth_of (if c then simple h.arg else float (h.width - 1) h.arg) ≡ 0) [ true ↦ refl | false ↦ refl ]
          ]
    ]

pub string_whole : (place : ℕ) (h : Head) (l : Left) → h.arg ≤ l.room → h.arg ≤ length l.bytes → Ok (0, after h.arg l) ≡ nesting (string place h l)
string_whole place h l fits there =
    let a : nat_lt l.room h.arg ≡ false = le-ltb _ _ fits in
    let b : nat_lt (length l.bytes) h.arg ≡ false = le-ltb _ _ there in
    rw (a, b, flat_string h (take h.arg l.bytes)) refl

-- the nesting is greater by one
abbrev pub deeper : Outcome ℕ → Outcome ℕ
deeper (Ok found) = Ok (1 + found.0, found.1)
deeper (Err refusal) = Err refusal

-- the deeper of a number and of the items found
abbrev pub raised : ℕ → Outcome ℕ → Outcome ℕ
raised depth (Ok found) = Ok (max depth found.0, found.1)
raised depth (Err refusal) = Err refusal

pub parent_refused : (depth place : ℕ) (h : Head) (l : Left) (refusal : Refusal) → children_allowed h l.room depth place ≡ Err refusal →
    parent (inner depth) place h l ≡ Err refusal
parent_refused zero place h l refusal e = cc
parent_refused (suc depth) place h l refusal e =
    let s : suc depth == 0 ≡ false = grind (arith, nat_tests) in
    refused (nat_lt l.room (child_count h)) (rw s at e)
  where
    refused : (past : Bool) → (if past then Err (record { reason = PastRoom; place = place }) else Ok (child_count h)) ≡ Err refusal →
        (if past then refuse PastRoom place else children (read depth) h l) ≡ Err refusal
    refused true e = cc
    refused false e = cc

joined : (first : Item) (others : Outcome Items) → nesting_all (others >>= λ found. Ok (item first found.0, found.1)) ≡ raised
    (depth_of first) (nesting_all others)
unfolding depth_of
joined first (Ok found) = refl
joined first (Err refusal) = refl

nested_list : (h : Head) (found : Outcome Items) → nesting (found >>= λ items. Ok (list_item h items.0, items.1)) ≡ deeper (nesting_all found)
unfolding depth_of
nested_list h (Ok found) = elim (h.major == 4) as
    (λ b. nesting (Ok (if b then array found.0 else map found.0, found.1)) ≡ Ok (1 + deepest found.0, found.1)) [ true ↦ refl | false ↦ refl ]
nested_list h (Err refusal) = refl

nested_tag : (n : ℕ) (found : Outcome Item) → nesting (found >>= λ content. Ok (tag n content.0, content.1)) ≡ deeper
    (nesting_all (found >>= λ first. Ok (item first.0 no_items, first.1)))
unfolding depth_of
nested_tag n (Ok found) = let e : max (depth_of found.0) 0 ≡ depth_of found.0 = omega arith in rw e refl
nested_tag n (Err refusal) = refl

children_nested : (one : Reader Item) (h : Head) (l : Left) → is_parent h ≡ true →
    nesting (children one h l) ≡ deeper (nesting_all (read_all one (child_count h) l))
children_nested one h l p = ⊎_elim tagged listed (cases_Bool (h.major == 6))
  where
    tagged : h.major == 6 ≡ true → nesting (children one h l) ≡ deeper (nesting_all (read_all one (child_count h) l))
    tagged six =
        let four : h.major == 4 ≡ false = grind (arith, nat_tests) in
        let five : h.major == 5 ≡ false = grind (arith, nat_tests) in
        rw (six, four, five) (nested_tag h.arg (one l))

    listed : h.major == 6 ≡ false → nesting (children one h l) ≡ deeper (nesting_all (read_all one (child_count h) l))
    listed six = rw six (nested_list h (read_all one (child_count h) l))

parent_counted : (depth place count : ℕ) (h : Head) (l : Left) → is_parent h ≡ true → children_allowed h l.room depth place ≡ Ok count →
    nesting (parent (inner depth) place h l) ≡ deeper (nesting_all (read_all (read (depth - 1)) count l))
parent_counted zero place count h l p e = cc
parent_counted (suc depth) place count h l p e =
    let s : suc depth == 0 ≡ false = grind (arith, nat_tests) in
    let d : suc depth - 1 ≡ depth = omega arith in
    rw d (counted (nat_lt l.room (child_count h)) (rw s at e))
  where
    counted : (past : Bool) → ◌≡◌ {A = Result ℕ Refusal}
        (if past then Err (record { reason = PastRoom; place = place }) else Ok (child_count h)) (Ok count) →
        nesting (if past then refuse PastRoom place else children (read depth) h l) ≡ deeper (nesting_all (read_all (read depth) count l))
    counted true e = cc
    counted false e = let same : child_count h ≡ count = cc in rw (← same) (children_nested (read depth) h l p)

-- an item, by what follows its head
pub item_refused : (depth : ℕ) (l : Left) (refusal : Refusal) → Err refusal ≡ head l → Err refusal ≡ nesting (read depth l)
item_refused depth l refusal e = sym (ap nesting (read_no_head depth l refusal (sym e)))

item_body : (depth : ℕ) (l : Left) (h : Head) → Ok (h, after h.width l) ≡ head l →
    nesting (read depth l) ≡ nesting (body (inner depth) l.place h (after h.width l))
item_body depth l h e = ap nesting (read_past_head depth l h (after h.width l) (sym e))

pub item_leaf : (depth : ℕ) (l : Left) (h : Head) → Ok (h, after h.width l) ≡ head l → is_string h ≡ false → is_parent h ≡ false →
    Ok (0, after h.width l) ≡ nesting (read depth l)
item_leaf depth l h e s p = sym (item_body depth l h e ∙ rw (s, p, flat_leaf h) refl)

pub item_string : (depth : ℕ) (l : Left) (h : Head) → Ok (h, after h.width l) ≡ head l → is_string h ≡ true →
    nesting (read depth l) ≡ nesting (string l.place h (after h.width l))
item_string depth l h e s = item_body depth l h e ∙ rw s refl

pub item_childless : (depth : ℕ) (l : Left) (h : Head) (refusal : Refusal) → Ok (h, after h.width l) ≡ head l → is_string h ≡ false →
    is_parent h ≡ true →
    children_allowed h (l.room - h.width) depth l.place ≡ Err refusal → Err refusal ≡ nesting (read depth l)
item_childless depth l h refusal e s p r =
    sym (item_body depth l h e ∙ rw (s, p) (ap nesting (parent_refused depth l.place h (after h.width l) refusal r)))

pub item_parent : (depth count : ℕ) (l : Left) (h : Head) → Ok (h, after h.width l) ≡ head l → is_string h ≡ false → is_parent h ≡ true →
    children_allowed h (l.room - h.width) depth l.place ≡ Ok count →
    nesting (read depth l) ≡ deeper (nesting_all (read_all (read (depth - 1)) count (after h.width l)))
item_parent depth count l h e s p r =
    item_body depth l h e ∙ rw (s, p) (parent_counted depth l.place count h (after h.width l) p r)

pub same_ok : {A : Type 0} (x y : A) → ◌≡◌ {A = Result A Refusal} (Ok x) (Ok y) → x ≡ y
same_ok x y e = cc

-- items one after another
next_item : (one : Reader Item) (n : ℕ) (depth : ℕ) (rest : Left) (found : Outcome Item) → Ok (depth, rest) ≡ nesting found →
    nesting_all (found >>= λ first. read_all one n first.1 >>= λ others. Ok (item first.0 others.0, others.1)) ≡ raised depth
    (nesting_all (read_all one n rest))
next_item one n depth rest (Ok found) e =
    let p = same_ok _ _ e in
    let d : depth_of found.0 ≡ depth = sym (ap (λ x. x.0) p) in
    let r : found.1 ≡ rest = sym (ap (λ x. x.1) p) in
    joined found.0 (read_all one n found.1) ∙ rw (d, r) refl
next_item one n depth rest (Err refusal) e = cc

raised-raised : (n m : ℕ) (found : Outcome ℕ) → raised n (raised m found) ≡ raised (max n m) found
raised-raised n m (Ok found) = let e : max n (max m found.0) ≡ max (max n m) found.0 = omega arith in rw e refl
raised-raised n m (Err refusal) = refl

-- the result for the items that are left, with the nesting and the length so far
abbrev pub onward : Reader Item → ℕ → ℕ → ℕ → Left → Outcome ℕ
onward one most count length l = raised most (nesting_all (read_all one count (after length l)))

pub items_go_on : (one : Reader Item) (most index count length : ℕ) (l : Left) (depth n : ℕ) → index < count →
    Ok (depth, after n (after length l)) ≡ nesting (one (after length l)) →
    onward one most (count - index) length l ≡ onward one (max most depth) (count - (index + 1)) (length + n) l
items_go_on one most index count length l depth n more e =
    let c : count - index ≡ suc (count - (index + 1)) = omega arith in
    rw (c, ← after-after length n l)
    (ap (raised most) (next_item one (count - (index + 1)) depth (after n (after length l)) (one (after length l)) e)
    ∙ raised-raised most depth (nesting_all (read_all one (count - (index + 1)) (after n (after length l)))))

pub items_end : (one : Reader Item) (most count length : ℕ) (l : Left) → onward one most (count - count) length l ≡ Ok (most, after length l)
unfolding deepest
items_end one most count length l =
    let c : count - count ≡ 0 = omega arith in
    let m : max most 0 ≡ most = omega arith in
    rw (c, m) refl
