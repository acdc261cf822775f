-- A walk by what follows the head.
use Rattle.std.proofs.Common.{◌≡◌, ℕ, zero, suc, ◌+◌, ◌<◌, ◌≤◌, Bool, true, false, length, take, Option, Some, None, Ok, Err, refl, sym, ap, ◌∙◌, arith}
use Rattle.std.proofs.lemmas.Bool.{lt-ltb, le-ltb}
use Rattle.std.proofs.lemmas.Bool.Decides.{nat_tests}
use Rattle.std.specs.Prelude.{nat_lt, ◌==◌, if◌then◌else◌}
use Rattle.cose_head.specs.declared.head.Head.{Head}
use Rattle.cose_head.specs.declared.reason.Reason.TheVariants.{Truncated, TooDeep, PastRoom}
use Rattle.cose_head.specs.declared.refusal.Refusal.{Refusal}
use Rattle.cose_head.specs.Item.{Item, no_items, item, tag}
use Rattle.cose_head.specs.Reading.{Left, Outcome, Reader, refuse, after, is_string, is_parent, child_count, string_item, list_item, children, string, body, read, read_all, head, ◌>>=◌}
use Rattle.cose_head.specs.Open.{Open, nothing_open, open_all, past_head, open_in}
use Rattle.cose_head.specs.Walking.{walk_end, ends, walk, walk_all, walk_content, refused}
use Rattle.cose_head.proofs.lemmas.Walker.Walking.{end_of-made}

pub walk-refused : (depth : ℕ) (l : Left) (refusal : Refusal) → head l ≡ Err refusal
    → walk depth l ≡ record { end = Err refusal; opened = nothing_open }
unfolding walk read open_in
walk-refused zero l refusal e = rw e refl
walk-refused (suc depth) l refusal e = rw e refl

pub walk-leaf : (depth : ℕ) (l rest : Left) (h : Head) → head l ≡ Ok (h, rest) → is_string h ≡ false
    → is_parent h ≡ false → walk depth l ≡ ends rest
unfolding walk read open_in
walk-leaf zero l rest h e no_string no_parent = rw (e, no_string, no_parent) refl
walk-leaf (suc depth) l rest h e no_string no_parent = rw (e, no_string, no_parent) refl

-- a string
end_of-string : (b : Bool) (place : ℕ) (t : Item) (l : Left)
    → walk_end (if b then refuse Truncated place else Ok (t, l)) ≡ (if b then refused Truncated place else Ok l)
end_of-string true place t l = refl
end_of-string false place t l = refl

string_walk : (place : ℕ) (h : Head) (l : Left) → h.arg ≤ l.room
    → walk_end (string place h l) ≡ (walk_content h.arg l).end
string_walk place h l fits =
    let roomy : nat_lt l.room h.arg ≡ false = le-ltb _ _ fits in
    rw roomy (end_of-string (nat_lt (length l.bytes) h.arg) (l.place + length l.bytes) (string_item h (take h.arg l.bytes)) (after h.arg l))

content_walk : (place : ℕ) (h : Head) (l : Left) (one : Option (Reader Item)) (open_children : ℕ → Left → Open)
    → is_string h ≡ true → h.arg ≤ l.room
    → record { end = walk_end (body one place h l); opened = past_head open_children (Ok (h, l)) } ≡ walk_content h.arg l
content_walk place h l one open_children is fits =
    let e = string_walk place h l fits in
    rw (is, e) refl

pub walk-content : (depth : ℕ) (l rest : Left) (h : Head) → head l ≡ Ok (h, rest) → is_string h ≡ true
    → h.arg ≤ rest.room
    → walk depth l ≡ walk_content h.arg rest
unfolding walk read open_in
walk-content zero l rest h e is fits = rw e (content_walk l.place h rest None (λ n rest. nothing_open) is fits)
walk-content (suc depth) l rest h e is fits = rw e (content_walk l.place h rest (Some (read depth)) (open_all (read depth) (open_in depth)) is fits)

pub walk-content_past : (depth : ℕ) (l rest : Left) (h : Head) → head l ≡ Ok (h, rest) → is_string h ≡ true
    → rest.room < h.arg
    → (walk depth l).end ≡ refused PastRoom l.place
unfolding walk read
walk-content_past zero l rest h e is past = let tight : nat_lt rest.room h.arg ≡ true = lt-ltb _ _ past in rw (e, is, tight) refl
walk-content_past (suc depth) l rest h e is past = let tight : nat_lt rest.room h.arg ≡ true = lt-ltb _ _ past in rw (e, is, tight) refl

-- children
pub walk-deep : (l rest : Left) (h : Head) → head l ≡ Ok (h, rest) → is_string h ≡ false → is_parent h ≡ true
    → (walk 0 l).end ≡ refused TooDeep l.place
unfolding walk read
walk-deep l rest h e no_string is = rw (e, no_string, is) refl

pub walk-children_past : (depth : ℕ) (l rest : Left) (h : Head) → head l ≡ Ok (h, rest) → is_string h ≡ false
    → is_parent h ≡ true
    → rest.room < child_count h → (walk (suc depth) l).end ≡ refused PastRoom l.place
unfolding walk read
walk-children_past depth l rest h e no_string is past =
    let tight : nat_lt rest.room (child_count h) ≡ true = lt-ltb _ _ past in rw (e, no_string, is, tight) refl

by_child : (r : Outcome Item) → walk_end (r >>= λ first. Ok (item first.0 no_items, first.1)) ≡ walk_end r
by_child r = end_of-made r (λ t. item t no_items)

read_one : (one : Reader Item) (l : Left) → walk_end (read_all one 1 l) ≡ walk_end (one l)
read_one one l = by_child (one l)

tag_has_one : (h : Head) → (h.major == 6) ≡ true → child_count h ≡ 1
tag_has_one h e = grind (arith, nat_tests)

by_kind : (b : Bool) (one : Reader Item) (h : Head) (l : Left) → (b ≡ true → child_count h ≡ 1)
    → walk_end (if b then (one l >>= λ content. Ok (tag h.arg content.0, content.1)) else (read_all one (child_count h) l >>= λ items. Ok (list_item h items.0, items.1)))
    ≡ walk_end (read_all one (child_count h) l)
by_kind true one h l one_child = end_of-made (one l) (tag h.arg) ∙ sym (read_one one l)
    ∙ ap (λ n. walk_end (read_all one n l)) (sym (one_child refl))
by_kind false one h l one_child = end_of-made (read_all one (child_count h) l) (list_item h)

children_walk : (one : Reader Item) (h : Head) (l : Left)
    → walk_end (children one h l) ≡ walk_end (read_all one (child_count h) l)
children_walk one h l = by_kind (h.major == 6) one h l (tag_has_one h)

pub walk-children : (depth : ℕ) (l rest : Left) (h : Head) → head l ≡ Ok (h, rest) → is_string h ≡ false
    → is_parent h ≡ true
    → child_count h ≤ rest.room → walk (suc depth) l ≡ walk_all depth (child_count h) rest
unfolding walk walk_all read open_in
walk-children depth l rest h e no_string is fits =
    let roomy : nat_lt rest.room (child_count h) ≡ false = le-ltb _ _ fits in
    let same = children_walk (read depth) h rest in
    rw (e, no_string, is, roomy, same) refl
