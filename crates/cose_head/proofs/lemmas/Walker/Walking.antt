-- The rest of open items.
use Rattle.std.proofs.Common.{◌≡◌, ℕ, suc, ◌+◌, ◌-◌, ◌<◌, List, [], ◌∷◌, ◌++◌, length, Ok, Err, refl, sym, ap, ◌∙◌, arith}
use Rattle.std.proofs.lemmas.List.{length-append}
use Rattle.cose_head.specs.declared.refusal.Refusal.{Refusal}
use Rattle.cose_head.specs.Item.{Item, Items, item}
use Rattle.cose_head.specs.Reading.{Left, Outcome, Reader, read, read_all, ◌>>=◌}
use Rattle.cose_head.specs.Open.{Open, open_child, open_all, open_in}
use Rattle.cose_head.specs.Walking.{Walk, walk_end, ends, walk, walk_all, past_child, within, finish}

-- a function of the value doesn't change where reading ends
pub end_of-made : {A B : Type 0} (r : Outcome A) (make : A → B) → walk_end (r >>= λ x. Ok (make x.0, x.1)) ≡ walk_end r
end_of-made (Ok x) make = refl
end_of-made (Err refusal) make = refl

-- a child, and then the others
past_first : (r : Outcome Item) (inside : Open) (others : Reader Items) (open_others : Left → Open)
    → record { end = walk_end (r >>= λ first. others first.1 >>= λ rest. Ok (item first.0 rest.0, rest.1)); opened = open_child r inside open_others }
    ≡ past_child (walk_end r) inside (λ l. record { end = walk_end (others l); opened = open_others l })
past_first (Ok first) inside others open_others =
    ap (λ e. record { end = e; opened = open_others first.1 }) (end_of-made (others first.1) (item first.0))
past_first (Err refusal) inside others open_others = refl

pub walk_all-none : (depth : ℕ) (l : Left) → walk_all depth 0 l ≡ ends l
unfolding walk_all
walk_all-none depth l = refl

pub walk_all-more : (depth n : ℕ) (l : Left) → walk_all depth (suc n) l ≡ within (walk depth l) (walk_all depth n)
unfolding walk walk_all
walk_all-more depth n l = past_first (read depth l) (open_in depth l) (read_all (read depth) n) (open_all (read depth) (open_in depth) n)

-- the innermost open items come last
pub finish-append : (depth : ℕ) (counts more : List ℕ) (child : Walk)
    → finish depth (counts ++ more) child ≡ finish depth counts (finish (depth - length counts) more child)
unfolding finish
finish-append depth [] more child = let e : depth ≡ depth - 0 = omega arith in ap (λ d. finish d more child) e
finish-append depth (n ∷ counts) more child =
    let e : depth - 1 - length counts ≡ depth - suc (length counts) = omega arith in
    ap (λ w. within w (walk_all (depth - 1) n)) (finish-append (depth - 1) counts more child
    ∙ ap (λ d. finish (depth - 1) counts (finish d more child)) e)

pub finish-one : (depth n : ℕ) (child : Walk) → finish depth (n ∷ []) child ≡ within child (walk_all (depth - 1) n)
unfolding finish
finish-one depth n child = refl

-- an open item that begins after its head is walked child by child
pub finish-opened : (depth : ℕ) (counts : List ℕ) (n : ℕ) (l : Left)
    → finish depth counts (walk_all (depth - length counts - 1) (suc n) l)
    ≡ finish depth (counts ++ n ∷ []) (walk (depth - length counts - 1) l)
finish-opened depth counts n l =
    let inner = depth - length counts in
    ap (finish depth counts) (walk_all-more (inner - 1) n l ∙ sym (finish-one inner n (walk (inner - 1) l)))
    ∙ sym (finish-append depth counts (n ∷ []) (walk (inner - 1) l))

-- an item without a child left ends where its last child ends
pub finish-last : (depth : ℕ) (counts : List ℕ) (l : Left)
    → finish depth (counts ++ 0 ∷ []) (ends l) ≡ finish depth counts (ends l)
finish-last depth counts l =
    let inner = depth - length counts in
    finish-append depth counts (0 ∷ []) (ends l)
    ∙ ap (finish depth counts) (finish-one inner 0 (ends l) ∙ walk_all-none (inner - 1) l)

-- the next child begins where one ends
pub finish-next : (depth : ℕ) (counts : List ℕ) (n : ℕ) (l : Left)
    → finish depth (counts ++ suc n ∷ []) (ends l) ≡ finish depth (counts ++ n ∷ []) (walk (depth - length counts - 1) l)
finish-next depth counts n l =
    let inner = depth - length counts in
    finish-append depth counts (suc n ∷ []) (ends l)
    ∙ ap (finish depth counts) (finish-one inner (suc n) (ends l))
    ∙ finish-opened depth counts n l

pub finish-none : (depth : ℕ) (child : Walk) → finish depth [] child ≡ child
unfolding finish
finish-none depth child = refl

-- a refusal is the refusal of all items around it
pub finish-refused : (depth : ℕ) (counts : List ℕ) (refusal : Refusal) (opened : Open)
    → (finish depth counts (record { end = Err refusal; opened = opened })).end ≡ Err refusal
unfolding finish
finish-refused depth [] refusal opened = refl
finish-refused depth (n ∷ counts) refusal opened =
    rw (finish-refused (depth - 1) counts refusal opened) refl

-- the same for counts from whose end one was taken
pub finish-taken_last : (depth : ℕ) (counts before : List ℕ) (l : Left) → counts ≡ before ++ 0 ∷ []
    → finish depth counts (ends l) ≡ finish depth before (ends l)
finish-taken_last depth counts before l e = rw e (finish-last depth before l)

pub finish-taken_next : (depth : ℕ) (counts before after : List ℕ) (left : ℕ) (l : Left) → counts ≡ before ++ left ∷ []
    → 0 < left
    → after ≡ before ++ (left - 1) ∷ [] → finish depth counts (ends l) ≡ finish depth after (walk (depth - length after) l)
finish-taken_next depth counts before after left l e some f =
    let total = length-append before ((left - 1) ∷ []) in
    let inner : depth - length before - 1 ≡ depth - length (before ++ (left - 1) ∷ []) = omega arith in
    let more : suc (left - 1) ≡ left = omega arith in
    rw (e, f, ← inner) (ap (λ n. finish depth (before ++ n ∷ []) (ends l)) (sym more) ∙ finish-next depth before (left - 1) l)

pub finish-taken_all : (depth : ℕ) (counts : List ℕ) (l : Left) → (0 < length counts → ⊥)
    → finish depth counts (ends l) ≡ ends l
finish-taken_all depth [] l none = finish-none depth (ends l)
finish-taken_all depth (n ∷ counts) l none = absurd (none (omega arith))

-- the children of an item that is opened, of which none has begun
pub finish-parent : (depth : ℕ) (counts : List ℕ) (n : ℕ) (l : Left)
    → finish depth (counts ++ n ∷ []) (ends l) ≡ finish depth counts (walk_all (depth - length counts - 1) n l)
finish-parent depth counts n l =
    finish-append depth counts (n ∷ []) (ends l)
    ∙ ap (finish depth counts) (finish-one (depth - length counts) n (ends l))

-- the open items around a child that is incomplete
pub finish-open : (depth : ℕ) (counts : List ℕ) (refusal : Refusal) (opened : Open)
    → (finish depth counts (record { end = Err refusal; opened = opened })).opened ≡ record { items = length counts + opened.items; content = opened.content }
unfolding finish
finish-open depth [] refusal opened = let none : opened.items ≡ 0 + opened.items = omega arith in ap (λ n. record { items = n; content = opened.content }) none
finish-open depth (n ∷ counts) refusal opened =
    let end = finish-refused (depth - 1) counts refusal opened in
    let inner = finish-open (depth - 1) counts refusal opened in
    let more : 1 + (length counts + opened.items) ≡ suc (length counts) + opened.items = omega arith in
    rw (end, inner, more) refl
