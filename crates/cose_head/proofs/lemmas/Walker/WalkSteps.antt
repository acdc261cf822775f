-- The rest of the reading after a byte, one lemma for each case of a byte.
use Rattle.std.proofs.Common.{◌≡◌, ℕ, zero, suc, ◌+◌, ◌-◌, ◌<◌, ◌≤◌, List, [], ◌∷◌, ◌++◌, length, Err, refl, sym, ap, ◌∙◌, arith, append_assoc, append-nil}
use Rattle.std.proofs.lemmas.Bool.{lt-ltb, le-ltb}
use Rattle.std.proofs.lemmas.Bool.Decides.{nat_tests}
use Rattle.std.specs.Prelude.{◌==◌, nat_lt, true, false}
use Rattle.cose_head.specs.declared.head.Head.{Head}
use Rattle.cose_head.specs.declared.reason.Reason.{Reason}
use Rattle.cose_head.specs.declared.reason.Reason.TheVariants.{Truncated, TooDeep, PastRoom}
use Rattle.cose_head.specs.declared.refusal.Refusal.{Refusal}
use Rattle.cose_head.specs.Reading.{Left, refuse, is_string, is_parent, child_count, head}
use Rattle.cose_head.specs.HalfHead.{is_half, IsHeadAt}
use Rattle.cose_head.specs.Measured.{left_of}
use Rattle.cose_head.specs.Open.{nothing_open}
use Rattle.cose_head.specs.Walking.{Walk, ends, walk, walk_all, walk_content, finish, refused}
use Rattle.cose_head.specs.Walker.{go_on}
use Rattle.cose_head.proofs.lemmas.Head.HalfHead.{head-half}
use Rattle.cose_head.proofs.lemmas.Walker.Walking.{finish-refused, finish-open}
use Rattle.cose_head.proofs.lemmas.Walker.WalkedHeads.{walk-refused, walk-leaf, walk-content, walk-content_past, walk-deep, walk-children_past, walk-children}

pub head-no_room : (l : Left) → l.room ≡ 0 → head l ≡ refuse PastRoom l.place
unfolding head
head-no_room l none = let e : (l.room == 0) ≡ true = grind (arith, nat_tests) in rw e refl

pub head-no_bytes : (room place : ℕ) → (room ≡ 0 → ⊥)
    → head (left_of [] room place) ≡ refuse Truncated (place + 0)
unfolding head
head-no_bytes room place some = let e : (room == 0) ≡ false = grind (arith, nat_tests) in rw e refl

-- a refused head refuses the items around it
pub refused_head : (depth inner : ℕ) (counts : List ℕ) (l : Left) (refusal : Refusal) → head l ≡ Err refusal
    → (finish depth counts (walk inner l)).end ≡ Err refusal
refused_head depth inner counts l refusal e =
    ap (λ child. (finish depth counts child).end) (walk-refused inner l refusal e)
    ∙ finish-refused depth counts refusal nothing_open

-- an item of which no byte was read
pub go_on-begins : (depth : ℕ) (counts half : List ℕ) (string : ℕ) (l : Left) → string ≡ 0 → length half ≡ 0
    → go_on depth counts half string l ≡ finish depth counts (walk (depth - length counts) l)
go_on-begins depth counts [] string l none no_half = rw none refl
go_on-begins depth counts (byte ∷ half) string l none no_half = absurd (omega arith)

pub waits-begins : (depth : ℕ) (counts half : List ℕ) (string room place : ℕ) → string ≡ 0 → length half ≡ 0
    → (room ≡ 0 → ⊥)
    → (go_on depth counts half string (left_of [] room place)).end ≡ refused Truncated (place + length half)
waits-begins depth counts half string room place none no_half some =
    let l : Left = left_of [] room place in
    ap (λ (w : Walk). w.end) (go_on-begins depth counts half string l none no_half)
    ∙ refused_head depth (depth - length counts) counts l _ (head-no_bytes room place some)
    ∙ ap (λ n. refused Truncated (place + n)) (sym no_half)

-- a string
pub walk_content-none : (n : ℕ) (l : Left) → n ≡ 0 → walk_content n l ≡ ends l
walk_content-none n l none =
    let whole : nat_lt (length l.bytes) 0 ≡ false = le-ltb _ _ (omega arith) in
    let nothing : 0 - length l.bytes ≡ 0 = omega arith in
    let room : l.room - 0 ≡ l.room = omega arith in
    let place : l.place + 0 ≡ l.place = omega arith in
    rw (none, whole, nothing, room, place) refl

pub go_on-content : (depth : ℕ) (counts half : List ℕ) (n : ℕ) (l : Left) → 0 < n
    → go_on depth counts half n l ≡ finish depth counts (walk_content n l)
go_on-content depth counts half zero l some = absurd (omega arith)
go_on-content depth counts half (suc n) l some = refl

content_short : (n room place : ℕ) → 0 < n
    → (walk_content n (left_of [] room place)).end ≡ refused Truncated (place + 0)
content_short n room place some = let short : nat_lt 0 n ≡ true = lt-ltb _ _ some in rw short refl

pub refused_child : (depth : ℕ) (counts : List ℕ) (child : Walk) (refusal : Refusal) → child.end ≡ Err refusal
    → (finish depth counts child).end ≡ Err refusal
refused_child depth counts child refusal e =
    ap (λ end. (finish depth counts (record { end = end; opened = child.opened })).end) e
    ∙ finish-refused depth counts refusal child.opened

pub waits-content : (depth : ℕ) (counts half : List ℕ) (n room place : ℕ) → 0 < n → length half ≡ 0
    → (go_on depth counts half n (left_of [] room place)).end ≡ refused Truncated (place + length half)
waits-content depth counts half n room place some no_half =
    let l : Left = left_of [] room place in
    ap (λ (w : Walk). w.end) (go_on-content depth counts half n l some)
    ∙ refused_child depth counts (walk_content n l) _ (content_short n room place some)
    ∙ ap (λ n. refused Truncated (place + n)) (sym no_half)

-- a head that is complete, by what follows it
pub head-leaf : (depth : ℕ) (counts first : List ℕ) (room place : ℕ) (h : Head) → IsHeadAt first room place h
    → is_string h ≡ false → is_parent h ≡ false
    → (bytes : List ℕ) → go_on depth counts first 0 (left_of bytes room place)
    ≡ finish depth counts (ends (left_of bytes (room - h.width) (place + h.width)))
head-leaf depth counts first room place h is no_string no_parent bytes =
    ap (finish depth counts) (walk-leaf (depth - length counts) _ _ h (is bytes) no_string no_parent)

pub head-content : (depth : ℕ) (counts first : List ℕ) (room place : ℕ) (h : Head) → IsHeadAt first room place h
    → is_string h ≡ true → h.arg ≤ room - h.width
    → (bytes : List ℕ) → go_on depth counts first 0 (left_of bytes room place)
    ≡ finish depth counts (walk_content h.arg (left_of bytes (room - h.width) (place + h.width)))
head-content depth counts first room place h is string fits bytes =
    ap (finish depth counts) (walk-content (depth - length counts) _ _ h (is bytes) string fits)

pub head-content_past : (depth : ℕ) (counts first : List ℕ) (room place : ℕ) (h : Head) → IsHeadAt first room place h
    → is_string h ≡ true → room - h.width < h.arg
    → (bytes : List ℕ) → (go_on depth counts first 0 (left_of bytes room place)).end ≡ refused PastRoom place
head-content_past depth counts first room place h is string past bytes =
    refused_child depth counts _ _ (walk-content_past (depth - length counts) _ _ h (is bytes) string past)

pub head-deep : (depth : ℕ) (counts first : List ℕ) (room place : ℕ) (h : Head) → IsHeadAt first room place h
    → is_string h ≡ false → is_parent h ≡ true → depth ≤ length counts
    → (bytes : List ℕ) → (go_on depth counts first 0 (left_of bytes room place)).end ≡ refused TooDeep place
head-deep depth counts first room place h is no_string parent full bytes =
    let none : depth - length counts ≡ 0 = omega arith in
    rw none (refused_child depth counts _ _ (walk-deep _ _ h (is bytes) no_string parent))

pub head-children_past : (depth : ℕ) (counts first : List ℕ) (room place : ℕ) (h : Head) → IsHeadAt first room place h
    → is_string h ≡ false → is_parent h ≡ true → length counts < depth → room - h.width < child_count h
    → (bytes : List ℕ) → (go_on depth counts first 0 (left_of bytes room place)).end ≡ refused PastRoom place
head-children_past depth counts first room place h is no_string parent nests past bytes =
    let inner : depth - length counts ≡ suc (depth - length counts - 1) = omega arith in
    rw inner (refused_child depth counts _ _ (walk-children_past (depth - length counts - 1) _ _ h (is bytes) no_string parent past))

pub head-children : (depth : ℕ) (counts first : List ℕ) (room place : ℕ) (h : Head) → IsHeadAt first room place h
    → is_string h ≡ false → is_parent h ≡ true → length counts < depth → child_count h ≤ room - h.width
    → (bytes : List ℕ) → go_on depth counts first 0 (left_of bytes room place)
    ≡ finish depth counts (walk_all (depth - length counts - 1) (child_count h) (left_of bytes (room - h.width) (place + h.width)))
head-children depth counts first room place h is no_string parent nests fits bytes =
    let inner : depth - length counts ≡ suc (depth - length counts - 1) = omega arith in
    ap (λ d. finish depth counts (walk d (left_of (first ++ bytes) room place))) inner
    ∙ ap (finish depth counts) (walk-children (depth - length counts - 1) _ _ h (is bytes) no_string parent fits)

-- bytes of a string
lt_suc : (a b : ℕ) → nat_lt (suc a) (suc b) ≡ nat_lt a b
lt_suc a b = grind (arith, nat_tests)

walk_content-byte : (n byte room place : ℕ) (bytes : List ℕ)
    → walk_content (suc n) (left_of (byte ∷ bytes) room place)
    ≡ walk_content n (left_of bytes (room - 1) (place + 1))
walk_content-byte n byte room place bytes =
    let test = lt_suc (length bytes) n in
    let total : place + suc (length bytes) ≡ place + 1 + length bytes = omega arith in
    let left : room - suc n ≡ room - 1 - n = omega arith in
    let at : place + suc n ≡ place + 1 + n = omega arith in
    let content : suc n - suc (length bytes) ≡ n - length bytes = omega arith in
    rw (test, total, left, at, content) refl

walk_content-piece : (n room place : ℕ) (piece bytes : List ℕ) → length piece ≤ n
    → walk_content n (left_of (piece ++ bytes) room place)
    ≡ walk_content (n - length piece) (left_of bytes (room - length piece) (place + length piece))
walk_content-piece n room place [] bytes fits =
    let all : n ≡ n - 0 = omega arith in
    let left : room ≡ room - 0 = omega arith in
    let at : place ≡ place + 0 = omega arith in
    rw (← all, ← left, ← at) refl
walk_content-piece zero room place (byte ∷ piece) bytes fits = absurd (omega arith)
walk_content-piece (suc n) room place (byte ∷ piece) bytes fits =
    let all : suc n - suc (length piece) ≡ n - length piece = omega arith in
    let left : room - suc (length piece) ≡ room - 1 - length piece = omega arith in
    let at : place + suc (length piece) ≡ place + 1 + length piece = omega arith in
    rw (all, left, at) (walk_content-byte n byte room place (piece ++ bytes) ∙ walk_content-piece n (room - 1) (place + 1) piece bytes (omega arith))

pub piece_taken : (depth count : ℕ) (counts half : List ℕ) (string room place : ℕ) (piece bytes : List ℕ)
    → length piece ≡ count → 0 < count → count ≤ string
    → go_on depth counts half string (left_of (piece ++ bytes) room place)
    ≡ finish depth counts (walk_content (string - count) (left_of bytes (room - count) (place + count)))
piece_taken depth count counts half string room place piece bytes is some fits =
    let whole = walk_content-piece string room place piece bytes (omega arith) in
    rw (← is) (go_on-content depth counts half string (left_of (piece ++ bytes) room place) (omega arith)
    ∙ ap (finish depth counts) whole)

-- a byte of a head
pub go_on-half : (depth : ℕ) (counts half : List ℕ) (string byte room place : ℕ) (bytes : List ℕ) → string ≡ 0
    → go_on depth counts half string (left_of (byte ∷ bytes) room place)
    ≡ go_on depth counts (half ++ byte ∷ []) string (left_of bytes room place)
go_on-half depth counts half string byte room place bytes none =
    rw none (ap (λ b. finish depth counts (walk (depth - length counts) (left_of b room place))) (sym (append_assoc half (byte ∷ []) bytes)))

pub waits-half : (depth : ℕ) (counts half : List ℕ) (string room place : ℕ) → string ≡ 0
    → ((p : ℕ) → head (left_of half room p) ≡ refuse Truncated (p + length half))
    → (go_on depth counts half string (left_of [] room place)).end ≡ refused Truncated (place + length half)
waits-half depth counts half string room place none waits =
    rw (none, append-nil) (refused_head depth (depth - length counts) counts (left_of half room place) _ (waits place))

pub refused-half : (depth : ℕ) (counts half : List ℕ) (string room place : ℕ) (reason : Reason) → string ≡ 0
    → ((p : ℕ) (bytes : List ℕ) → head (left_of (half ++ bytes) room p) ≡ refuse reason p)
    → (bytes : List ℕ) → (go_on depth counts half string (left_of bytes room place)).end ≡ refused reason place
refused-half depth counts half string room place reason none fault bytes =
    rw none (refused_head depth (depth - length counts) counts (left_of (half ++ bytes) room place) _ (fault place bytes))

-- what is open where the bytes end
pub go_on-open : (depth : ℕ) (counts half : List ℕ) (string room place : ℕ) → is_half half ≡ true → length half ≤ room
    → (go_on depth counts half string (left_of [] room place)).opened ≡ record { items = length counts; content = string }
go_on-open depth counts half zero room place is fits =
    let fault = head-half half room place is fits in
    let none : length counts + 0 ≡ length counts = omega arith in
    rw append-nil (ap (λ child. (finish depth counts child).opened) (walk-refused (depth - length counts) (left_of half room place) fault.0 fault.1)
    ∙ finish-open depth counts fault.0 nothing_open ∙ ap (λ n. record { items = n; content = 0 }) none)
go_on-open depth counts half (suc n) room place is fits =
    let short : nat_lt 0 (suc n) ≡ true = lt-ltb _ _ (omega arith) in
    let none : length counts + 0 ≡ length counts = omega arith in
    let all : suc n - 0 ≡ suc n = omega arith in
    rw (short, all) (finish-open depth counts (record { reason = Truncated; place = place + 0 }) (record { items = 0; content = suc n })
    ∙ ap (λ m. record { items = m; content = suc n }) none)

-- bytes that don't end the string
pub go_on-short : (depth : ℕ) (counts half : List ℕ) (string room place : ℕ) (bytes : List ℕ) → length bytes < string
    → (go_on depth counts half string (left_of bytes room place)).end ≡ refused Truncated (place + length bytes)
go_on-short depth counts half string room place bytes short =
    let l : Left = left_of bytes room place in
    let test : nat_lt (length bytes) string ≡ true = lt-ltb _ _ short in
    let some : 0 < string = omega arith in
    ap (λ (w : Walk). w.end) (go_on-content depth counts half string l some)
    ∙ refused_child depth counts (walk_content string l) _ (rw test refl)
