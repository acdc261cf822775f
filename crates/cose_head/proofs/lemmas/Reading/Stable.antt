-- An answer other than Truncated is the same when bytes follow.
use Rattle.std.proofs.Common.{◌≡◌, ℕ, zero, suc, ◌-◌, ◌≤◌, Bool, true, false, List, [], ◌∷◌, ◌++◌, length, take, Option, Some, None, Ok, Err, if◌then◌else◌, refl, ap, arith}
use Rattle.std.proofs.lemmas.Bool.{ltb-false, le-ltb}
use Rattle.std.proofs.lemmas.List.{length-append, take-append-le, drop-append-le, length-take}
use Rattle.std.specs.Prelude.{nat_lt, ◌==◌, ⊤}
use Rattle.cose_head.specs.declared.head.Head.{Head}
use Rattle.cose_head.specs.declared.reason.Reason.{Reason}
use Rattle.cose_head.specs.declared.reason.Reason.TheVariants.{BadSimple, PastRoom}
use Rattle.cose_head.specs.Head.{major_of, low_of, low_fault, argument_length, head_of, is_bad_simple}
use Rattle.cose_head.specs.Item.{Item, item, tag}
use Rattle.cose_head.specs.Reading.{Left, Outcome, Reader, ◌>>=◌, after, refuse, truncated, checked, past_initial, at_initial, string, string_item, is_string, is_parent, leaf, body, parent, children, child_count, list_item, read_all, read_with, read, head}
use Rattle.cose_head.specs.Measured.{left_of}
use Rattle.cose_head.specs.Laws.{more, more_after, IsSettled}

-- a reader whose answers are the same when bytes follow
abbrev pub Stays : {A : Type 0} → Reader A → Type 0
Stays one = (bytes : List ℕ) (l : Left) → IsSettled (one l) → one (more bytes l) ≡ more_after bytes (one l)

pub bind_same : {A B : Type 0} (bytes : List ℕ) (m n : Outcome A) (f : A × Left → Outcome B) → (IsSettled m → n ≡ more_after bytes m) →
    ((x : A × Left) → IsSettled (f x) → f (x.0, more bytes x.1) ≡ more_after bytes (f x)) → IsSettled (m >>= f) →
    (n >>= f) ≡ more_after bytes (m >>= f)
bind_same bytes (Ok x) n f first next s = rw (first tt) (next x s)
bind_same bytes (Err refusal) n f first next s = rw (first s) refl

cond_same : {A : Type 0} (bytes : List ℕ) (b : Bool) (x y x2 y2 : Outcome A) → (IsSettled x → x2 ≡ more_after bytes x) →
    (b ≡ false → IsSettled y → y2 ≡ more_after bytes y) →
    IsSettled (if b then x else y) → (if b then x2 else y2) ≡ more_after bytes (if b then x else y)
cond_same bytes true x y x2 y2 left right s = left s
cond_same bytes false x y x2 y2 left right s = right refl s

-- where bytes are missing the answer isn't settled
short_same : {A : Type 0} (bytes : List ℕ) (here there wanted : ℕ) (l m : Left) (y y2 : Outcome A) → here ≤ there →
    (wanted ≤ here → IsSettled y → y2 ≡ more_after bytes y) →
    IsSettled (if nat_lt here wanted then truncated l else y) → (if nat_lt there wanted then truncated m else y2) ≡ more_after bytes
    (if nat_lt here wanted then truncated l else y)
short_same {A = A} bytes here there wanted l m y y2 longer same = go (nat_lt here wanted) refl
  where
    go : (b : Bool) → nat_lt here wanted ≡ b → IsSettled {A = A} (if b then truncated l else y) →
        (if nat_lt there wanted then truncated m else y2) ≡ more_after bytes (if b then truncated l else y)
    go true e s = absurd (s refl)
    go false e s = let a = ltb-false here wanted e in let f : nat_lt there wanted ≡ false = le-ltb there wanted (omega arith) in rw f (same a s)

after-more : (n : ℕ) (bytes : List ℕ) (l : Left) → n ≤ length l.bytes → after n (more bytes l) ≡ more bytes (after n l)
after-more n bytes l there = rw (drop-append-le n l.bytes bytes there) refl

checked_same : (bytes : List ℕ) (h : Head) (l : Left) → h.width ≤ length l.bytes → IsSettled (checked h l) →
    checked h (more bytes l) ≡ more_after bytes (checked h l)
checked_same bytes h l there =
    cond_same bytes (is_bad_simple h) (refuse BadSimple l.place) (Ok (h, after h.width l)) (refuse BadSimple l.place)
    (Ok (h, after h.width (more bytes l)))
    (λ s. refl) (λ e s. ap (λ m. Ok (h, m)) (after-more h.width bytes l there))

past_same : (bytes : List ℕ) (fault : Option Reason) (wanted initial : ℕ) (rest : List ℕ) (room place : ℕ) →
    IsSettled (past_initial fault wanted initial rest (left_of (initial ∷ rest) room place)) →
    past_initial fault wanted initial (rest ++ bytes) (more bytes (left_of (initial ∷ rest) room place)) ≡ more_after bytes
    (past_initial fault wanted initial rest (left_of (initial ∷ rest) room place))
past_same bytes (Some reason) wanted initial rest room place = λ s. refl
past_same bytes None wanted initial rest room place =
    let l : Left = left_of (initial ∷ rest) room place in
    let n = length-append rest bytes in
    cond_same bytes (nat_lt (room - 1) wanted) (refuse PastRoom place)
    (if nat_lt (length rest) wanted then truncated l else checked (head_of initial (take wanted rest)) l)
    (refuse PastRoom place) (if nat_lt (length (rest ++ bytes)) wanted then truncated (more bytes l) else checked
    (head_of initial (take wanted (rest ++ bytes))) (more bytes l))
    (λ s. refl)
    (λ e. short_same bytes (length rest) (length (rest ++ bytes)) wanted l (more bytes l) (checked (head_of initial (take wanted rest)) l)
    (checked (head_of initial (take wanted (rest ++ bytes))) (more bytes l)) (omega arith)
    (λ there s.
    let t = length-take wanted rest in
    rw (take-append-le wanted rest bytes there) (checked_same bytes (head_of initial (take wanted rest)) l (omega arith) s)))

pub head_same : Stays head
unfolding head
head_same bytes l = go l.bytes l.room l.place
  where
    go : (front : List ℕ) (room place : ℕ) → IsSettled (head (left_of front room place)) →
        head (more bytes (left_of front room place)) ≡ more_after bytes (head (left_of front room place))
    go [] room place =
        cond_same bytes (room == 0) (refuse PastRoom place) (truncated (left_of [] room place)) (refuse PastRoom place)
        (at_initial bytes (more bytes (left_of [] room place)))
        (λ s. refl) (λ e s. absurd (s refl))
    go (initial ∷ rest) room place =
        cond_same bytes (room == 0) (refuse PastRoom place) (at_initial (initial ∷ rest) (left_of (initial ∷ rest) room place))
        (refuse PastRoom place) (at_initial (initial ∷ rest ++ bytes) (more bytes (left_of (initial ∷ rest) room place)))
        (λ s. refl) (λ e. past_same bytes (low_fault (major_of initial) (low_of initial)) (argument_length (low_of initial)) initial rest room place)

-- what follows a head
string_same : (bytes : List ℕ) (place : ℕ) (h : Head) (l : Left) → IsSettled (string place h l) →
    string place h (more bytes l) ≡ more_after bytes (string place h l)
string_same bytes place h l =
    let n = length-append l.bytes bytes in
    cond_same bytes (nat_lt l.room h.arg) (refuse PastRoom place)
    (if nat_lt (length l.bytes) h.arg then truncated l else Ok (string_item h (take h.arg l.bytes), after h.arg l))
    (refuse PastRoom place) (if nat_lt (length (l.bytes ++ bytes)) h.arg then truncated (more bytes l) else Ok
    (string_item h (take h.arg (l.bytes ++ bytes)), after h.arg (more bytes l)))
    (λ s. refl)
    (λ e. short_same bytes (length l.bytes) (length (l.bytes ++ bytes)) h.arg l (more bytes l)
    (Ok (string_item h (take h.arg l.bytes), after h.arg l))
    (Ok (string_item h (take h.arg (l.bytes ++ bytes)), after h.arg (more bytes l))) (omega arith)
    (λ there s. rw (take-append-le h.arg l.bytes bytes there, drop-append-le h.arg l.bytes bytes there) refl))

pub all_same : (one : Reader Item) → Stays one → (n : ℕ) → Stays (read_all one n)
all_same one each zero bytes l s = refl
all_same one each (suc n) bytes l s =
    bind_same bytes (one l) (one (more bytes l)) (λ first. read_all one n first.1 >>= λ others. Ok (item first.0 others.0, others.1)) (each bytes l)
    (λ x. bind_same bytes (read_all one n x.1) (read_all one n (more bytes x.1)) (λ others. Ok (item x.0 others.0, others.1))
    (all_same one each n bytes x.1) (λ y q. refl)) s

children_same : (one : Reader Item) → Stays one → (h : Head) → Stays (children one h)
children_same one each h bytes l =
    cond_same bytes (h.major == 6) (one l >>= λ content. Ok (tag h.arg content.0, content.1))
    (read_all one (child_count h) l >>= λ items. Ok (list_item h items.0, items.1))
    (one (more bytes l) >>= λ content. Ok (tag h.arg content.0, content.1))
    (read_all one (child_count h) (more bytes l) >>= λ items. Ok (list_item h items.0, items.1))
    (bind_same bytes (one l) (one (more bytes l)) (λ content. Ok (tag h.arg content.0, content.1)) (each bytes l) (λ x q. refl))
    (λ e. bind_same bytes (read_all one (child_count h) l) (read_all one (child_count h) (more bytes l))
    (λ items. Ok (list_item h items.0, items.1)) (all_same one each (child_count h) bytes l) (λ x q. refl))

-- the reader of the children, where there is one
abbrev EachStays : Option (Reader Item) → Type 0
EachStays None = ⊤
EachStays (Some one) = Stays one

parent_same : (one : Option (Reader Item)) → EachStays one → (place : ℕ) (h : Head) → Stays (parent one place h)
parent_same None each place h bytes l s = refl
parent_same (Some one) each place h bytes l s =
    cond_same bytes (nat_lt l.room (child_count h)) (refuse PastRoom place) (children one h l) (refuse PastRoom place) (children one h (more bytes l))
    (λ q. refl) (λ e. children_same one each h bytes l) s

pub body_same : (one : Option (Reader Item)) → EachStays one → (place : ℕ) (h : Head) → Stays (body one place h)
body_same one each place h bytes l =
    cond_same bytes (is_string h) (string place h l) (if is_parent h then parent one place h l else Ok (leaf h, l))
    (string place h (more bytes l)) (if is_parent h then parent one place h (more bytes l) else Ok (leaf h, more bytes l))
    (string_same bytes place h l)
    (λ e. cond_same bytes (is_parent h) (parent one place h l) (Ok (leaf h, l)) (parent one place h (more bytes l))
    (Ok (leaf h, more bytes l)) (parent_same one each place h bytes l) (λ f s. refl))

with_same : (one : Option (Reader Item)) → EachStays one → Stays (read_with one)
with_same one each bytes l =
    bind_same bytes (head l) (head (more bytes l)) (λ h. body one l.place h.0 h.1) (head_same bytes l) (λ x. body_same one each l.place x.0 bytes x.1)

pub read_same : (depth : ℕ) → Stays (read depth)
unfolding read
read_same zero bytes l = with_same None tt bytes l
read_same (suc depth) bytes l = with_same (Some (read depth)) (read_same depth) bytes l
