-- What is read within a room and a nesting allowance is read within larger ones too, unless one of them refuses it.
use Rattle.std.proofs.Common.{◌≡◌, ℕ, zero, suc, ◌+◌, ◌-◌, ◌≤◌, Bool, true, false, List, [], ◌∷◌, length, take, Option, Some, None, Ok, Err, if◌then◌else◌, refl, ap, arith}
use Rattle.std.proofs.lemmas.Bool.{ltb-false, le-ltb}
use Rattle.std.proofs.lemmas.List.{length-take}
use Rattle.std.proofs.lemmas.Bool.Decides.{nat_tests}
use Rattle.std.specs.Prelude.{nat_lt, ◌==◌, ◌||◌, ⊤}
use Rattle.cose_head.specs.declared.head.Head.{Head}
use Rattle.cose_head.specs.declared.reason.Reason.{Reason}
use Rattle.cose_head.specs.declared.reason.Reason.TheVariants.{BadSimple, PastRoom}
use Rattle.cose_head.specs.Head.{major_of, low_of, low_fault, argument_length, head_of, is_bad_simple}
use Rattle.cose_head.specs.Item.{Item, item, tag}
use Rattle.cose_head.specs.Reading.{Left, Outcome, Reader, ◌>>=◌, after, refuse, truncated, checked, past_initial, at_initial, string, string_item, is_string, is_parent, leaf, body, parent, children, child_count, list_item, read_all, read_with, read, head}
use Rattle.cose_head.specs.Reason.{number_of}

-- The reasons of a limit: TooDeep and PastRoom.
abbrev pub is_limit : Reason → Bool
is_limit reason = (number_of reason == 5) || (number_of reason == 6)

-- No limit refuses it.
abbrev pub IsFree : {A : Type 0} → Outcome A → Type 0
IsFree (Ok found) = ⊤
IsFree (Err refusal) = is_limit refusal.reason ≡ false

module _ (k : ℕ) where
  -- The same, with more room.
  abbrev pub wider : Left → Left
  wider l = record { bytes = l.bytes; room = l.room + k; place = l.place }

  abbrev pub wider_outcome : {A : Type 0} → Outcome A → Outcome A
  wider_outcome (Ok found) = Ok (found.0, wider found.1)
  wider_outcome (Err refusal) = Err refusal

  abbrev pub Widens : {A : Type 0} → Reader A → Reader A → Type 0
  Widens one other = (l : Left) → IsFree (one l) → other (wider l) ≡ wider_outcome (one l)

  bind_wider : {A B : Type 0} (m n : Outcome A) (f g : A × Left → Outcome B) → (IsFree m → n ≡ wider_outcome m) →
      ((x : A × Left) → IsFree (f x) → g (x.0, wider x.1) ≡ wider_outcome (f x)) → IsFree (m >>= f) → (n >>= g) ≡ wider_outcome (m >>= f)
  bind_wider (Ok x) n f g first next s = rw (first tt) (next x s)
  bind_wider (Err refusal) n f g first next s = rw (first s) refl

  cond_wider : {A : Type 0} (b : Bool) (x y x2 y2 : Outcome A) → (IsFree x → x2 ≡ wider_outcome x) → (b ≡ false → IsFree y → y2 ≡ wider_outcome y) →
      IsFree (if b then x else y) → (if b then x2 else y2) ≡ wider_outcome (if b then x else y)
  cond_wider true x y x2 y2 left right s = left s
  cond_wider false x y x2 y2 left right s = right refl s

  -- What fits into the room fits into a larger one.
  room_wider : {A : Type 0} (room more wanted place : ℕ) (y y2 : Outcome A) → room ≤ more → (wanted ≤ room → IsFree y → y2 ≡ wider_outcome y) →
      IsFree (if nat_lt room wanted then refuse PastRoom place else y) →
      (if nat_lt more wanted then refuse PastRoom place else y2) ≡ wider_outcome (if nat_lt room wanted then refuse PastRoom place else y)
  room_wider {A = A} room more wanted place y y2 larger same = go (nat_lt room wanted) refl
    where
      go : (b : Bool) → nat_lt room wanted ≡ b → IsFree {A = A} (if b then refuse PastRoom place else y) →
          (if nat_lt more wanted then refuse PastRoom place else y2) ≡ wider_outcome (if b then refuse PastRoom place else y)
      go true e s = let no : true ≡ false = s in absurd cc
      go false e s = let a = ltb-false room wanted e in let f : nat_lt more wanted ≡ false = le-ltb more wanted (omega arith) in rw f (same a s)

  after_wider : (n : ℕ) (l : Left) → n ≤ l.room → after n (wider l) ≡ wider (after n l)
  after_wider n l fits = let e : l.room + k - n ≡ l.room - n + k = omega arith in rw e refl

  checked_wider : (h : Head) (l : Left) → h.width ≤ l.room → IsFree (checked h l) → checked h (wider l) ≡ wider_outcome (checked h l)
  checked_wider h l fits = cond_wider (is_bad_simple h) (refuse BadSimple l.place) (Ok (h, after h.width l)) (refuse BadSimple l.place)
      (Ok (h, after h.width (wider l))) (λ s. refl) (λ e s. ap (λ m. Ok (h, m)) (after_wider h.width l fits))

  past_wider : (fault : Option Reason) (wanted initial : ℕ) (rest : List ℕ) (l : Left) → 1 ≤ l.room → IsFree (past_initial fault wanted initial rest l) →
      past_initial fault wanted initial rest (wider l) ≡ wider_outcome (past_initial fault wanted initial rest l)
  past_wider (Some reason) wanted initial rest l some = λ s. refl
  past_wider None wanted initial rest l some =
      let n = length-take wanted rest in
      room_wider (l.room - 1) (l.room + k - 1) wanted l.place (if nat_lt (length rest) wanted then truncated l else checked (head_of initial (take wanted rest)) l)
      (if nat_lt (length rest) wanted then truncated (wider l) else checked (head_of initial (take wanted rest)) (wider l)) (omega arith)
      (λ fits. cond_wider (nat_lt (length rest) wanted) (truncated l) (checked (head_of initial (take wanted rest)) l) (truncated (wider l)) (checked (head_of initial (take wanted rest)) (wider l))
      (λ s. refl) (λ e. checked_wider (head_of initial (take wanted rest)) l (omega arith)))

  initial_wider : (bytes : List ℕ) (l : Left) → 1 ≤ l.room → IsFree (at_initial bytes l) → at_initial bytes (wider l) ≡ wider_outcome (at_initial bytes l)
  initial_wider [] l some = λ s. refl
  initial_wider (initial ∷ rest) l some = past_wider (low_fault (major_of initial) (low_of initial)) (argument_length (low_of initial)) initial rest l some

  head_wider : Widens head head
  unfolding head
  head_wider l = go (l.room == 0) refl
    where
      go : (b : Bool) → (l.room == 0) ≡ b → IsFree (if b then refuse PastRoom l.place else at_initial l.bytes l) →
          (if l.room + k == 0 then refuse PastRoom l.place else at_initial l.bytes (wider l)) ≡ wider_outcome (if b then refuse PastRoom l.place else at_initial l.bytes l)
      go true e s = let no : true ≡ false = s in absurd cc
      go false e s =
          let some : 1 ≤ l.room = grind (arith, nat_tests) in
          let f : (l.room + k == 0) ≡ false = grind (arith, nat_tests) in
          rw f (initial_wider l.bytes l some s)

  string_wider : (place : ℕ) (h : Head) (l : Left) → IsFree (string place h l) → string place h (wider l) ≡ wider_outcome (string place h l)
  string_wider place h l =
      room_wider l.room (l.room + k) h.arg place (if nat_lt (length l.bytes) h.arg then truncated l else Ok (string_item h (take h.arg l.bytes), after h.arg l))
      (if nat_lt (length l.bytes) h.arg then truncated (wider l) else Ok (string_item h (take h.arg l.bytes), after h.arg (wider l))) (omega arith)
      (λ fits. cond_wider (nat_lt (length l.bytes) h.arg) (truncated l) (Ok (string_item h (take h.arg l.bytes), after h.arg l)) (truncated (wider l)) (Ok (string_item h (take h.arg l.bytes), after h.arg (wider l)))
      (λ s. refl) (λ e s. ap (λ m. Ok (string_item h (take h.arg l.bytes), m)) (after_wider h.arg l fits)))

  all_wider : (one other : Reader Item) → Widens one other → (n : ℕ) → Widens (read_all one n) (read_all other n)
  all_wider one other each zero l s = refl
  all_wider one other each (suc n) l s =
      bind_wider (one l) (other (wider l)) (λ first. read_all one n first.1 >>= λ others. Ok (item first.0 others.0, others.1))
      (λ first. read_all other n first.1 >>= λ others. Ok (item first.0 others.0, others.1)) (each l)
      (λ x. bind_wider (read_all one n x.1) (read_all other n (wider x.1)) (λ others. Ok (item x.0 others.0, others.1)) (λ others. Ok (item x.0 others.0, others.1))
      (all_wider one other each n x.1) (λ y q. refl)) s

  children_wider : (one other : Reader Item) → Widens one other → (h : Head) → Widens (children one h) (children other h)
  children_wider one other each h l =
      cond_wider (h.major == 6) (one l >>= λ content. Ok (tag h.arg content.0, content.1)) (read_all one (child_count h) l >>= λ items. Ok (list_item h items.0, items.1))
      (other (wider l) >>= λ content. Ok (tag h.arg content.0, content.1)) (read_all other (child_count h) (wider l) >>= λ items. Ok (list_item h items.0, items.1))
      (bind_wider (one l) (other (wider l)) (λ content. Ok (tag h.arg content.0, content.1)) (λ content. Ok (tag h.arg content.0, content.1)) (each l) (λ x q. refl))
      (λ e. bind_wider (read_all one (child_count h) l) (read_all other (child_count h) (wider l)) (λ items. Ok (list_item h items.0, items.1))
      (λ items. Ok (list_item h items.0, items.1)) (all_wider one other each (child_count h) l) (λ x q. refl))

  -- Where children are read, they are read by a reader that goes as deep or deeper.
  abbrev EachWidens : Option (Reader Item) → Option (Reader Item) → Type 0
  EachWidens None other = ⊤
  EachWidens (Some one) None = ⊥
  EachWidens (Some one) (Some other) = Widens one other

  parent_wider : (one other : Option (Reader Item)) → EachWidens one other → (place : ℕ) (h : Head) (l : Left) → IsFree (parent one place h l) →
      parent other place h (wider l) ≡ wider_outcome (parent one place h l)
  parent_wider None other each place h l s = let no : true ≡ false = s in absurd cc
  parent_wider (Some one) None each place h l s = absurd each
  parent_wider (Some one) (Some other) each place h l s =
      room_wider l.room (l.room + k) (child_count h) place (children one h l) (children other h (wider l)) (omega arith) (λ fits. children_wider one other each h l) s

  body_wider : (one other : Option (Reader Item)) → EachWidens one other → (place : ℕ) (h : Head) (l : Left) → IsFree (body one place h l) →
      body other place h (wider l) ≡ wider_outcome (body one place h l)
  body_wider one other each place h l =
      cond_wider (is_string h) (string place h l) (if is_parent h then parent one place h l else Ok (leaf h, l)) (string place h (wider l))
      (if is_parent h then parent other place h (wider l) else Ok (leaf h, wider l)) (string_wider place h l)
      (λ e. cond_wider (is_parent h) (parent one place h l) (Ok (leaf h, l)) (parent other place h (wider l)) (Ok (leaf h, wider l)) (parent_wider one other each place h l) (λ f s. refl))

  with_wider : (one other : Option (Reader Item)) → EachWidens one other → Widens (read_with one) (read_with other)
  with_wider one other each l =
      bind_wider (head l) (head (wider l)) (λ h. body one l.place h.0 h.1) (λ h. body other l.place h.0 h.1) (head_wider l) (λ x. body_wider one other each l.place x.0 x.1)

  pub read_wider : (depth deeper : ℕ) → depth ≤ deeper → Widens (read depth) (read deeper)
  unfolding read
  read_wider zero zero deep l = with_wider None None tt l
  read_wider zero (suc deeper) deep l = with_wider None (Some (read deeper)) tt l
  read_wider (suc depth) zero deep l = absurd (omega arith)
  read_wider (suc depth) (suc deeper) deep l = with_wider (Some (read depth)) (Some (read deeper)) (read_wider depth deeper (omega arith)) l
