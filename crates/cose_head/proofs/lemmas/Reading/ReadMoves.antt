-- At another place the same bytes are read as the same, each place greater by the difference.
use Rattle.std.proofs.Common.{◌≡◌, ℕ, zero, suc, ◌+◌, ◌-◌, Bool, true, false, List, [], ◌∷◌, length, take, Option, Some, None, Ok, Err, if◌then◌else◌, refl, ap, add_assoc}
use Rattle.std.specs.Prelude.{nat_lt, ◌==◌, ⊤}
use Rattle.cose_head.specs.declared.head.Head.{Head}
use Rattle.cose_head.specs.declared.reason.Reason.{Reason}
use Rattle.cose_head.specs.declared.reason.Reason.TheVariants.{BadSimple, PastRoom}
use Rattle.cose_head.specs.Head.{major_of, low_of, low_fault, argument_length, head_of, is_bad_simple}
use Rattle.cose_head.specs.Item.{Item, item, tag}
use Rattle.cose_head.specs.Laws.{moved, moved_outcome}
use Rattle.cose_head.specs.Reading.{Left, Outcome, Reader, ◌>>=◌, after, refuse, truncated, checked, past_initial, at_initial, string, string_item, is_string, is_parent, leaf, body, parent, children, child_count, list_item, read_all, read_with, read, head}

module _ (n : ℕ) where
  after_moved : (k : ℕ) (l : Left) → after k (moved n l) ≡ moved n (after k l)
  after_moved k l = rw (add_assoc n l.place k) refl

  short_moved : {A : Type 0} (l : Left) → truncated {A = A} (moved n l) ≡ moved_outcome n (truncated l)
  short_moved l = rw (add_assoc n l.place (length l.bytes)) refl

  cond_moved : {A : Type 0} (b : Bool) (x y x2 y2 : Outcome A) → x2 ≡ moved_outcome n x → y2 ≡ moved_outcome n y →
      (if b then x2 else y2) ≡ moved_outcome n (if b then x else y)
  cond_moved true x y x2 y2 left right = left
  cond_moved false x y x2 y2 left right = right

  bind_moved : {A B : Type 0} (m m2 : Outcome A) (f f2 : A × Left → Outcome B) → m2 ≡ moved_outcome n m →
      ((x : A × Left) → f2 (x.0, moved n x.1) ≡ moved_outcome n (f x)) → (m2 >>= f2) ≡ moved_outcome n (m >>= f)
  bind_moved (Ok x) m2 f f2 first next = rw first (next x)
  bind_moved (Err refusal) m2 f f2 first next = rw first refl

  abbrev Moves : {A : Type 0} → Reader A → Type 0
  Moves one = (l : Left) → one (moved n l) ≡ moved_outcome n (one l)

  abbrev ok : {A : Type 0} → A → Left → Outcome A
  ok found l = Ok (found, l)

  past_moved : (fault : Option Reason) (wanted initial : ℕ) (rest : List ℕ) → Moves (past_initial fault wanted initial rest)
  past_moved (Some reason) wanted initial rest l = refl
  past_moved None wanted initial rest l =
      let h : Head = head_of initial (take wanted rest) in
      cond_moved (nat_lt (l.room - 1) wanted) (refuse PastRoom l.place) (if nat_lt (length rest) wanted then truncated l else checked h l)
      (refuse PastRoom (n + l.place)) (if nat_lt (length rest) wanted then truncated (moved n l) else checked h (moved n l)) refl
      (cond_moved (nat_lt (length rest) wanted) (truncated l) (checked h l) (truncated (moved n l)) (checked h (moved n l)) (short_moved l)
      (cond_moved (is_bad_simple h) (refuse BadSimple l.place) (ok h (after h.width l)) (refuse BadSimple (n + l.place))
      (ok h (after h.width (moved n l))) refl (ap (ok h) (after_moved h.width l))))

  initial_moved : (bytes : List ℕ) → Moves (at_initial bytes)
  initial_moved [] l = short_moved l
  initial_moved (initial ∷ rest) l = past_moved (low_fault (major_of initial) (low_of initial)) (argument_length (low_of initial)) initial rest l

  head_moved : Moves head
  unfolding head
  head_moved l = cond_moved (l.room == 0) (refuse PastRoom l.place) (at_initial l.bytes l) (refuse PastRoom (n + l.place))
      (at_initial l.bytes (moved n l)) refl (initial_moved l.bytes l)

  string_moved : (place : ℕ) (h : Head) (l : Left) → string (n + place) h (moved n l) ≡ moved_outcome n (string place h l)
  string_moved place h l =
      let content : Item = string_item h (take h.arg l.bytes) in
      cond_moved (nat_lt l.room h.arg) (refuse PastRoom place) (if nat_lt (length l.bytes) h.arg then truncated l else ok content (after h.arg l))
      (refuse PastRoom (n + place)) (if nat_lt (length l.bytes) h.arg then truncated (moved n l) else ok content (after h.arg (moved n l))) refl
      (cond_moved (nat_lt (length l.bytes) h.arg) (truncated l) (ok content (after h.arg l)) (truncated (moved n l))
      (ok content (after h.arg (moved n l))) (short_moved l) (ap (ok content) (after_moved h.arg l)))

  all_moved : (one : Reader Item) → Moves one → (count : ℕ) → Moves (read_all one count)
  all_moved one each zero l = refl
  all_moved one each (suc count) l =
      bind_moved (one l) (one (moved n l)) (λ first. read_all one count first.1 >>= λ others. Ok (item first.0 others.0, others.1))
      (λ first. read_all one count first.1 >>= λ others. Ok (item first.0 others.0, others.1)) (each l)
      (λ x. bind_moved (read_all one count x.1) (read_all one count (moved n x.1)) (λ others. Ok (item x.0 others.0, others.1))
      (λ others. Ok (item x.0 others.0, others.1)) (all_moved one each count x.1) (λ y. refl))

  children_moved : (one : Reader Item) → Moves one → (h : Head) → Moves (children one h)
  children_moved one each h l =
      cond_moved (h.major == 6) (one l >>= λ content. Ok (tag h.arg content.0, content.1))
      (read_all one (child_count h) l >>= λ items. Ok (list_item h items.0, items.1))
      (one (moved n l) >>= λ content. Ok (tag h.arg content.0, content.1))
      (read_all one (child_count h) (moved n l) >>= λ items. Ok (list_item h items.0, items.1))
      (bind_moved (one l) (one (moved n l)) (λ content. Ok (tag h.arg content.0, content.1)) (λ content. Ok (tag h.arg content.0, content.1))
      (each l) (λ x. refl))
      (bind_moved (read_all one (child_count h) l) (read_all one (child_count h) (moved n l)) (λ items. Ok (list_item h items.0, items.1))
      (λ items. Ok (list_item h items.0, items.1)) (all_moved one each (child_count h) l) (λ x. refl))

  abbrev EachMoves : Option (Reader Item) → Type 0
  EachMoves None = ⊤
  EachMoves (Some one) = Moves one

  parent_moved : (one : Option (Reader Item)) → EachMoves one → (place : ℕ) (h : Head) (l : Left) →
      parent one (n + place) h (moved n l) ≡ moved_outcome n (parent one place h l)
  parent_moved None each place h l = refl
  parent_moved (Some one) each place h l =
      cond_moved (nat_lt l.room (child_count h)) (refuse PastRoom place) (children one h l) (refuse PastRoom (n + place))
      (children one h (moved n l)) refl (children_moved one each h l)

  body_moved : (one : Option (Reader Item)) → EachMoves one → (place : ℕ) (h : Head) (l : Left) →
      body one (n + place) h (moved n l) ≡ moved_outcome n (body one place h l)
  body_moved one each place h l =
      cond_moved (is_string h) (string place h l) (if is_parent h then parent one place h l else ok (leaf h) l)
      (string (n + place) h (moved n l)) (if is_parent h then parent one (n + place) h (moved n l) else ok (leaf h) (moved n l))
      (string_moved place h l)
      (cond_moved (is_parent h) (parent one place h l) (ok (leaf h) l) (parent one (n + place) h (moved n l)) (ok (leaf h) (moved n l))
      (parent_moved one each place h l) refl)

  with_moved : (one : Option (Reader Item)) → EachMoves one → Moves (read_with one)
  with_moved one each l =
      bind_moved (head l) (head (moved n l)) (λ h. body one l.place h.0 h.1) (λ h. body one (n + l.place) h.0 h.1) (head_moved l)
      (λ x. body_moved one each l.place x.0 x.1)

  pub read_moves : (depth : ℕ) → Moves (read depth)
  unfolding read
  read_moves zero l = with_moved None tt l
  read_moves (suc depth) l = with_moved (Some (read depth)) (read_moves depth) l
