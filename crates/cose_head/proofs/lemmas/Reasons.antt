-- The reasons for which reading refuses.
use Rattle.std.proofs.Common.{◌≡◌, ◌⊎◌, inl, inr, ⊎_elim, ℕ, zero, suc, ◌-◌, List, [], ◌∷◌, length, take, Option, Some, None, Ok, Err, IfErr, if◌then◌else◌, refl, arith}
use Rattle.std.proofs.lemmas.Bool.{cond_both}
use Rattle.std.specs.List.{Contains}
use Rattle.std.specs.Prelude.{nat_lt, ◌==◌, ⊤}
use Rattle.cose_head.specs.declared.head.Head.{Head}
use Rattle.cose_head.specs.declared.head.HeadStep.{HeadStep}
use Rattle.cose_head.specs.declared.head.HeadStep.TheVariants.{Got, More, Fault}
use Rattle.cose_head.specs.declared.reason.Reason.{Reason}
use Rattle.cose_head.specs.declared.reason.Reason.TheVariants.{Truncated, Reserved, Indefinite, BadSimple, TooDeep, PastRoom, Trailing}
use Rattle.cose_head.specs.declared.refusal.Refusal.{Refusal}
use Rattle.cose_head.specs.Head.{major_of, low_of, argument_length, head_of, is_bad_simple, simple_checked, after_initial, bare_head}
use Rattle.cose_head.specs.Item.{Item, item, tag}
use Rattle.cose_head.specs.Measured.{left_of}
use Rattle.cose_head.specs.Placed.{Placed}
use Rattle.cose_head.specs.Reading.{Left, Outcome, Reader, ◌>>=◌, after, refuse, truncated, checked, past_initial, at_initial, string, string_item, is_string, is_parent, leaf, body, parent, children, child_count, list_item, read_all, read_with, read, head}
use Rattle.cose_head.specs.Reason.{head_reasons, item_reasons, whole_reasons}
use Rattle.cose_head.specs.Whole.{nothing_after, whole}
use Rattle.cose_head.proofs.lemmas.Head.HeadCases.{low_cases}
use Rattle.cose_head.proofs.lemmas.Reading.ReadLaws.{truncated_has_room}

-- what holds of the reasons of heads and of items holds of every refusal of reading
module _ (P : Reason → Type 0) (reserved : P Reserved) (indefinite : P Indefinite) (bad_simple : P BadSimple) where
  abbrev IfFault : HeadStep → Type 0
  IfFault (Fault reason) = P reason
  IfFault _ = ⊤

  bare_fault : (bytes : List ℕ) → IfFault (bare_head bytes)
  unfolding bare_head
  bare_fault [] = tt
  bare_fault (initial ∷ rest) =
      let wanted : ℕ = argument_length (low_of initial) in
      let h : Head = head_of initial (take wanted rest) in
      low_cases (major_of initial) (low_of initial) (λ fault. IfFault (after_initial fault wanted initial rest))
      (λ definite. cond_both (nat_lt (length rest) wanted) (More (wanted - length rest)) (simple_checked h) IfFault (λ e. tt)
      (λ e. cond_both (is_bad_simple h) (Fault BadSimple) (Got h h.width) IfFault (λ f. bad_simple) (λ f. tt)))
      reserved indefinite

  pub bare_by : (bytes : List ℕ) (reason : Reason) → bare_head bytes ≡ Fault reason → P reason
  bare_by bytes reason e = rw e at (bare_fault bytes)

  module _ (too_short : P Truncated) (too_deep : P TooDeep) (past_room : P PastRoom) where
    abbrev Refuses : {A : Type 0} → Outcome A → Type 0
    Refuses o = IfErr o (λ refusal. P refusal.reason)

    bind_by : {A B : Type 0} (m : Outcome A) (f : A × Left → Outcome B) → Refuses m → ((x : A × Left) → Refuses (f x)) → Refuses (m >>= f)
    bind_by (Ok x) f first next = next x
    bind_by (Err refusal) f first next = first

    initial_by : (bytes : List ℕ) (l : Left) → Refuses (at_initial bytes l)
    initial_by [] l = too_short
    initial_by (initial ∷ rest) l =
        let wanted : ℕ = argument_length (low_of initial) in
        let h : Head = head_of initial (take wanted rest) in
        low_cases (major_of initial) (low_of initial) (λ fault. Refuses (past_initial fault wanted initial rest l))
        (λ definite. cond_both (nat_lt (l.room - 1) wanted) (refuse PastRoom l.place)
        (if nat_lt (length rest) wanted then truncated l else checked h l) Refuses (λ e. past_room)
        (λ e. cond_both (nat_lt (length rest) wanted) (truncated l) (checked h l) Refuses (λ f. too_short)
        (λ f. cond_both (is_bad_simple h) (refuse BadSimple l.place) (Ok (h, after h.width l)) Refuses (λ g. bad_simple) (λ g. tt))))
        reserved indefinite

    head_by : (l : Left) → Refuses (head l)
    unfolding head
    head_by l = cond_both (l.room == 0) (refuse PastRoom l.place) (at_initial l.bytes l) Refuses (λ e. past_room) (λ e. initial_by l.bytes l)

    string_by : (place : ℕ) (h : Head) (l : Left) → Refuses (string place h l)
    string_by place h l =
        cond_both (nat_lt l.room h.arg) (refuse PastRoom place)
        (if nat_lt (length l.bytes) h.arg then truncated l else Ok (string_item h (take h.arg l.bytes), after h.arg l)) Refuses (λ e. past_room)
        (λ e. cond_both (nat_lt (length l.bytes) h.arg) (truncated l) (Ok (string_item h (take h.arg l.bytes), after h.arg l)) Refuses
        (λ f. too_short) (λ f. tt))

    all_by : (one : Reader Item) → ((l : Left) → Refuses (one l)) → (n : ℕ) (l : Left) → Refuses (read_all one n l)
    all_by one each zero l = tt
    all_by one each (suc n) l =
        bind_by (one l) (λ first. read_all one n first.1 >>= λ others. Ok (item first.0 others.0, others.1)) (each l)
        (λ x. bind_by (read_all one n x.1) (λ others. Ok (item x.0 others.0, others.1)) (all_by one each n x.1) (λ y. tt))

    children_by : (one : Reader Item) → ((l : Left) → Refuses (one l)) → (h : Head) (l : Left) → Refuses (children one h l)
    children_by one each h l =
        cond_both (h.major == 6) (one l >>= λ content. Ok (tag h.arg content.0, content.1))
        (read_all one (child_count h) l >>= λ items. Ok (list_item h items.0, items.1)) Refuses
        (λ e. bind_by (one l) (λ content. Ok (tag h.arg content.0, content.1)) (each l) (λ x. tt))
        (λ e. bind_by (read_all one (child_count h) l) (λ items. Ok (list_item h items.0, items.1)) (all_by one each (child_count h) l) (λ x. tt))

    abbrev EachBy : Option (Reader Item) → Type 0
    EachBy None = ⊤
    EachBy (Some one) = (l : Left) → Refuses (one l)

    parent_by : (one : Option (Reader Item)) → EachBy one → (place : ℕ) (h : Head) (l : Left) → Refuses (parent one place h l)
    parent_by None each place h l = too_deep
    parent_by (Some one) each place h l =
        cond_both (nat_lt l.room (child_count h)) (refuse PastRoom place) (children one h l) Refuses (λ e. past_room)
        (λ e. children_by one each h l)

    body_by : (one : Option (Reader Item)) → EachBy one → (place : ℕ) (h : Head) (l : Left) → Refuses (body one place h l)
    body_by one each place h l =
        cond_both (is_string h) (string place h l) (if is_parent h then parent one place h l else Ok (leaf h, l)) Refuses
        (λ e. string_by place h l)
        (λ e. cond_both (is_parent h) (parent one place h l) (Ok (leaf h, l)) Refuses (λ f. parent_by one each place h l) (λ f. tt))

    with_by : (one : Option (Reader Item)) → EachBy one → (l : Left) → Refuses (read_with one l)
    with_by one each l = bind_by (head l) (λ h. body one l.place h.0 h.1) (head_by l) (λ x. body_by one each l.place x.0 x.1)

    read_refuses : (depth : ℕ) (l : Left) → Refuses (read depth l)
    unfolding read
    read_refuses zero l = with_by None tt l
    read_refuses (suc depth) l = with_by (Some (read depth)) (read_refuses depth) l

    pub read_by : (depth : ℕ) (l : Left) (refusal : Refusal) → read depth l ≡ Err refusal → P refusal.reason
    read_by depth l refusal e = rw e at (read_refuses depth l)

pub head_reason : (bytes : List ℕ) (reason : Reason) → bare_head bytes ≡ Fault reason → Contains head_reasons reason
head_reason = bare_by (Contains head_reasons) (0, omega arith, refl) (1, omega arith, refl) (2, omega arith, refl)

pub item_reason : (depth : ℕ) (l : Left) (refusal : Refusal) → read depth l ≡ Err refusal → Contains item_reasons refusal.reason
item_reason = read_by (Contains item_reasons) (1, omega arith, refl) (2, omega arith, refl) (3, omega arith, refl)
    (0, omega arith, refl) (4, omega arith, refl) (5, omega arith, refl)

-- of bytes that fill their room
filled : (depth : ℕ) (l : Left) (refusal : Refusal) → l.room ≡ length l.bytes → read depth l ≡ Err refusal → Contains whole_reasons refusal.reason
filled depth l refusal full e =
    let P : Reason → Type 0 = λ reason. (reason ≡ Truncated) ⊎ Contains whole_reasons reason in
    let found : P refusal.reason = read_by P (inr (0, omega arith, refl)) (inr (1, omega arith, refl)) (inr (2, omega arith, refl))
    (inl refl) (inr (3, omega arith, refl)) (inr (4, omega arith, refl)) depth l refusal e in
    ⊎_elim (λ short. let room = (truncated_has_room depth l refusal e short).1 in absurd (omega arith)) (λ known. known) found

found_reason : (p : Placed) (depth : ℕ) (found : Outcome Item) → read depth (left_of p.bytes (length p.bytes) p.place) ≡ found →
    IfErr (nothing_after p found) (λ refusal. Contains whole_reasons refusal.reason)
found_reason p depth (Ok found) e =
    cond_both (length found.1.bytes == 0) (Ok p) (Err (record { reason = Trailing; place = found.1.place }))
    (λ answer. IfErr answer (λ refusal. Contains whole_reasons refusal.reason)) (λ none. tt) (λ some. (5, omega arith, refl))
found_reason p depth (Err refusal) e = filled depth (left_of p.bytes (length p.bytes) p.place) refusal refl e

pub whole_reason : (depth : ℕ) (p : Placed) (refusal : Refusal) → whole depth p ≡ Err refusal → Contains whole_reasons refusal.reason
whole_reason depth p refusal e = rw e at (found_reason p depth (read depth (left_of p.bytes (length p.bytes) p.place)) refl)
