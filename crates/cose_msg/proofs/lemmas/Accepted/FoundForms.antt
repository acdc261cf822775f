-- What was read is spelled: what each form of a phase finds in the bytes, where the message isn't refused.
use Rattle.std.proofs.Common.{◌≡◌, ℕ, ◌+◌, ◌-◌, ◌≤◌, Bool, true, false, cond, List, ◌++◌, length, take, drop, Option, Some, None, Result, Ok, Err, refl, sym, ap, subst, ◌∙◌, append_assoc, arith, length-append, zero-add}
use Rattle.std.specs.Prelude.{max, ◌-◌, nat_lt}
use Rattle.std.proofs.lemmas.Bool.{ltb-false}
use Rattle.std.proofs.lemmas.List.{take_at, drop_at, take-append-drop, length-take-le}
use Rattle.cose_head.specs.declared.head.Head.{Head}
use Rattle.cose_head.specs.declared.head.HeadStep.{HeadStep}
use Rattle.cose_head.specs.declared.head.HeadStep.TheVariants.{Got, More, Fault}
use Rattle.cose_head.specs.declared.reason.Reason.{Reason}
use Rattle.cose_head.specs.declared.reason.Reason.TheVariants.{Truncated}
use Rattle.cose_head.specs.declared.refusal.Refusal.{Refusal}
use Rattle.cose_head.specs.Head.{bare_head}
use Rattle.cose_head.specs.Item.{Item, byte_string, depth_of, IsHead, Spells}
use Rattle.cose_head.specs.Laws.{SpellsHead, IsSpelled}
use Rattle.cose_head.specs.Measured.{left_of}
use Rattle.cose_head.specs.Open.{Open}
use Rattle.cose_head.specs.Reading.{Outcome, read}
use Rattle.cose_msg.specs.Answer.{Answer, refused}
use Rattle.cose_msg.specs.Reading.{Findings, Reading, Phase, Next, stop, cut, past_head, with_head, with_string, is_truncated, past_item, with_item, unless, unless_fault, with_value, open_after}
use Rattle.cose_msg.proofs.lemmas.Spelling.Spelled.{SpellingLaws}

-- The answer of a phase at a place.
abbrev pub Comes : Phase → ℕ → List ℕ → Answer → Type 0
Comes phase place bytes answer = (phase place bytes).answer ≡ answer

-- It is no refusal. So no phase on the way to it has refused the bytes.
abbrev pub NotRefused : Answer → Type 0
NotRefused answer = (reason : Reason) (place : ℕ) → refused reason place ≡ answer → ⊥

-- Places and bytes that are equal.
pub comes_at : (phase : Phase) (place other : ℕ) (bytes rest : List ℕ) (answer : Answer) → place ≡ other → bytes ≡ rest → Comes phase place bytes answer → Comes phase other rest answer
comes_at phase place other bytes rest answer same left comes =
    subst (λ (n : ℕ). Comes phase n rest answer) same (subst (λ (list : List ℕ). Comes phase place list answer) left comes)

content_at : (next : ℕ → Next (List ℕ)) (place begun begins ended ends : ℕ) (content rest : List ℕ) (answer : Answer) → begun ≡ begins → ended ≡ ends
    → Comes (next place begun content) ended rest answer → Comes (next place begins content) ends rest answer
content_at next place begun begins ended ends content rest answer p q comes =
    subst (λ (n : ℕ). Comes (next place n content) ends rest answer) p (subst (λ (n : ℕ). Comes (next place begun content) n rest answer) q comes)

-- ---- what is found

-- A head, at the beginning of the bytes, and what comes after it.
pub record HeadFound (next : Next Head) (place : ℕ) (bytes : List ℕ) (answer : Answer) : Type 0 where
  pub head : Head
  pub part : List ℕ
  pub rest : List ℕ
  pub is : bytes ≡ part ++ rest
  pub is_head : IsHead part head.major head.arg
  pub wide : length part ≡ head.width
  pub comes : Comes (next place head) (place + length part) rest answer

-- This many bytes.
record BytesFound (n : ℕ) (next : Next (List ℕ)) (place : ℕ) (bytes : List ℕ) (answer : Answer) : Type 0 where
  content : List ℕ
  rest : List ℕ
  is : bytes ≡ content ++ rest
  long : length content ≡ n
  comes : Comes (next place content) (place + n) rest answer

-- A byte string, head and content, of a length that fits. Its content ends where it does.
pub record StringFound (Fits : ℕ → Type 0) (next : ℕ → Next (List ℕ)) (place : ℕ) (bytes : List ℕ) (answer : Answer) : Type 0 where
  pub content : List ℕ
  pub part : List ℕ
  pub rest : List ℕ
  pub is : bytes ≡ part ++ rest
  pub spelled : Spells part (byte_string content)
  pub fits : Fits (length content)
  pub comes : Comes (next place (place + length part - length content) content) (place + length part) rest answer

-- An item within the room and the nesting allowance.
pub record ItemFound (room nesting : ℕ) (next : Next (List ℕ)) (place : ℕ) (bytes : List ℕ) (answer : Answer) : Type 0 where
  pub content : Item
  pub part : List ℕ
  pub rest : List ℕ
  pub is : bytes ≡ part ++ rest
  pub spelled : Spells part content
  pub fits : length part ≤ room
  pub nests : depth_of content ≤ nesting
  pub comes : Comes (next place part) (place + length part) rest answer

-- A value that a test gives.
pub record ValueFound {A E : Type 0} (value : Result A E) (next : A → Phase) (place : ℕ) (bytes : List ℕ) (answer : Answer) : Type 0 where
  pub found : A
  pub is : value ≡ Ok found
  pub comes : Comes (next found) place bytes answer

spelled_string : (head content : List ℕ) → IsHead head 2 (length content) → Spells (head ++ content) (byte_string content)
unfolding Spells
spelled_string head content is = record { head = head; rest = content; whole = refl; is_head = is; is_rest = refl }

-- ---- the forms

module _ (answer : Answer) (unrefused : NotRefused answer) where
  -- Of two readings of which the first is refused, the other is taken; and one of them can't be refused.
  pub past_refusal : (b : Bool) (x y : Reading) → (x.answer ≡ answer → ⊥) → (cond b x y).answer ≡ answer → (b ≡ false) × (y.answer ≡ answer)
  past_refusal true x y h comes = absurd (h comes)
  past_refusal false x y h comes = (refl, comes)

  both_refused : (b : Bool) (x y : Reading) → (x.answer ≡ answer → ⊥) → (y.answer ≡ answer → ⊥) → (cond b x y).answer ≡ answer → ⊥
  both_refused true x y h k comes = h comes
  both_refused false x y h k comes = k comes

  bytes_found : (so_far : List ℕ → Findings) (n : ℕ) (next : Next (List ℕ)) (place : ℕ) (bytes : List ℕ) → Comes (with_string so_far n next) place bytes answer → BytesFound n next place bytes answer
  unfolding with_string
  bytes_found so_far n next place bytes comes =
      let both = past_refusal (nat_lt (length bytes) n) (cut (so_far bytes) (n - length bytes) (place + length bytes)) (next place (take n bytes) (place + n) (drop n bytes)) (unrefused Truncated (place + length bytes)) comes in
      record {
        content = take n bytes;
        rest = drop n bytes;
        is = sym (take-append-drop n bytes);
        long = length-take-le n bytes (ltb-false (length bytes) n both.0);
        comes = both.1;
      }

  -- ---- tests

  pub unless_fault_found : (so_far : Findings) (at : ℕ) (fault : Option Reason) (phase : Phase) (place : ℕ) (bytes : List ℕ) → Comes (unless_fault so_far at fault phase) place bytes answer → (fault ≡ None) × Comes phase place bytes answer
  unless_fault_found so_far at (Some reason) phase place bytes comes = absurd (unrefused reason at comes)
  unless_fault_found so_far at None phase place bytes comes = (refl, comes)

  pub unless_found : (so_far : Findings) (fault : Option Refusal) (phase : Phase) (place : ℕ) (bytes : List ℕ) → Comes (unless so_far fault phase) place bytes answer → (fault ≡ None) × Comes phase place bytes answer
  unless_found so_far (Some refusal) phase place bytes comes = absurd (unrefused refusal.reason refusal.place comes)
  unless_found so_far None phase place bytes comes = (refl, comes)

  pub value_found : {A : Type 0} (so_far : Findings) (value : Result A Refusal) (next : A → Phase) (place : ℕ) (bytes : List ℕ) → Comes (with_value so_far value next) place bytes answer → ValueFound value next place bytes answer
  value_found so_far (Err refusal) next place bytes comes = absurd (unrefused refusal.reason refusal.place comes)
  value_found so_far (Ok x) next place bytes comes = record { found = x; is = refl; comes = comes }

  module _ (laws : SpellingLaws) where
    -- ---- a head

    past_head_found : (so_far : Findings) (next : Next Head) (place : ℕ) (bytes : List ℕ) (step : HeadStep) → bare_head bytes ≡ step → (past_head so_far next place bytes step).answer ≡ answer → HeadFound next place bytes answer
    past_head_found so_far next place bytes (Got head used) e comes =
        let s : SpellsHead bytes head used = (laws.head bytes head used).0 e in
        let long : length s.part ≡ used = s.wide ∙ sym s.ends in
        let left : drop used bytes ≡ s.rest = ap (λ (list : List ℕ). drop used list) s.whole ∙ drop_at s.part s.rest used long in
        record {
          head = head;
          part = s.part;
          rest = s.rest;
          is = s.whole;
          is_head = s.is_head;
          wide = s.wide;
          comes = comes_at (next place head) (place + used) (place + length s.part) (drop used bytes) s.rest answer (ap (λ (n : ℕ). place + n) (sym long)) left comes;
        }
    past_head_found so_far next place bytes (More wanted) e comes = absurd (unrefused Truncated (place + length bytes) comes)
    past_head_found so_far next place bytes (Fault reason) e comes = absurd (unrefused reason place comes)

    pub head_found : (so_far : Findings) (next : Next Head) (place : ℕ) (bytes : List ℕ) → Comes (with_head so_far next) place bytes answer → HeadFound next place bytes answer
    unfolding with_head
    head_found so_far next place bytes comes = past_head_found so_far next place bytes (bare_head bytes) refl comes

    -- ---- an item

    past_item_found : (so_far : ℕ → Findings) (still : Open) (room nesting : ℕ) (next : Next (List ℕ)) (place : ℕ) (bytes : List ℕ) (outcome : Outcome Item) → read nesting (left_of bytes room 0) ≡ outcome → (past_item so_far still next place bytes outcome).answer ≡ answer → ItemFound room nesting next place bytes answer
    past_item_found so_far still room nesting next place bytes (Ok found) e comes =
        let s : IsSpelled nesting (left_of bytes room 0) found.0 found.1 = (laws.item nesting (left_of bytes room 0) found.0 found.1).0 e in
        let long : length s.0.part ≡ found.1.place = sym (zero-add (length s.0.part)) ∙ sym s.0.place in
        let front : take found.1.place bytes ≡ s.0.part = ap (λ (list : List ℕ). take found.1.place list) s.0.whole ∙ take_at s.0.part found.1.bytes found.1.place long in
        let left : drop found.1.place bytes ≡ found.1.bytes = ap (λ (list : List ℕ). drop found.1.place list) s.0.whole ∙ drop_at s.0.part found.1.bytes found.1.place long in
        let after : Comes (next place s.0.part) (place + found.1.place) (drop found.1.place bytes) answer =
        subst (λ (list : List ℕ). Comes (next place list) (place + found.1.place) (drop found.1.place bytes) answer) front comes in
        record {
          content = found.0;
          part = s.0.part;
          rest = found.1.bytes;
          is = s.0.whole;
          spelled = s.0.is_part;
          fits = omega (arith, s.0.room);
          nests = s.1;
          comes = comes_at (next place s.0.part) (place + found.1.place) (place + length s.0.part) (drop found.1.place bytes) found.1.bytes answer (ap (λ (n : ℕ). place + n) (sym long)) left after;
        }
    past_item_found so_far still room nesting next place bytes (Err refusal) e comes = absurd (both_refused (is_truncated refusal.reason) (cut (so_far still.items) (max 1 still.content) (place + length bytes)) (stop (so_far 0) refusal.reason (place + refusal.place))
        (unrefused Truncated (place + length bytes)) (unrefused refusal.reason (place + refusal.place)) comes)

    pub item_found : (so_far : ℕ → Findings) (room nesting : ℕ) (next : Next (List ℕ)) (place : ℕ) (bytes : List ℕ) → Comes (with_item so_far room nesting next) place bytes answer → ItemFound room nesting next place bytes answer
    unfolding with_item
    item_found so_far room nesting next place bytes comes = past_item_found so_far (open_after room nesting bytes) room nesting next place bytes (read nesting (left_of bytes room 0)) refl comes

    -- ---- a byte string

    -- The form of the three phases that have one: its head, which is tested, and then the bytes that it announces.
    abbrev pub string_form : Findings → (List ℕ → Findings) → (Head → Option Reason) → (ℕ → Next (List ℕ)) → Phase
    string_form so_far along fault next = with_head so_far (λ at head. unless_fault so_far at (fault head) (with_string along head.arg (next at)))

    pub string_found : (so_far : Findings) (along : List ℕ → Findings) (fault : Head → Option Reason) (Fits : ℕ → Type 0) → ((head : Head) → fault head ≡ None → (head.major ≡ 2) × Fits head.arg)
        → (next : ℕ → Next (List ℕ)) (place : ℕ) (bytes : List ℕ) → Comes (string_form so_far along fault next) place bytes answer → StringFound Fits next place bytes answer
    string_found so_far along fault Fits good next place bytes comes =
        let h = head_found so_far (λ at head. unless_fault so_far at (fault head) (with_string along head.arg (next at))) place bytes comes in
        let begun : ℕ = place + length h.part in
        let tested = unless_fault_found so_far place (fault h.head) (with_string along h.head.arg (next place)) begun h.rest h.comes in
        let fits = good h.head tested.0 in
        let s = bytes_found along h.head.arg (next place) begun h.rest tested.1 in
        let is_head : IsHead h.part 2 (length s.content) =
        subst (λ (n : ℕ). IsHead h.part 2 n) (sym s.long) (subst (λ (major : ℕ). IsHead h.part major h.head.arg) fits.0 h.is_head) in
        let end : ℕ = place + length (h.part ++ s.content) in
        let begins : begun ≡ end - length s.content = omega (arith, length-append h.part s.content) in
        let ends : begun + h.head.arg ≡ end = omega (arith, length-append h.part s.content, s.long) in
        record {
          content = s.content;
          part = h.part ++ s.content;
          rest = s.rest;
          is = h.is ∙ ap (λ (list : List ℕ). h.part ++ list) s.is ∙ sym (append_assoc h.part s.content s.rest);
          spelled = spelled_string h.part s.content is_head;
          fits = subst Fits (sym s.long) fits.1;
          comes = content_at next place begun (end - length s.content) (begun + h.head.arg) end s.content s.rest answer begins ends s.comes;
        }
