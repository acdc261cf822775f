-- The laws of each form of a phase: a settled reading stays, and one that isn't settled is Truncated where the bytes end.
use Rattle.std.proofs.Common.{◌≡◌, ℕ, ◌+◌, ◌≤◌, inl, inr, Bool, true, false, cond, List, ◌++◌, length, take, drop, Option, Some, None, Result, Ok, Err, refl, sym, ap, subst, ◌∙◌, arith, length-append, length-drop}
use Rattle.std.specs.Prelude.{max, ◌≢◌, nat_lt}
use Rattle.std.proofs.lemmas.Bool.{cases_lt, le-ltb, lt-ltb}
use Rattle.std.proofs.lemmas.List.{take-append-le, drop-append-le}
use Rattle.cose_head.specs.declared.head.Head.{Head}
use Rattle.cose_head.specs.declared.head.HeadStep.{HeadStep}
use Rattle.cose_head.specs.declared.head.HeadStep.TheVariants.{Got, More, Fault}
use Rattle.cose_head.specs.declared.reason.Reason.{Reason}
use Rattle.cose_head.specs.declared.reason.Reason.TheVariants.{Truncated}
use Rattle.cose_head.specs.declared.refusal.Refusal.{Refusal}
use Rattle.cose_head.specs.Head.{bare_head}
use Rattle.cose_head.specs.Item.{Item}
use Rattle.cose_head.specs.Open.{Open}
use Rattle.cose_head.specs.Laws.{HeadIsSpelled, HeadStays, ReadStays, ReadSteps, Steps, more}
use Rattle.cose_head.specs.Measured.{left_of}
use Rattle.cose_head.specs.Reading.{Left, Outcome, read}
use Rattle.cose_msg.specs.Answer.{refused}
use Rattle.cose_msg.specs.Laws.{Stays, EndsTruncated}
use Rattle.cose_msg.specs.Reading.{Findings, Reading, Phase, Next, stop, cut, past_head, with_head, with_string, is_truncated, past_item, with_item, unless, unless_fault, with_value, open_after}

-- A phase is stable: a settled reading stays, and one that is not settled is Truncated where the bytes end.
pub record Stable (phase : Phase) : Type 0 where
  pub stays : Stays phase
  pub ends : EndsTruncated phase

-- The laws of heads and items that these proofs cite.
abbrev pub HeadIsDefinite : Type 0
HeadIsDefinite = (bytes : List ℕ) (reason : Reason) → bare_head bytes ≡ Fault reason → reason ≢ Truncated

pub record HeadLaws : Type 0 where
  pub faults : HeadIsDefinite
  pub spelled : HeadIsSpelled
  pub head_stays : HeadStays
  pub read_stays : ReadStays
  pub steps : ReadSteps

open_at : (n m : ℕ) (reading : Reading) → n ≡ m → reading.answer ≡ refused Truncated n → reading.answer ≡ refused Truncated m
open_at n m reading same h = subst (λ (place : ℕ). reading.answer ≡ refused Truncated place) same h

-- What is settled at once, whatever the bytes.
pub settled-stable : (f : ℕ → Reading) → ((place : ℕ) → (f place).settled ≡ true) → Stable (λ place bytes. f place)
settled-stable f h = record { stays = λ more place bytes e. refl; ends = λ place bytes e. absurd (let never : true ≡ false = sym (h place) ∙ e in cc) }

-- ---- a head

module _ (laws : HeadLaws) where
  pub head_there : (bytes : List ℕ) (head : Head) (used : ℕ) → bare_head bytes ≡ Got head used → used ≤ length bytes
  head_there bytes head used e =
      let spelled = (laws.spelled bytes head used).0 e in
      omega (arith, spelled.ends, spelled.wide, ap length spelled.whole, length-append spelled.part spelled.rest)

  past_head-stays : (so_far : Findings) (next : Next Head) → ((at : ℕ) (head : Head) → Stable (next at head)) → (place : ℕ) (bytes more : List ℕ) (step : HeadStep) → bare_head bytes ≡ step → (past_head so_far next place bytes step).settled ≡ true → past_head so_far next place (bytes ++ more) step ≡ past_head so_far next place bytes step
  past_head-stays so_far next h place bytes more (Got head used) e done =
      let there : used ≤ length bytes = head_there bytes head used e in
      rw (drop-append-le used bytes more there) ((h place head).stays more (place + used) (drop used bytes) done)
  past_head-stays so_far next h place bytes more (More wanted) e done = absurd cc
  past_head-stays so_far next h place bytes more (Fault reason) e done = refl

  is_whole : (so_far : Findings) (next : Next Head) (place : ℕ) (bytes more : List ℕ) (step : HeadStep) → bare_head bytes ≡ step → (past_head so_far next place bytes step).settled ≡ true → bare_head (bytes ++ more) ≡ bare_head bytes
  is_whole so_far next place bytes more (Got head used) e done = laws.head_stays bytes more (rw e tt)
  is_whole so_far next place bytes more (More wanted) e done = absurd cc
  is_whole so_far next place bytes more (Fault reason) e done = laws.head_stays bytes more (rw e tt)

  with_head-stays : (so_far : Findings) (next : Next Head) → ((at : ℕ) (head : Head) → Stable (next at head)) → Stays (with_head so_far next)
  unfolding with_head
  with_head-stays so_far next h more place bytes done =
      rw (is_whole so_far next place bytes more (bare_head bytes) refl done) (past_head-stays so_far next h place bytes more (bare_head bytes) refl done)

  past_head-open : (so_far : Findings) (next : Next Head) → ((at : ℕ) (head : Head) → Stable (next at head)) → (place : ℕ) (bytes : List ℕ) (step : HeadStep) → bare_head bytes ≡ step → (past_head so_far next place bytes step).settled ≡ false → (past_head so_far next place bytes step).answer ≡ refused Truncated (place + length bytes)
  past_head-open so_far next h place bytes (Got head used) e unsettled =
      let there : used ≤ length bytes = head_there bytes head used e in
      open_at (place + used + length (drop used bytes)) (place + length bytes) (next place head (place + used) (drop used bytes)) (omega (arith, there, length-drop used bytes)) ((h place head).ends (place + used) (drop used bytes) unsettled)
  past_head-open so_far next h place bytes (More wanted) e unsettled = refl
  past_head-open so_far next h place bytes (Fault reason) e unsettled = absurd cc

  with_head-open : (so_far : Findings) (next : Next Head) → ((at : ℕ) (head : Head) → Stable (next at head)) → EndsTruncated (with_head so_far next)
  unfolding with_head
  with_head-open so_far next h place bytes unsettled = past_head-open so_far next h place bytes (bare_head bytes) refl unsettled

  pub with_head-stable : (so_far : Findings) (next : Next Head) → ((at : ℕ) (head : Head) → Stable (next at head)) → Stable (with_head so_far next)
  with_head-stable so_far next h = record { stays = with_head-stays so_far next h; ends = with_head-open so_far next h }

-- ---- a string

with_string-stays : (so_far : List ℕ → Findings) (n : ℕ) (next : Next (List ℕ)) → ((at : ℕ) (string : List ℕ) → Stable (next at string)) → Stays (with_string so_far n next)
unfolding with_string
with_string-stays so_far n next h more place bytes done =
    elim (cases_lt (length bytes) n) [
      | inl short ↦ absurd (let cut_short : nat_lt (length bytes) n ≡ true = lt-ltb (length bytes) n short in let never : false ≡ true = (rw cut_short at done) in cc)
      | inr there ↦
          let whole : nat_lt (length bytes) n ≡ false = le-ltb _ _ there in
          let longer : nat_lt (length (bytes ++ more)) n ≡ false = le-ltb _ _ (omega (arith, there, length-append bytes more)) in
          let after = rw whole at done in
          rw (whole, longer, take-append-le n bytes more there, drop-append-le n bytes more there) ((h place (take n bytes)).stays more (place + n) (drop n bytes) after)
    ]

with_string-open : (so_far : List ℕ → Findings) (n : ℕ) (next : Next (List ℕ)) → ((at : ℕ) (string : List ℕ) → Stable (next at string)) → EndsTruncated (with_string so_far n next)
unfolding with_string
with_string-open so_far n next h place bytes unsettled =
    elim (cases_lt (length bytes) n) [
      | inl short ↦ rw (lt-ltb (length bytes) n short) refl
      | inr there ↦
          let whole : nat_lt (length bytes) n ≡ false = le-ltb _ _ there in
          let after = rw whole at unsettled in
          rw whole (open_at (place + n + length (drop n bytes)) (place + length bytes) (next place (take n bytes) (place + n) (drop n bytes)) (omega (arith, there, length-drop n bytes)) ((h place (take n bytes)).ends (place + n) (drop n bytes) after))
    ]

pub with_string-stable : (so_far : List ℕ → Findings) (n : ℕ) (next : Next (List ℕ)) → ((at : ℕ) (string : List ℕ) → Stable (next at string)) → Stable (with_string so_far n next)
with_string-stable so_far n next h = record { stays = with_string-stays so_far n next h; ends = with_string-open so_far n next h }

-- ---- an item

pub not_truncated : (reason : Reason) → is_truncated reason ≡ false → reason ≢ Truncated
not_truncated reason e is = let never : true ≡ false = sym (ap is_truncated is) ∙ e in absurd cc

pub either_settled : (b : Bool) (x y : Reading) → x.settled ≡ false → (cond b x y).settled ≡ true → b ≡ false
either_settled true x y h e = absurd (let never : false ≡ true = sym h ∙ e in cc)
either_settled false x y h e = refl

refused_stays : (b : Bool) (x x' y : Reading) → x.settled ≡ false → (cond b x y).settled ≡ true → cond b x' y ≡ cond b x y
refused_stays true x x' y h e = absurd (let never : false ≡ true = sym h ∙ e in cc)
refused_stays false x x' y h e = refl

refused_open : (b : Bool) (n : ℕ) (x y : Reading) → y.settled ≡ true → x.answer ≡ refused Truncated n → (cond b x y).settled ≡ false → (cond b x y).answer ≡ refused Truncated n
refused_open true n x y h is e = is
refused_open false n x y h is e = absurd (let never : true ≡ false = sym h ∙ e in cc)

module _ (laws : HeadLaws) where
  pub item_there : (depth room : ℕ) (bytes : List ℕ) (found : Item × Left) → read depth (left_of bytes room 0) ≡ Ok found → found.1.place ≤ length bytes
  item_there depth room bytes found e =
      let step : Steps 1 (left_of bytes room 0) (Ok found) = rw e at (laws.steps depth (left_of bytes room 0)) in
      let place : found.1.place ≡ 0 + step.used = ap (λ (l : Left). l.place) step.left in
      omega (arith, place, step.there)

  past_item-stays : (so_far : ℕ → Findings) (still later : Open) (next : Next (List ℕ)) → ((at : ℕ) (content : List ℕ) → Stable (next at content)) → (room depth place : ℕ) (bytes more : List ℕ) (outcome : Outcome Item) → read depth (left_of bytes room 0) ≡ outcome
      → (past_item so_far still next place bytes outcome).settled ≡ true → past_item so_far later next place (bytes ++ more) (read depth (left_of (bytes ++ more) room 0)) ≡ past_item so_far still next place bytes outcome
  past_item-stays so_far still later next h room depth place bytes more (Ok found) e done =
      let there : found.1.place ≤ length bytes = item_there depth room bytes found e in
      let again = rw e at (laws.read_stays depth (left_of bytes room 0) more (rw e tt)) in
      rw (again, take-append-le found.1.place bytes more there, drop-append-le found.1.place bytes more there) ((h place (take found.1.place bytes)).stays more (place + found.1.place) (drop found.1.place bytes) done)
  past_item-stays so_far still later next h room depth place bytes more (Err refusal) e done =
      let definite : is_truncated refusal.reason ≡ false = either_settled (is_truncated refusal.reason) _ _ refl done in
      let again = rw e at (laws.read_stays depth (left_of bytes room 0) more (rw e (not_truncated refusal.reason definite))) in
      rw again (refused_stays (is_truncated refusal.reason) (cut (so_far still.items) (max 1 still.content) (place + length bytes)) (cut (so_far later.items) (max 1 later.content) (place + length (bytes ++ more))) _ refl done)

  with_item-stays : (so_far : ℕ → Findings) (room depth : ℕ) (next : Next (List ℕ)) → ((at : ℕ) (content : List ℕ) → Stable (next at content)) → Stays (with_item so_far room depth next)
  unfolding with_item
  with_item-stays so_far room depth next h more place bytes done = past_item-stays so_far (open_after room depth bytes) (open_after room depth (bytes ++ more)) next h room depth place bytes more (read depth (left_of bytes room 0)) refl done

  past_item-open : (so_far : ℕ → Findings) (still : Open) (next : Next (List ℕ)) → ((at : ℕ) (content : List ℕ) → Stable (next at content)) → (room depth place : ℕ) (bytes : List ℕ) (outcome : Outcome Item) → read depth (left_of bytes room 0) ≡ outcome
      → (past_item so_far still next place bytes outcome).settled ≡ false → (past_item so_far still next place bytes outcome).answer ≡ refused Truncated (place + length bytes)
  past_item-open so_far still next h room depth place bytes (Ok found) e unsettled =
      let there : found.1.place ≤ length bytes = item_there depth room bytes found e in
      open_at (place + found.1.place + length (drop found.1.place bytes)) (place + length bytes) (next place (take found.1.place bytes) (place + found.1.place) (drop found.1.place bytes)) (omega (arith, there, length-drop found.1.place bytes)) ((h place (take found.1.place bytes)).ends (place + found.1.place) (drop found.1.place bytes) unsettled)
  past_item-open so_far still next h room depth place bytes (Err refusal) e unsettled = refused_open (is_truncated refusal.reason) (place + length bytes) _ _ refl refl unsettled

  with_item-open : (so_far : ℕ → Findings) (room depth : ℕ) (next : Next (List ℕ)) → ((at : ℕ) (content : List ℕ) → Stable (next at content)) → EndsTruncated (with_item so_far room depth next)
  unfolding with_item
  with_item-open so_far room depth next h place bytes unsettled = past_item-open so_far (open_after room depth bytes) next h room depth place bytes (read depth (left_of bytes room 0)) refl unsettled

  pub with_item-stable : (so_far : ℕ → Findings) (room depth : ℕ) (next : Next (List ℕ)) → ((at : ℕ) (content : List ℕ) → Stable (next at content)) → Stable (with_item so_far room depth next)
  with_item-stable so_far room depth next h = record { stays = with_item-stays so_far room depth next h; ends = with_item-open so_far room depth next h }

-- ---- a test

pub unless_fault-stable : (so_far : Findings) (at : ℕ) (fault : Option Reason) (phase : Phase) → Stable phase → Stable (unless_fault so_far at fault phase)
unless_fault-stable so_far at (Some reason) phase h = settled-stable (λ place. stop so_far reason at) (λ place. refl)
unless_fault-stable so_far at None phase h = h

unless-stable : (so_far : Findings) (fault : Option Refusal) (phase : Phase) → Stable phase → Stable (unless so_far fault phase)
unless-stable so_far (Some refusal) phase h = settled-stable (λ place. stop so_far refusal.reason refusal.place) (λ place. refl)
unless-stable so_far None phase h = h

-- A test that depends on the place.
pub unless_at-stable : (so_far : Findings) (fault : ℕ → Option Refusal) (phase : Phase) → Stable phase → Stable (λ place. unless so_far (fault place) phase place)
unless_at-stable so_far fault phase h = record {
  stays = λ more place bytes done. (unless-stable so_far (fault place) phase h).stays more place bytes done;
  ends = λ place bytes unsettled. (unless-stable so_far (fault place) phase h).ends place bytes unsettled;
}

pub with_value-stable : {A : Type 0} (so_far : Findings) (value : Result A Refusal) (next : A → Phase) → ((x : A) → Stable (next x)) → Stable (with_value so_far value next)
with_value-stable so_far (Ok x) next h = h x
with_value-stable so_far (Err refusal) next h = settled-stable (λ place. stop so_far refusal.reason refusal.place) (λ place. refl)

pub either-stable : (b : Bool) (f g : Phase) → Stable f → Stable g → Stable (λ place bytes. cond b (f place bytes) (g place bytes))
either-stable true f g p q = p
either-stable false f g p q = q
