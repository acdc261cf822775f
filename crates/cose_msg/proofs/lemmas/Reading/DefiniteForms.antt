-- The forms of a phase, once more: no refusal of a settled reading is Truncated, and no place of a reading is after the
-- bytes.
use Rattle.std.proofs.Common.{◌≡◌, ℕ, ◌+◌, ◌<◌, ◌≤◌, inl, inr, Bool, true, false, cond, List, length, take, drop, Option, Some, None, Result, Ok, Err, refl, ap, subst, arith, length-drop}
use Rattle.std.specs.Prelude.{max, ◌-◌, ◌≢◌, IfErr, IfSome}
use Rattle.std.proofs.lemmas.Bool.{cases_lt, le-ltb, lt-ltb}
use Rattle.std.proofs.lemmas.List.{length-take-le}
use Rattle.cose_head.specs.declared.head.Head.{Head}
use Rattle.cose_head.specs.declared.head.HeadStep.{HeadStep}
use Rattle.cose_head.specs.declared.head.HeadStep.TheVariants.{Got, More, Fault}
use Rattle.cose_head.specs.declared.reason.Reason.{Reason}
use Rattle.cose_head.specs.declared.reason.Reason.TheVariants.{Truncated}
use Rattle.cose_head.specs.declared.refusal.Refusal.{Refusal}
use Rattle.cose_head.specs.Head.{bare_head}
use Rattle.cose_head.specs.Item.{Item}
use Rattle.cose_head.specs.Open.{Open}
use Rattle.cose_head.specs.Laws.{Steps}
use Rattle.cose_head.specs.Measured.{left_of}
use Rattle.cose_head.specs.Reading.{Outcome, read}
use Rattle.cose_msg.specs.declared.verdict.Verdict.TheVariants.{Authentic, Refused}
use Rattle.cose_msg.specs.Answer.{Answer, decided, complete, shaped}
use Rattle.cose_msg.specs.Laws.{IsDefinite, PlacedBefore, PlacedBy}
use Rattle.cose_msg.specs.Reading.{Findings, Reading, Phase, Next, awaits, stop, cut, past_head, with_head, with_string, is_truncated, past_item, with_item, unless, unless_fault, with_value, open_after}
use Rattle.cose_msg.proofs.lemmas.Reading.Forms.{HeadLaws, head_there, item_there, not_truncated}

-- A reading of this many bytes is definite: it is not Truncated where it is settled, and no place of it is after them.
pub record IsDefiniteBy (end : ℕ) (reading : Reading) : Type 0 where
  pub inside : PlacedBy end reading.answer
  pub definite : reading.settled ≡ true → reading.payload_wanted ≡ 0 → IsDefinite reading.answer
  pub before : 0 < reading.payload_wanted → PlacedBefore end reading.answer

-- The property of a phase, at any place from this one on.
abbrev pub DefiniteFrom : ℕ → Phase → Type 0
DefiniteFrom from phase = (place : ℕ) (bytes : List ℕ) → from ≤ place → IsDefiniteBy (place + length bytes) (phase place bytes)

pub reads_on_later : (end later : ℕ) (answer : Answer) → end ≤ later → PlacedBy end answer → PlacedBy later answer
reads_on_later end later (decided (Refused refusal)) le h = omega arith
reads_on_later end later (decided (Authentic kind alg payload taken)) le h = omega arith
reads_on_later end later (complete whole) le h = omega arith
reads_on_later end later (shaped kind payload auth taken) le h = omega arith

definite_at : (n m : ℕ) (reading : Reading) → n ≡ m → IsDefiniteBy n reading → IsDefiniteBy m reading
definite_at n m reading same h = subst (λ (end : ℕ). IsDefiniteBy end reading) same h

cut-definite : (so_far : Findings) (wanted end : ℕ) → IsDefiniteBy end (cut so_far wanted end)
cut-definite so_far wanted end = record { inside = omega arith; definite = λ e. absurd (let never : false ≡ true = e in cc); before = λ some. absurd (omega (arith, some)) }

pub stop-definite : (so_far : Findings) (reason : Reason) (place end : ℕ) → place ≤ end → reason ≢ Truncated → IsDefiniteBy end (stop so_far reason place)
stop-definite so_far reason place end le h = record { inside = le; definite = λ e none. h; before = λ some. absurd (omega (arith, some)) }

-- Bytes of a detached payload are missing, and the message goes on after its nil.
pub awaits-definite : (so_far : Findings) (missing place end : ℕ) → 0 < missing → place < end → IsDefiniteBy end (awaits so_far missing place)
awaits-definite so_far missing place end some lt = record { inside = omega (arith, lt); definite = λ e none. absurd (omega (arith, none, some)); before = λ e. lt }

-- ---- a head

module _ (laws : HeadLaws) where
  head_some : (bytes : List ℕ) (head : Head) (used : ℕ) → bare_head bytes ≡ Got head used → 0 < used
  head_some bytes head used e =
      let spelled = (laws.spelled bytes head used).0 e in
      omega (arith, spelled.ends, spelled.wide, ap length spelled.is_head.whole)

  past_head-definite : (so_far : Findings) (next : Next Head) → ((at : ℕ) (head : Head) → DefiniteFrom (at + 1) (next at head)) → (place : ℕ) (bytes : List ℕ) (step : HeadStep) → bare_head bytes ≡ step → IsDefiniteBy (place + length bytes) (past_head so_far next place bytes step)
  past_head-definite so_far next h place bytes (Got head used) e =
      let there : used ≤ length bytes = head_there laws bytes head used e in
      definite_at (place + used + length (drop used bytes)) (place + length bytes) _ (omega (arith, there, length-drop used bytes)) (h place head (place + used) (drop used bytes) (omega (arith, head_some bytes head used e)))
  past_head-definite so_far next h place bytes (More wanted) e = cut-definite so_far 1 (place + length bytes)
  past_head-definite so_far next h place bytes (Fault reason) e = stop-definite so_far reason place (place + length bytes) (omega arith) (laws.faults bytes reason e)

  -- What follows a head is at a later place.
  pub after_head-definite : (so_far : Findings) (next : Next Head) (from : ℕ) → ((at : ℕ) (head : Head) → DefiniteFrom (at + 1) (next at head)) → DefiniteFrom from (with_head so_far next)
  unfolding with_head
  after_head-definite so_far next from h place bytes le = past_head-definite so_far next h place bytes (bare_head bytes) refl

  pub with_head-definite : (so_far : Findings) (next : Next Head) (from : ℕ) → ((at : ℕ) (head : Head) → DefiniteFrom at (next at head)) → DefiniteFrom from (with_head so_far next)
  with_head-definite so_far next from h = after_head-definite so_far next from (λ at head place bytes le. h at head place bytes (omega (arith, le)))

-- ---- a string

pub with_string-definite : (so_far : List ℕ → Findings) (n : ℕ) (next : Next (List ℕ)) (from : ℕ) → ((at : ℕ) (string : List ℕ) → from ≤ at → DefiniteFrom (at + length string) (next at string)) → DefiniteFrom from (with_string so_far n next)
unfolding with_string
with_string-definite so_far n next from h place bytes le =
    elim (cases_lt (length bytes) n) [
      | inl short ↦ rw (lt-ltb (length bytes) n short) (cut-definite (so_far bytes) (n - length bytes) (place + length bytes))
      | inr there ↦
          let all : length (take n bytes) ≡ n = length-take-le n bytes there in
          rw (le-ltb (length bytes) n there) (definite_at (place + n + length (drop n bytes)) (place + length bytes) _ (omega (arith, there, length-drop n bytes)) (h place (take n bytes) le (place + n) (drop n bytes) (omega (arith, all))))
    ]

-- ---- an item

either-definite : (b : Bool) (end : ℕ) (x y : Reading) → IsDefiniteBy end x → (b ≡ false → IsDefiniteBy end y) → IsDefiniteBy end (cond b x y)
either-definite true end x y p q = p
either-definite false end x y p q = q refl

module _ (laws : HeadLaws) where
  past_item-definite : (so_far : ℕ → Findings) (still : Open) (next : Next (List ℕ)) (from : ℕ) → ((at : ℕ) (content : List ℕ) → from ≤ at → DefiniteFrom (at + length content) (next at content)) → (room depth place : ℕ) (bytes : List ℕ) (outcome : Outcome Item) → read depth (left_of bytes room 0) ≡ outcome
      → Steps 1 (left_of bytes room 0) outcome → from ≤ place → IsDefiniteBy (place + length bytes) (past_item so_far still next place bytes outcome)
  past_item-definite so_far still next from h room depth place bytes (Ok found) e step le =
      let there : found.1.place ≤ length bytes = item_there laws depth room bytes found e in
      let all : length (take found.1.place bytes) ≡ found.1.place = length-take-le found.1.place bytes there in
      definite_at (place + found.1.place + length (drop found.1.place bytes)) (place + length bytes) _ (omega (arith, there, length-drop found.1.place bytes)) (h place (take found.1.place bytes) le (place + found.1.place) (drop found.1.place bytes) (omega (arith, all)))
  past_item-definite so_far still next from h room depth place bytes (Err refusal) e step le =
      either-definite (is_truncated refusal.reason) (place + length bytes) _ _ (cut-definite (so_far still.items) (max 1 still.content) (place + length bytes))
      (λ definite. stop-definite (so_far 0) refusal.reason (place + refusal.place) (place + length bytes) (omega (arith, step.upto)) (not_truncated refusal.reason definite))

  pub with_item-definite : (so_far : ℕ → Findings) (room depth : ℕ) (next : Next (List ℕ)) (from : ℕ) → ((at : ℕ) (content : List ℕ) → from ≤ at → DefiniteFrom (at + length content) (next at content)) → DefiniteFrom from (with_item so_far room depth next)
  unfolding with_item
  with_item-definite so_far room depth next from h place bytes le = past_item-definite so_far (open_after room depth bytes) next from h room depth place bytes (read depth (left_of bytes room 0)) refl (laws.steps depth (left_of bytes room 0)) le

-- ---- a test

pub unless_fault-definite : (so_far : Findings) (at from : ℕ) (fault : Option Reason) (phase : Phase) → at ≤ from → IfSome fault (λ reason. reason ≢ Truncated) → DefiniteFrom from phase → DefiniteFrom from (unless_fault so_far at fault phase)
unless_fault-definite so_far at from (Some reason) phase before definite h place bytes le = stop-definite so_far reason at (place + length bytes) (omega arith) definite
unless_fault-definite so_far at from None phase before definite h place bytes le = h place bytes le

-- A test that depends on the place.
unless-definite : (so_far : Findings) (fault : Option Refusal) (phase : Phase) (place : ℕ) (bytes : List ℕ) → IfSome fault (λ refusal. refusal.place ≤ place) → IfSome fault (λ refusal. refusal.reason ≢ Truncated) → IsDefiniteBy (place + length bytes) (phase place bytes) → IsDefiniteBy (place + length bytes) (unless so_far fault phase place bytes)
unless-definite so_far (Some refusal) phase place bytes inside definite h = stop-definite so_far refusal.reason refusal.place (place + length bytes) (omega arith) definite
unless-definite so_far None phase place bytes inside definite h = h

pub unless_at-definite : (so_far : Findings) (fault : ℕ → Option Refusal) (phase : Phase) (from : ℕ) → ((place : ℕ) → from ≤ place → IfSome (fault place) (λ refusal. refusal.place ≤ place)) → ((place : ℕ) → IfSome (fault place) (λ refusal. refusal.reason ≢ Truncated)) → DefiniteFrom from phase → DefiniteFrom from (λ place. unless so_far (fault place) phase place)
unless_at-definite so_far fault phase from inside definite h place bytes le = unless-definite so_far (fault place) phase place bytes (inside place le) (definite place) (h place bytes le)

pub with_value-definite : {A : Type 0} (so_far : Findings) (value : Result A Refusal) (next : A → Phase) (from : ℕ) → IfErr value (λ refusal. refusal.place ≤ from) → IfErr value (λ refusal. refusal.reason ≢ Truncated) → ((x : A) → value ≡ Ok x → DefiniteFrom from (next x)) → DefiniteFrom from (with_value so_far value next)
with_value-definite so_far (Ok x) next from inside definite h = h x refl
with_value-definite so_far (Err refusal) next from inside definite h = λ place bytes le. stop-definite so_far refusal.reason refusal.place (place + length bytes) (omega arith) definite

pub choose-definite : (b : Bool) (f g : Phase) (from : ℕ) → DefiniteFrom from f → DefiniteFrom from g → DefiniteFrom from (λ place bytes. cond b (f place bytes) (g place bytes))
choose-definite true f g from p q = p
choose-definite false f g from p q = q
