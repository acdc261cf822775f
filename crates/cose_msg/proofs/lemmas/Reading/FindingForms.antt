-- What is known of a message has a property, where what is known in each phase has it: a lemma for each form of a
-- phase.
use Rattle.std.proofs.Common.{◌≡◌, ℕ, ◌+◌, ◌<◌, ◌≤◌, Bool, true, false, cond, List, length, take, drop, Option, Some, None, Result, Ok, Err, refl, arith}
use Rattle.std.specs.Prelude.{max, ◌-◌, nat_lt}
use Rattle.std.proofs.lemmas.Bool.{ltb-true}
use Rattle.std.proofs.lemmas.List.{length-take}
use Rattle.cose_head.specs.declared.head.Head.{Head}
use Rattle.cose_head.specs.declared.head.HeadStep.{HeadStep}
use Rattle.cose_head.specs.declared.head.HeadStep.TheVariants.{Got, More, Fault}
use Rattle.cose_head.specs.declared.reason.Reason.{Reason}
use Rattle.cose_head.specs.declared.refusal.Refusal.{Refusal}
use Rattle.cose_head.specs.Head.{bare_head}
use Rattle.cose_head.specs.Item.{Item}
use Rattle.cose_head.specs.Open.{Open}
use Rattle.cose_head.specs.Measured.{left_of}
use Rattle.cose_head.specs.Reading.{Outcome, read}
use Rattle.cose_msg.specs.Reading.{Findings, Reading, Phase, Next, stop, cut, is_truncated, past_head, with_head, with_string, past_item, with_item, unless, unless_fault, with_value, open_after}

module _ (Holds : Findings → Type 0) where
  -- The property holds of what is known in a phase, whatever the bytes.
  abbrev pub HoldsThroughout : Phase → Type 0
  HoldsThroughout phase = (place : ℕ) (bytes : List ℕ) → Holds (phase place bytes).so_far

  past_head-holds : (so_far : Findings) (next : Next Head) → Holds so_far → ((at : ℕ) (head : Head) → HoldsThroughout (next at head)) → (place : ℕ) (bytes : List ℕ) (step : HeadStep) → Holds (past_head so_far next place bytes step).so_far
  past_head-holds so_far next known h place bytes (Got head used) = h place head (place + used) (drop used bytes)
  past_head-holds so_far next known h place bytes (More wanted) = known
  past_head-holds so_far next known h place bytes (Fault reason) = known

  pub with_head-holds : (so_far : Findings) (next : Next Head) → Holds so_far → ((at : ℕ) (head : Head) → HoldsThroughout (next at head)) → HoldsThroughout (with_head so_far next)
  unfolding with_head
  with_head-holds so_far next known h place bytes = past_head-holds so_far next known h place bytes (bare_head bytes)

  string_cases : (so_far : List ℕ → Findings) (n : ℕ) (next : Next (List ℕ)) (place : ℕ) (bytes : List ℕ) (short : Bool) → nat_lt (length bytes) n ≡ short → (length bytes < n → Holds (so_far bytes)) → ((at : ℕ) (string : List ℕ) → length string ≤ n → HoldsThroughout (next at string)) →
      Holds (cond short (cut (so_far bytes) (n - length bytes) (place + length bytes)) (next place (take n bytes) (place + n) (drop n bytes))).so_far
  string_cases so_far n next place bytes true e known h = known (ltb-true _ _ e)
  string_cases so_far n next place bytes false e known h = h place (take n bytes) (omega (arith, length-take n bytes)) (place + n) (drop n bytes)

  pub with_string-holds : (so_far : List ℕ → Findings) (n : ℕ) (next : Next (List ℕ)) → ((bytes : List ℕ) → length bytes < n → Holds (so_far bytes)) → ((at : ℕ) (string : List ℕ) → length string ≤ n → HoldsThroughout (next at string)) → HoldsThroughout (with_string so_far n next)
  unfolding with_string
  with_string-holds so_far n next known h place bytes = string_cases so_far n next place bytes (nat_lt (length bytes) n) refl (known bytes) h

  pub choose-holds : (b : Bool) (x y : Reading) → Holds x.so_far → Holds y.so_far → Holds (cond b x y).so_far
  choose-holds true x y p q = p
  choose-holds false x y p q = q

  past_item-holds : (so_far : ℕ → Findings) (still : Open) (next : Next (List ℕ)) → ((n : ℕ) → Holds (so_far n)) → ((at : ℕ) (content : List ℕ) → HoldsThroughout (next at content)) → (place : ℕ) (bytes : List ℕ) (outcome : Outcome Item) → Holds (past_item so_far still next place bytes outcome).so_far
  past_item-holds so_far still next known h place bytes (Ok found) = h place (take found.1.place bytes) (place + found.1.place) (drop found.1.place bytes)
  past_item-holds so_far still next known h place bytes (Err refusal) = choose-holds (is_truncated refusal.reason) (cut (so_far still.items) (max 1 still.content) (place + length bytes)) (stop (so_far 0) refusal.reason (place + refusal.place)) (known still.items) (known 0)

  pub with_item-holds : (so_far : ℕ → Findings) (room nesting : ℕ) (next : Next (List ℕ)) → ((n : ℕ) → Holds (so_far n)) → ((at : ℕ) (content : List ℕ) → HoldsThroughout (next at content)) → HoldsThroughout (with_item so_far room nesting next)
  unfolding with_item
  with_item-holds so_far room nesting next known h place bytes = past_item-holds so_far (open_after room nesting bytes) next known h place bytes (read nesting (left_of bytes room 0))

  pub unless_fault-holds : (so_far : Findings) (at : ℕ) (fault : Option Reason) (phase : Phase) → Holds so_far → (fault ≡ None → HoldsThroughout phase) → HoldsThroughout (unless_fault so_far at fault phase)
  unless_fault-holds so_far at (Some reason) phase known h place bytes = known
  unless_fault-holds so_far at None phase known h place bytes = h refl place bytes

  pub unless-holds : (so_far : Findings) (fault : Option Refusal) (phase : Phase) → Holds so_far → HoldsThroughout phase → HoldsThroughout (unless so_far fault phase)
  unless-holds so_far (Some refusal) phase known h place bytes = known
  unless-holds so_far None phase known h place bytes = h place bytes

  pub with_value-holds : {A : Type 0} (so_far : Findings) (value : Result A Refusal) (next : A → Phase) → Holds so_far → ((x : A) → HoldsThroughout (next x)) → HoldsThroughout (with_value so_far value next)
  with_value-holds so_far (Err refusal) next known h place bytes = known
  with_value-holds so_far (Ok x) next known h place bytes = h x place bytes
