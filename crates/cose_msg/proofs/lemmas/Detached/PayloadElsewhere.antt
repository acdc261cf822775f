-- Rules that differ in where the payload is, and in the answer for a whole message: what is said of two readings of the same
-- bytes, and holds after the payload's head, holds of the whole message, phase by phase.
use Rattle.std.proofs.Common.{ℕ, ◌+◌, Bool, true, false, cond, List, [], length, take, drop, Option, Some, None, Result, Ok, Err}
use Rattle.std.specs.Prelude.{max, ◌-◌, nat_lt}
use Rattle.cose_head.specs.declared.head.Head.{Head}
use Rattle.cose_head.specs.declared.head.HeadStep.{HeadStep}
use Rattle.cose_head.specs.declared.head.HeadStep.TheVariants.{Got, More, Fault}
use Rattle.cose_head.specs.declared.kind.Kind.{Kind}
use Rattle.cose_head.specs.declared.kind.Kind.TheVariants as kinds
use Rattle.cose_head.specs.declared.reason.Reason.{Reason}
use Rattle.cose_head.specs.declared.reason.Reason.TheVariants.{WrongTag, WrongType}
use Rattle.cose_head.specs.declared.refusal.Refusal.{Refusal}
use Rattle.cose_head.specs.Head.{bare_head}
use Rattle.cose_head.specs.Item.{Item}
use Rattle.cose_head.specs.Open.{Open}
use Rattle.cose_head.specs.Measured.{left_of}
use Rattle.cose_head.specs.Reading.{Outcome, read}
use Rattle.cose_map.specs.Bucket.{bucket_of}
use Rattle.cose_map.specs.Map.Pairs.{Pair}
use Rattle.cose_map.specs.Bucket.Both.{pair_fault}
use Rattle.cose_msg.specs.declared.context.Wanted.{Wanted}
use Rattle.cose_msg.specs.declared.context.Wanted.TheVariants as wants
use Rattle.cose_msg.specs.Answer.{Answer, Chosen, Headers, Whole}
use Rattle.cose_msg.specs.Front.{array_head_fault, past_array_head, array_head, kind_of_tag, past_tag, tag_after_cwt, past_second_head, second_head, past_untagged, is_cwt_tag, is_tag, is_array, past_first_head, first_head}
use Rattle.cose_msg.specs.Phases.{nothing_so_far, protected_so_far, unprotected_so_far, headers_so_far, past_payload_head, payload_head, past_choice, key_choice, both_buckets, placed_at, headers_of, past_unprotected, unprotected, past_protected, protected, protected_head_fault, past_protected_head, protected_head}
use Rattle.cose_msg.specs.Reading.{Findings, Reading, Phase, Next, stop, cut, past_head, with_head, with_string, is_truncated, past_item, with_item, unless, unless_fault, with_value, open_after}
use Rattle.cose_msg.specs.Rules.{Rules}
use Rattle.cose_msg.specs.Source.{Source}

module _ (R : Reading → Reading → Type 0) (cuts : (so_far : Findings) (wanted place : ℕ) → R (cut so_far wanted place) (cut so_far wanted place)) (stops : (so_far : Findings) (reason : Reason) (place : ℕ) → R (stop so_far reason place) (stop so_far reason place)) where
  -- It holds of what two phases read.
  abbrev pub Goes : Phase → Phase → Type 0
  Goes phase other = (place : ℕ) (bytes : List ℕ) → R (phase place bytes) (other place bytes)

  -- ---- the forms

  pub past_head-goes : (so_far : Findings) (next other : Next Head) → ((at : ℕ) (head : Head) → Goes (next at head) (other at head)) → (place : ℕ) (bytes : List ℕ) (step : HeadStep) → R (past_head so_far next place bytes step) (past_head so_far other place bytes step)
  past_head-goes so_far next other h place bytes (Got head used) = h place head (place + used) (drop used bytes)
  past_head-goes so_far next other h place bytes (More wanted) = cuts so_far 1 (place + length bytes)
  past_head-goes so_far next other h place bytes (Fault reason) = stops so_far reason place

  pub with_head-goes : (so_far : Findings) (next other : Next Head) → ((at : ℕ) (head : Head) → Goes (next at head) (other at head)) → Goes (with_head so_far next) (with_head so_far other)
  unfolding with_head
  with_head-goes so_far next other h place bytes = past_head-goes so_far next other h place bytes (bare_head bytes)

  pub choose-goes : (b : Bool) (x y x' y' : Reading) → R x x' → R y y' → R (cond b x y) (cond b x' y')
  choose-goes true x y x' y' p q = p
  choose-goes false x y x' y' p q = q

  pub with_string-goes : (so_far : List ℕ → Findings) (n : ℕ) (next other : Next (List ℕ)) → ((at : ℕ) (string : List ℕ) → Goes (next at string) (other at string)) → Goes (with_string so_far n next) (with_string so_far n other)
  unfolding with_string
  with_string-goes so_far n next other h place bytes = choose-goes (nat_lt (length bytes) n) (cut (so_far bytes) (n - length bytes) (place + length bytes)) (next place (take n bytes) (place + n) (drop n bytes)) _ _ (cuts (so_far bytes) (n - length bytes) (place + length bytes)) (h place (take n bytes) (place + n) (drop n bytes))

  pub past_item-goes : (so_far : ℕ → Findings) (still : Open) (next other : Next (List ℕ)) → ((at : ℕ) (content : List ℕ) → Goes (next at content) (other at content)) → (place : ℕ) (bytes : List ℕ) (outcome : Outcome Item) → R (past_item so_far still next place bytes outcome) (past_item so_far still other place bytes outcome)
  past_item-goes so_far still next other h place bytes (Ok found) = h place (take found.1.place bytes) (place + found.1.place) (drop found.1.place bytes)
  past_item-goes so_far still next other h place bytes (Err refusal) = choose-goes (is_truncated refusal.reason) (cut (so_far still.items) (max 1 still.content) (place + length bytes)) (stop (so_far 0) refusal.reason (place + refusal.place)) _ _ (cuts (so_far still.items) (max 1 still.content) (place + length bytes)) (stops (so_far 0) refusal.reason (place + refusal.place))

  pub with_item-goes : (so_far : ℕ → Findings) (room depth : ℕ) (next other : Next (List ℕ)) → ((at : ℕ) (content : List ℕ) → Goes (next at content) (other at content)) → Goes (with_item so_far room depth next) (with_item so_far room depth other)
  unfolding with_item
  with_item-goes so_far room depth next other h place bytes = past_item-goes so_far (open_after room depth bytes) next other h place bytes (read depth (left_of bytes room 0))

  pub unless_fault-goes : (so_far : Findings) (at : ℕ) (fault : Option Reason) (phase other : Phase) → Goes phase other → Goes (unless_fault so_far at fault phase) (unless_fault so_far at fault other)
  unless_fault-goes so_far at (Some reason) phase other h = λ place bytes. stops so_far reason at
  unless_fault-goes so_far at None phase other h = h

  pub unless-goes : (so_far : Findings) (fault : Option Refusal) (phase other : Phase) → Goes phase other → Goes (unless so_far fault phase) (unless so_far fault other)
  unless-goes so_far (Some refusal) phase other h = λ place bytes. stops so_far refusal.reason refusal.place
  unless-goes so_far None phase other h = h

  pub with_value-goes : {A : Type 0} (so_far : Findings) (value : Result A Refusal) (next other : A → Phase) → ((x : A) → Goes (next x) (other x)) → Goes (with_value so_far value next) (with_value so_far value other)
  with_value-goes so_far (Ok x) next other h = h x
  with_value-goes so_far (Err refusal) next other h = λ place bytes. stops so_far refusal.reason refusal.place

  -- ---- the phases up to the payload's head, the last first

  module _ (rules : Rules) (source : Source) (last : Whole → Answer) where
    abbrev pub others : Rules
    others = record rules { source = source; finish = last }

    abbrev pub GoesAfter : Type 0
    GoesAfter = (headers : Headers) (chosen : Option Chosen) (at : ℕ) (head : Head) → Goes (past_payload_head rules headers chosen at head) (past_payload_head others headers chosen at head)

  module _ (rules : Rules) (source : Source) (last : Whole → Answer) (after_head : GoesAfter rules source last) where
    abbrev changed : Rules
    changed = others rules source last

    payload_head-goes : (headers : Headers) (chosen : Option Chosen) → Goes (payload_head rules headers chosen) (payload_head changed headers chosen)
    payload_head-goes headers chosen = with_head-goes (headers_so_far headers []) (past_payload_head rules headers chosen) (past_payload_head changed headers chosen) (after_head headers chosen)

    past_choice-goes : (headers : Headers) (found : Result (Option Chosen) Reason) → Goes (past_choice rules headers found) (past_choice changed headers found)
    past_choice-goes headers (Ok chosen) = payload_head-goes headers chosen
    past_choice-goes headers (Err reason) = λ place bytes. stops (headers_so_far headers []) reason place

    both_buckets-goes : (headers : Headers) → Goes (both_buckets rules headers) (both_buckets changed headers)
    both_buckets-goes headers place bytes = unless-goes (headers_so_far headers []) (pair_fault headers.protected_pairs headers.unprotected_pairs rules.understood place) (key_choice rules headers) (key_choice changed headers) (past_choice-goes headers (rules.choice headers)) place bytes

    unprotected-goes : (kind : Kind) (P : List ℕ) (pairs : List Pair) → Goes (unprotected rules kind P pairs) (unprotected changed kind P pairs)
    unprotected-goes kind P pairs = with_item-goes (unprotected_so_far pairs) rules.room rules.nesting (past_unprotected rules kind P pairs) (past_unprotected changed kind P pairs)
        (λ at content. with_value-goes (protected_so_far pairs) (bucket_of rules.nesting (placed_at at content)) (λ found. both_buckets rules (headers_of kind P pairs found)) (λ found. both_buckets changed (headers_of kind P pairs found)) (λ found. both_buckets-goes (headers_of kind P pairs found)))

    protected-goes : (kind : Kind) (n : ℕ) → Goes (protected rules kind n) (protected changed kind n)
    protected-goes kind n = with_string-goes (λ bytes. nothing_so_far) n (past_protected rules kind) (past_protected changed kind)
        (λ at P. with_value-goes nothing_so_far (bucket_of rules.nesting (placed_at at P)) (unprotected rules kind P) (unprotected changed kind P) (unprotected-goes kind P))

    protected_head-goes : (kind : Kind) → Goes (protected_head rules kind) (protected_head changed kind)
    protected_head-goes kind = with_head-goes nothing_so_far (past_protected_head rules kind) (past_protected_head changed kind)
        (λ at head. unless_fault-goes nothing_so_far at (protected_head_fault rules head) (protected rules kind head.arg) (protected changed kind head.arg) (protected-goes kind head.arg))

    past_array_head-goes : (kind : Kind) (at : ℕ) (head : Head) → Goes (past_array_head rules kind at head) (past_array_head changed kind at head)
    past_array_head-goes kind at head = unless_fault-goes nothing_so_far at (array_head_fault head) (protected_head rules kind) (protected_head changed kind) (protected_head-goes kind)

    array_head-goes : (kind : Kind) → Goes (array_head rules kind) (array_head changed kind)
    array_head-goes kind = with_head-goes nothing_so_far (past_array_head rules kind) (past_array_head changed kind) (past_array_head-goes kind)

    past_tag-goes : (at : ℕ) (kind : Result Kind Reason) → Goes (past_tag rules at kind) (past_tag changed at kind)
    past_tag-goes at (Ok kind) = array_head-goes kind
    past_tag-goes at (Err reason) = λ place bytes. stops nothing_so_far reason at

    second_head-goes : Goes (second_head rules) (second_head changed)
    second_head-goes = with_head-goes nothing_so_far (past_second_head rules) (past_second_head changed) (λ at head. past_tag-goes at (tag_after_cwt rules.wanted head))

    past_untagged-goes : (wanted : Wanted) (at : ℕ) (head : Head) → Goes (past_untagged rules wanted at head) (past_untagged changed wanted at head)
    past_untagged-goes wants.Mac0 at head = past_array_head-goes kinds.Mac0 at head
    past_untagged-goes wants.Sign1 at head = past_array_head-goes kinds.Sign1 at head
    past_untagged-goes wants.Tagged at head = λ place bytes. stops nothing_so_far WrongTag at

    past_first_head-goes : (at : ℕ) (head : Head) → Goes (past_first_head rules at head) (past_first_head changed at head)
    past_first_head-goes at head place bytes =
        choose-goes (is_cwt_tag rules.cwt head) (second_head rules place bytes) _ (second_head changed place bytes) _ (second_head-goes place bytes)
        (choose-goes (is_tag head) (past_tag rules at (kind_of_tag rules.wanted head.arg) place bytes) _ (past_tag changed at (kind_of_tag rules.wanted head.arg) place bytes) _ (past_tag-goes at (kind_of_tag rules.wanted head.arg) place bytes)
        (choose-goes (is_array head) (past_untagged rules rules.wanted at head place bytes) (stop nothing_so_far WrongType at) (past_untagged changed rules.wanted at head place bytes) _ (past_untagged-goes rules.wanted at head place bytes)
        (stops nothing_so_far WrongType at)))

    pub first_head-goes : Goes (first_head rules) (first_head changed)
    first_head-goes = with_head-goes nothing_so_far (past_first_head rules) (past_first_head changed) past_first_head-goes
