-- This many bytes settle a message, phase by phase, whatever they are.
use Rattle.std.proofs.Common.{◌≡◌, ℕ, ◌+◌, ◌^◌, ◌≤◌, Bool, true, false, cond, List, [], length, take, drop, Option, Some, None, Result, Ok, Err, refl, ap, arith, length-drop}
use Rattle.std.specs.Prelude.{◌-◌, nat_lt, nat_le, ◌||◌}
use Rattle.std.proofs.lemmas.Bool.{le-ltb, ltb-false, leb-false}
use Rattle.cose_head.specs.declared.head.Head.{Head}
use Rattle.cose_head.specs.declared.head.HeadStep.{HeadStep}
use Rattle.cose_head.specs.declared.head.HeadStep.TheVariants.{Got, More, Fault}
use Rattle.cose_head.specs.declared.kind.Kind.{Kind}
use Rattle.cose_head.specs.declared.kind.Kind.TheVariants as kinds
use Rattle.cose_head.specs.declared.reason.Reason.{Reason}
use Rattle.cose_head.specs.declared.reason.Reason.TheVariants.{Truncated}
use Rattle.cose_head.specs.declared.refusal.Refusal.{Refusal}
use Rattle.cose_head.specs.Head.{bare_head}
use Rattle.cose_head.specs.Item.{Item}
use Rattle.cose_head.specs.Open.{Open}
use Rattle.cose_head.specs.Laws.{HalfIsShort, HeadFits, ReadSteps, Steps}
use Rattle.cose_head.specs.Measured.{left_of}
use Rattle.cose_head.specs.Reading.{Left, Outcome, read}
use Rattle.cose_map.specs.Bucket.{bucket_of}
use Rattle.cose_map.specs.Map.Pairs.{Pair}
use Rattle.cose_map.specs.Bucket.Both.{pair_fault}
use Rattle.cose_msg.specs.declared.context.Wanted.{Wanted}
use Rattle.cose_msg.specs.declared.context.Wanted.TheVariants as wants
use Rattle.cose_msg.specs.Answer.{Chosen, Headers}
use Rattle.cose_msg.specs.Front.{array_head_fault, past_array_head, array_head, kind_of_tag, past_tag, tag_after_cwt, past_second_head, second_head, past_untagged, is_cwt_tag, is_tag, is_array, past_first_head, first_head}
use Rattle.cose_msg.specs.Laws.{payload_at_most, payload_inside, AuthIsAtMost, MessageIsBounded}
use Rattle.cose_msg.specs.Message.{message}
use Rattle.cose_msg.specs.Phases.{nothing_so_far, protected_so_far, unprotected_so_far, headers_so_far, is_bytes_head, is_nil, is_too_long, finish, auth, auth_head_fault, past_auth_head, auth_head, past_payload, payload, payload_head_fault, nil_fault_within, detached_payload, past_payload_head_from, past_payload_head, payload_head, past_choice, key_choice, both_buckets, placed_at, headers_of, past_unprotected, unprotected, past_protected, protected, protected_head_fault, past_protected_head, protected_head}
use Rattle.cose_msg.specs.Reading.{Findings, Reading, Phase, Next, awaits, past_head, with_head, with_string, is_truncated, past_item, with_item, unless, unless_fault, with_value, open_after}
use Rattle.cose_msg.specs.Rules.{Rules}
use Rattle.cose_msg.specs.Source.{Source, attached, detached}

-- The laws of heads and items that these proofs cite.
pub record BoundLaws : Type 0 where
  pub short : HalfIsShort
  pub fits : HeadFits
  pub steps : ReadSteps

abbrev Settles : ℕ → Phase → Type 0
Settles n phase = (place : ℕ) (bytes : List ℕ) → n ≤ length bytes → (phase place bytes).settled ≡ true

by_more : (n m : ℕ) (phase : Phase) → n ≤ m → Settles n phase → Settles m phase
by_more n m phase le h place bytes there = h place bytes (omega arith)

-- ---- the forms

module _ (laws : BoundLaws) where
  past_head-settles : (so_far : Findings) (n : ℕ) (next : Next Head) → ((at : ℕ) (head : Head) → Settles n (next at head)) → (place : ℕ) (bytes : List ℕ) → 9 + n ≤ length bytes → (step : HeadStep) → bare_head bytes ≡ step → (past_head so_far next place bytes step).settled ≡ true
  past_head-settles so_far n next h place bytes le (Got head used) e = h place head (place + used) (drop used bytes) (omega (arith, le, (laws.fits bytes head used e).1, length-drop used bytes))
  past_head-settles so_far n next h place bytes le (More wanted) e = absurd (omega (arith, le, laws.short bytes (rw e tt)))
  past_head-settles so_far n next h place bytes le (Fault reason) e = refl

  with_head-settles : (so_far : Findings) (n : ℕ) (next : Next Head) → ((at : ℕ) (head : Head) → Settles n (next at head)) → Settles (9 + n) (with_head so_far next)
  unfolding with_head
  with_head-settles so_far n next h place bytes le = past_head-settles so_far n next h place bytes le (bare_head bytes) refl

with_string-settles : (so_far : List ℕ → Findings) (n m : ℕ) (next : Next (List ℕ)) → ((at : ℕ) (string : List ℕ) → Settles m (next at string)) → Settles (n + m) (with_string so_far n next)
unfolding with_string
with_string-settles so_far n m next h place bytes le =
    let long : nat_lt (length bytes) n ≡ false = le-ltb _ _ (omega (arith, le)) in
    rw long (h place (take n bytes) (place + n) (drop n bytes) (omega (arith, le, length-drop n bytes)))

truncated_is : (reason : Reason) → is_truncated reason ≡ true → reason ≡ Truncated
truncated_is Truncated e = refl
truncated_is _ e = absurd cc

either-settled : (b : Bool) (x y : Reading) → (b ≡ true → x.settled ≡ true) → y.settled ≡ true → (cond b x y).settled ≡ true
either-settled true x y p q = p refl
either-settled false x y p q = q

module _ (laws : BoundLaws) where
  past_item-settles : (so_far : ℕ → Findings) (still : Open) (room n : ℕ) (next : Next (List ℕ)) → ((at : ℕ) (content : List ℕ) → Settles n (next at content)) → (place : ℕ) (bytes : List ℕ) → room + n ≤ length bytes → (outcome : Outcome Item)
      → Steps 1 (left_of bytes room 0) outcome → (past_item so_far still next place bytes outcome).settled ≡ true
  past_item-settles so_far still room n next h place bytes le (Ok found) step =
      let used : found.1.place ≡ 0 + step.used = ap (λ (l : Left). l.place) step.left in
      h place (take found.1.place bytes) (place + found.1.place) (drop found.1.place bytes) (omega (arith, le, used, step.fits, length-drop found.1.place bytes))
  past_item-settles so_far still room n next h place bytes le (Err refusal) step =
      either-settled (is_truncated refusal.reason) _ _ (λ truncated. absurd (omega (arith, le, (step.ended (truncated_is refusal.reason truncated)).1))) refl

  with_item-settles : (so_far : ℕ → Findings) (room depth n : ℕ) (next : Next (List ℕ)) → ((at : ℕ) (content : List ℕ) → Settles n (next at content)) → Settles (room + n) (with_item so_far room depth next)
  unfolding with_item
  with_item-settles so_far room depth n next h place bytes le = past_item-settles so_far (open_after room depth bytes) room n next h place bytes le (read depth (left_of bytes room 0)) (laws.steps depth (left_of bytes room 0))

unless_fault-settles : (so_far : Findings) (at n : ℕ) (fault : Option Reason) (phase : Phase) → (fault ≡ None → Settles n phase) → Settles n (unless_fault so_far at fault phase)
unless_fault-settles so_far at n (Some reason) phase h = λ place bytes le. refl
unless_fault-settles so_far at n None phase h = h refl

unless-settles : (so_far : Findings) (fault : Option Refusal) (phase : Phase) (place : ℕ) (bytes : List ℕ) → (phase place bytes).settled ≡ true → (unless so_far fault phase place bytes).settled ≡ true
unless-settles so_far (Some refusal) phase place bytes h = refl
unless-settles so_far None phase place bytes h = h

with_value-settles : {A : Type 0} (so_far : Findings) (value : Result A Refusal) (next : A → Phase) (n : ℕ) → ((x : A) → Settles n (next x)) → Settles n (with_value so_far value next)
with_value-settles so_far (Ok x) next n h = h x
with_value-settles so_far (Err refusal) next n h = λ place bytes le. refl

choose-settles : (b : Bool) (f g : Phase) (n : ℕ) → Settles n f → Settles n g → Settles n (λ place bytes. cond b (f place bytes) (g place bytes))
choose-settles true f g n p q = p
choose-settles false f g n p q = q

-- ---- what the heads admit

passes_both : (b c : Bool) (x y : Reason) → cond b (cond c None (Some x)) (Some y) ≡ None → c ≡ true
passes_both true true x y e = refl
passes_both true false x y e = absurd cc
passes_both false c x y e = absurd cc

passes_but : (b c : Bool) (x y : Reason) → cond b (cond c (Some x) None) (Some y) ≡ None → c ≡ false
passes_but true true x y e = absurd cc
passes_but true false x y e = refl
passes_but false c x y e = absurd cc

passes_payload : (b c d : Bool) (x y z : Reason) → cond b (cond c (Some x) None) (cond d (Some y) (Some z)) ≡ None → c ≡ false
passes_payload true true d x y z e = absurd cc
passes_payload true false d x y z e = refl
passes_payload false c true x y z e = absurd cc
passes_payload false c false x y z e = absurd cc

neither : (b c : Bool) → (b || c) ≡ false → (b ≡ false) × (c ≡ false)
neither true c e = absurd cc
neither false c e = (refl, e)

short_enough : (limit n : ℕ) → is_too_long limit n ≡ false → n ≤ payload_at_most limit
short_enough limit n e =
    let both = neither (nat_le (2 ^ 56) n) (nat_lt limit n) e in
    omega (arith, leb-false (2 ^ 56) n both.0, ltb-false limit n both.1)

-- ---- the phases, the last first

module _ (laws : BoundLaws) (rules : Rules) (most : ℕ) (at_most : AuthIsAtMost most rules) where
  auth-settles : (headers : Headers) (chosen : Option Chosen) (B : List ℕ) (auth_at n : ℕ) → n ≤ most → Settles most (auth rules headers chosen B auth_at n)
  auth-settles headers chosen B auth_at n le = by_more (n + 0) most (auth rules headers chosen B auth_at n) (omega arith) (with_string-settles (λ bytes. headers_so_far headers B) n 0 (finish rules headers chosen B auth_at) (λ at tag place bytes there. refl))

  auth_head-settles : (headers : Headers) (chosen : Option Chosen) (B : List ℕ) → rules.choice headers ≡ Ok chosen → Settles (9 + most) (auth_head rules headers chosen B)
  auth_head-settles headers chosen B is = with_head-settles laws (headers_so_far headers B) most (past_auth_head rules headers chosen B)
      (λ at head. unless_fault-settles (headers_so_far headers B) at most (auth_head_fault rules chosen head) (auth rules headers chosen B at head.arg)
      (λ e. auth-settles headers chosen B at head.arg (at_most headers chosen head.arg is (passes_both (is_bytes_head head) (rules.auth_fits chosen head.arg) _ _ e))))

  abbrev to_payload_of : Source → ℕ
  to_payload_of source = payload_inside source rules.payload_limit + (9 + most)

  abbrev to_payload : ℕ
  to_payload = to_payload_of rules.source

  payload-settles : (headers : Headers) (chosen : Option Chosen) (n : ℕ) → rules.choice headers ≡ Ok chosen → n ≤ payload_at_most rules.payload_limit → Settles (to_payload_of attached) (payload rules headers chosen n)
  payload-settles headers chosen n is le = by_more (n + (9 + most)) (to_payload_of attached) (payload rules headers chosen n) (omega arith) (with_string-settles (headers_so_far headers) n (9 + most) (past_payload rules headers chosen) (λ at B. auth_head-settles headers chosen B is))

  detached_payload-settles : (headers : Headers) (chosen : Option Chosen) (came : List ℕ) (detached_length at : ℕ) → rules.choice headers ≡ Ok chosen → Settles (0 + (9 + most)) (detached_payload rules headers chosen came detached_length at)
  detached_payload-settles headers chosen came detached_length at is =
      choose-settles (nat_lt (length came) detached_length) (λ place bytes. awaits (headers_so_far headers came) (detached_length - length came) at) (auth_head rules headers chosen (take detached_length came)) (0 + (9 + most)) (λ place bytes le. refl)
      (by_more (9 + most) (0 + (9 + most)) (auth_head rules headers chosen (take detached_length came)) (omega arith) (auth_head-settles headers chosen (take detached_length came) is))

  past_payload_head-settles : (source : Source) (headers : Headers) (chosen : Option Chosen) → rules.choice headers ≡ Ok chosen → (at : ℕ) (head : Head) → Settles (to_payload_of source) (past_payload_head_from source rules headers chosen at head)
  past_payload_head-settles attached headers chosen is at head = unless_fault-settles (headers_so_far headers []) at (to_payload_of attached) (payload_head_fault rules head) (payload rules headers chosen head.arg)
      (λ e. payload-settles headers chosen head.arg is (short_enough rules.payload_limit head.arg (passes_payload (is_bytes_head head) (is_too_long rules.payload_limit head.arg) (is_nil head) _ _ _ e)))
  past_payload_head-settles (detached came detached_length) headers chosen is at head = unless_fault-settles (headers_so_far headers []) at (to_payload_of (detached came detached_length)) (nil_fault_within rules.payload_limit detached_length head) (detached_payload rules headers chosen came detached_length at)
      (λ e. detached_payload-settles headers chosen came detached_length at is)

  payload_head-settles : (headers : Headers) (chosen : Option Chosen) → rules.choice headers ≡ Ok chosen → Settles (9 + to_payload) (payload_head rules headers chosen)
  payload_head-settles headers chosen is = with_head-settles laws (headers_so_far headers []) to_payload (past_payload_head rules headers chosen) (λ at head. past_payload_head-settles rules.source headers chosen is at head)

  past_choice-settles : (headers : Headers) (found : Result (Option Chosen) Reason) → rules.choice headers ≡ found → Settles (9 + to_payload) (past_choice rules headers found)
  past_choice-settles headers (Ok chosen) is = payload_head-settles headers chosen is
  past_choice-settles headers (Err reason) is = λ place bytes le. refl

  both_buckets-settles : (headers : Headers) → Settles (9 + to_payload) (both_buckets rules headers)
  both_buckets-settles headers place bytes le = unless-settles (headers_so_far headers []) (pair_fault headers.protected_pairs headers.unprotected_pairs rules.understood place) (key_choice rules headers) place bytes (past_choice-settles headers (rules.choice headers) refl place bytes le)

  unprotected-settles : (kind : Kind) (P : List ℕ) (pairs : List Pair) → Settles (rules.room + (9 + to_payload)) (unprotected rules kind P pairs)
  unprotected-settles kind P pairs = with_item-settles laws (unprotected_so_far pairs) rules.room rules.nesting (9 + to_payload) (past_unprotected rules kind P pairs)
      (λ at content. with_value-settles (protected_so_far pairs) (bucket_of rules.nesting (placed_at at content)) (λ others. both_buckets rules (headers_of kind P pairs others)) (9 + to_payload) (λ others. both_buckets-settles (headers_of kind P pairs others)))

  abbrev to_protected : ℕ
  to_protected = rules.room + (rules.room + (9 + to_payload))

  protected-settles : (kind : Kind) (n : ℕ) → n ≤ rules.room → Settles to_protected (protected rules kind n)
  protected-settles kind n le = by_more (n + (rules.room + (9 + to_payload))) to_protected (protected rules kind n) (omega arith) (with_string-settles (λ bytes. nothing_so_far) n (rules.room + (9 + to_payload)) (past_protected rules kind)
      (λ at P. with_value-settles nothing_so_far (bucket_of rules.nesting (placed_at at P)) (unprotected rules kind P) (rules.room + (9 + to_payload)) (unprotected-settles kind P)))

  protected_head-settles : (kind : Kind) → Settles (9 + to_protected) (protected_head rules kind)
  protected_head-settles kind = with_head-settles laws nothing_so_far to_protected (past_protected_head rules kind)
      (λ at head. unless_fault-settles nothing_so_far at to_protected (protected_head_fault rules head) (protected rules kind head.arg)
      (λ e. protected-settles kind head.arg (ltb-false rules.room head.arg (passes_but (is_bytes_head head) (nat_lt rules.room head.arg) _ _ e))))

  past_array_head-settles : (kind : Kind) (at : ℕ) (head : Head) → Settles (9 + to_protected) (past_array_head rules kind at head)
  past_array_head-settles kind at head = unless_fault-settles nothing_so_far at (9 + to_protected) (array_head_fault head) (protected_head rules kind) (λ e. protected_head-settles kind)

  array_head-settles : (kind : Kind) → Settles (18 + to_protected) (array_head rules kind)
  array_head-settles kind = by_more (9 + (9 + to_protected)) (18 + to_protected) (array_head rules kind) (omega arith) (with_head-settles laws nothing_so_far (9 + to_protected) (past_array_head rules kind) (past_array_head-settles kind))

  past_tag-settles : (at : ℕ) (kind : Result Kind Reason) → Settles (18 + to_protected) (past_tag rules at kind)
  past_tag-settles at (Ok kind) = array_head-settles kind
  past_tag-settles at (Err reason) = λ place bytes le. refl

  second_head-settles : Settles (27 + to_protected) (second_head rules)
  second_head-settles = by_more (9 + (18 + to_protected)) (27 + to_protected) (second_head rules) (omega arith) (with_head-settles laws nothing_so_far (18 + to_protected) (past_second_head rules) (λ at head. past_tag-settles at (tag_after_cwt rules.wanted head)))

  past_untagged-settles : (wanted : Wanted) (at : ℕ) (head : Head) → Settles (9 + to_protected) (past_untagged rules wanted at head)
  past_untagged-settles wants.Mac0 at head = past_array_head-settles kinds.Mac0 at head
  past_untagged-settles wants.Sign1 at head = past_array_head-settles kinds.Sign1 at head
  past_untagged-settles wants.Tagged at head = λ place bytes le. refl

  past_first_head-settles : (at : ℕ) (head : Head) → Settles (27 + to_protected) (past_first_head rules at head)
  past_first_head-settles at head =
      choose-settles (is_cwt_tag rules.cwt head) (second_head rules) _ (27 + to_protected) second_head-settles
      (choose-settles (is_tag head) (past_tag rules at (kind_of_tag rules.wanted head.arg)) _ (27 + to_protected) (by_more (18 + to_protected) (27 + to_protected) (past_tag rules at (kind_of_tag rules.wanted head.arg)) (omega arith) (past_tag-settles at (kind_of_tag rules.wanted head.arg)))
      (choose-settles (is_array head) (past_untagged rules rules.wanted at head) _ (27 + to_protected) (by_more (9 + to_protected) (27 + to_protected) (past_untagged rules rules.wanted at head) (omega arith) (past_untagged-settles rules.wanted at head))
      (λ place bytes le. refl)))

  first_head-settles : Settles (36 + to_protected) (first_head rules)
  first_head-settles = by_more (9 + (27 + to_protected)) (36 + to_protected) (first_head rules) (omega arith) (with_head-settles laws nothing_so_far (27 + to_protected) (past_first_head rules) past_first_head-settles)

-- ---- the message

pub message_is_bounded : BoundLaws → MessageIsBounded
unfolding message
message_is_bounded laws rules most at_most bytes le = first_head-settles laws rules most at_most 0 bytes (omega (arith, le))
