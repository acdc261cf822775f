-- A message that is read within a room and a nesting allowance is read the same within larger ones, unless one of them refuses it.
use Rattle.std.proofs.Common.{◌≡◌, ℕ, ◌+◌, ◌≤◌, Bool, true, false, cond, List, [], length, take, drop, Option, Some, None, Result, Ok, Err, if◌then◌else◌, refl, sym, ap, ◌∙◌, arith, add-zero}
use Rattle.std.specs.Prelude.{max, nat_lt, ◌==◌, ⊤}
use Rattle.std.proofs.lemmas.Bool.{ltb-false, ltb-true}
use Rattle.cose_head.specs.declared.head.Head.{Head}
use Rattle.cose_head.specs.declared.kind.Kind.{Kind}
use Rattle.cose_head.specs.declared.kind.Kind.TheVariants as kinds
use Rattle.cose_head.specs.declared.reason.Reason.{Reason}
use Rattle.cose_head.specs.declared.reason.Reason.TheVariants.{PastRoom, WrongTag, WrongType, Truncated}
use Rattle.cose_head.specs.declared.refusal.Refusal.{Refusal}
use Rattle.cose_head.specs.Item.{Item}
use Rattle.cose_head.specs.Measured.{left_of}
use Rattle.cose_head.specs.Open.{Open}
use Rattle.cose_head.specs.Placed.{Placed}
use Rattle.cose_head.specs.Reading.{Left, Outcome, read}
use Rattle.cose_head.specs.Whole.{nothing_after, whole}
use Rattle.cose_map.specs.Bucket.{bucket_of}
use Rattle.cose_map.specs.Bucket.Both.{pair_fault}
use Rattle.cose_map.specs.Bucket.Form.{bucket_table}
use Rattle.cose_map.specs.Map.Pairs.{Pair}
use Rattle.cose_map.specs.Map.Read.{Read, check_map, ◌>>=◌}
use Rattle.cose_msg.specs.declared.context.Wanted.{Wanted}
use Rattle.cose_msg.specs.declared.context.Wanted.TheVariants as wants
use Rattle.cose_msg.specs.declared.verdict.Verdict.TheVariants.{Authentic, Refused}
use Rattle.cose_msg.specs.Answer.{Answer, Chosen, Headers, decided, complete, shaped}
use Rattle.cose_msg.specs.Front.{array_head_fault, past_array_head, array_head, kind_of_tag, past_tag, tag_after_cwt, past_second_head, second_head, past_untagged, is_cwt_tag, is_tag, is_array, past_first_head}
use Rattle.cose_msg.specs.Message.{message}
use Rattle.cose_msg.specs.Phases.{nothing_so_far, protected_so_far, unprotected_so_far, headers_so_far, past_payload_head_from, past_payload_head, payload_head, past_choice, key_choice, both_buckets, placed_at, headers_of, is_bytes_head, past_unprotected, unprotected, past_protected, protected, protected_fault_within, past_protected_head, protected_head}
use Rattle.cose_msg.specs.Reading.{Findings, Reading, Phase, Next, stop, cut, is_truncated, past_item, with_item, unless_fault, with_value, open_after}
use Rattle.cose_msg.specs.Rules.{Rules}
use Rattle.cose_msg.specs.Source.{Source, attached, detached}
use Rattle.cose_msg.proofs.lemmas.Detached.PayloadElsewhere.{Goes, choose-goes, unless-goes, unless_fault-goes, with_head-goes, with_string-goes}
use Rattle.cose_c.proofs.Wider.{IsFree, is_limit, read_wider, wider, wider_outcome}

-- ---- a header bucket

abbrev pub IsFreeRead : {A : Type 0} → Read A → Type 0
IsFreeRead (Ok value) = ⊤
IsFreeRead (Err refusal) = is_limit refusal.reason ≡ false

after_same : (k : ℕ) (p : Placed) (outcome : Outcome Item) → nothing_after p (wider_outcome k outcome) ≡ nothing_after p outcome
after_same k p (Ok found) = refl
after_same k p (Err refusal) = refl

read_free : (p : Placed) (outcome : Outcome Item) → IsFreeRead (nothing_after p outcome >>= check_map bucket_table) → IsFree outcome
read_free p (Ok found) free = tt
read_free p (Err refusal) free = free

whole_deeper : (depth deeper : ℕ) (p : Placed) → depth ≤ deeper → IsFreeRead (whole depth p >>= check_map bucket_table) → whole deeper p ≡ whole depth p
whole_deeper depth deeper p deep free =
    let l : Left = left_of p.bytes (length p.bytes) p.place in
    let same : read deeper (wider 0 l) ≡ wider_outcome 0 (read depth l) = read_wider 0 depth deeper deep l (read_free p (read depth l) free) in
    let here : wider 0 l ≡ l = rw (add-zero (length p.bytes)) refl in
    ap (λ m. nothing_after p (read deeper m)) (sym here) ∙ ap (nothing_after p) same ∙ after_same 0 p (read depth l)

bucket_deeper : (depth deeper : ℕ) (p : Placed) → depth ≤ deeper → IsFreeRead (bucket_of depth p) → bucket_of deeper p ≡ bucket_of depth p
unfolding bucket_of
bucket_deeper depth deeper p deep = go (length p.bytes == 0)
  where
    go : (b : Bool) → IsFreeRead (if b then Ok [] else (whole depth p >>= check_map bucket_table)) →
        (if b then Ok [] else (whole deeper p >>= check_map bucket_table)) ≡ (if b then Ok [] else (whole depth p >>= check_map bucket_table))
    go true free = refl
    go false free = ap (λ item. item >>= check_map bucket_table) (whole_deeper depth deeper p deep free)

-- ---- what is said of two readings

-- A limit refuses the message.
abbrev pub is_limited : Answer → Bool
is_limited (decided (Refused refusal)) = is_limit refusal.reason
is_limited (decided (Authentic kind alg payload taken)) = false
is_limited (complete whole) = false
is_limited (shaped kind payload auth taken) = false

-- Where no limit refuses it, the answer and the payload are those of the other reading.
abbrev pub Agrees : Reading → Reading → Type 0
Agrees reading other = is_limited reading.answer ≡ false → (other.answer ≡ reading.answer) × (other.so_far.payload ≡ reading.so_far.payload)

same : (reading : Reading) → Agrees reading reading
same reading free = (refl, refl)

cuts : (so_far : Findings) (wanted place : ℕ) → Agrees (cut so_far wanted place) (cut so_far wanted place)
cuts so_far wanted place = same (cut so_far wanted place)

stops : (so_far : Findings) (reason : Reason) (place : ℕ) → Agrees (stop so_far reason place) (stop so_far reason place)
stops so_far reason place = same (stop so_far reason place)

abbrev Follows : Phase → Phase → Type 0
Follows = Goes Agrees cuts stops

-- ---- the forms

-- Bytes that end too early aren't refused for a limit.
ends_free : (reason : Reason) → is_limit reason ≡ true → is_truncated reason ≡ false
ends_free Truncated e = let no : false ≡ true = e in absurd cc
ends_free _ e = refl

refused_item : (k : ℕ) (so_far : ℕ → Findings) (still after : Open) (next other : Next (List ℕ)) (place : ℕ) (bytes : List ℕ) (refusal : Refusal) (outcome : Outcome Item) (limit : Bool) →
    is_limit refusal.reason ≡ limit → (limit ≡ false → outcome ≡ Err refusal) → ((opened : ℕ) → (so_far opened).payload ≡ []) →
    Agrees (past_item so_far still next place bytes (Err refusal)) (past_item so_far after other place bytes outcome)
refused_item k so_far still after next other place bytes refusal outcome true e wide none free =
    let ended : is_truncated refusal.reason ≡ false = ends_free refusal.reason e in
    let limited : is_limit refusal.reason ≡ false = rw ended at free in
    absurd cc
refused_item k so_far still after next other place bytes refusal outcome false e wide none free = rw (wide refl) (go (is_truncated refusal.reason))
  where
    go : (b : Bool) → ((cond b (cut (so_far after.items) (max 1 after.content) (place + length bytes)) (stop (so_far 0) refusal.reason (place + refusal.place))).answer
        ≡ (cond b (cut (so_far still.items) (max 1 still.content) (place + length bytes)) (stop (so_far 0) refusal.reason (place + refusal.place))).answer)
        × ((cond b (cut (so_far after.items) (max 1 after.content) (place + length bytes)) (stop (so_far 0) refusal.reason (place + refusal.place))).so_far.payload
        ≡ (cond b (cut (so_far still.items) (max 1 still.content) (place + length bytes)) (stop (so_far 0) refusal.reason (place + refusal.place))).so_far.payload)
    go true = (refl, none after.items ∙ sym (none still.items))
    go false = (refl, refl)

item-follows : (k : ℕ) (so_far : ℕ → Findings) (still after : Open) (next other : Next (List ℕ)) → ((at : ℕ) (content : List ℕ) → Follows (next at content) (other at content)) →
    ((opened : ℕ) → (so_far opened).payload ≡ []) → (place : ℕ) (bytes : List ℕ) (outcome wide : Outcome Item) → (IsFree outcome → wide ≡ wider_outcome k outcome) →
    Agrees (past_item so_far still next place bytes outcome) (past_item so_far after other place bytes wide)
item-follows k so_far still after next other h none place bytes (Ok found) wide widens = rw (widens tt) (h place (take found.1.place bytes) (place + found.1.place) (drop found.1.place bytes))
item-follows k so_far still after next other h none place bytes (Err refusal) wide widens =
    refused_item k so_far still after next other place bytes refusal wide (is_limit refusal.reason) refl widens none

with_item-follows : (so_far : ℕ → Findings) (room k depth deeper : ℕ) (next other : Next (List ℕ)) → depth ≤ deeper → ((at : ℕ) (content : List ℕ) → Follows (next at content) (other at content)) →
    ((opened : ℕ) → (so_far opened).payload ≡ []) → Follows (with_item so_far room depth next) (with_item so_far (room + k) deeper other)
unfolding with_item
with_item-follows so_far room k depth deeper next other deep h none place bytes =
    item-follows k so_far (open_after room depth bytes) (open_after (room + k) deeper bytes) next other h none place bytes (read depth (left_of bytes room 0)) (read deeper (left_of bytes (room + k) 0))
    (read_wider k depth deeper deep (left_of bytes room 0))

-- A value that is the same, unless a limit refuses it.
with_value-follows : {A : Type 0} (so_far : Findings) (value wide : Read A) (next other : A → Phase) → (IsFreeRead value → wide ≡ value) → ((x : A) → Follows (next x) (other x)) →
    Follows (with_value so_far value next) (with_value so_far wide other)
with_value-follows so_far (Ok x) wide next other widens h place bytes free = rw (widens tt) (h x place bytes free)
with_value-follows so_far (Err refusal) wide next other widens h place bytes free = rw (widens free) (refl, refl)

room-follows : (room more at : ℕ) (head : Head) (phase other : Phase) → room ≤ more → Follows phase other →
    Follows (unless_fault nothing_so_far at (protected_fault_within room head) phase) (unless_fault nothing_so_far at (protected_fault_within more head) other)
room-follows room more at head phase other larger h place bytes = go (is_bytes_head head) (nat_lt room head.arg) refl (nat_lt more head.arg) refl
  where
    go : (b c : Bool) → nat_lt room head.arg ≡ c → (d : Bool) → nat_lt more head.arg ≡ d →
        Agrees (unless_fault nothing_so_far at (if b then (if c then Some PastRoom else None) else Some WrongType) phase place bytes)
        (unless_fault nothing_so_far at (if b then (if d then Some PastRoom else None) else Some WrongType) other place bytes)
    go false c e d f free = stops nothing_so_far WrongType at free
    go true true e d f free = let no : true ≡ false = free in absurd cc
    go true false e true f free = let a = ltb-false room head.arg e in let b = ltb-true more head.arg f in absurd (omega arith)
    go true false e false f free = h place bytes free

-- ---- the phases, the last first

module _ (rules : Rules) (k deep : ℕ) where
  -- The same rules with more room, and more nesting allowed.
  abbrev pub larger : Rules
  larger = record rules { room = rules.room + k; nesting = rules.nesting + deep }

  after_head : (source : Source) (headers : Headers) (chosen : Option Chosen) (at : ℕ) (head : Head) → past_payload_head_from source larger headers chosen at head ≡ past_payload_head_from source rules headers chosen at head
  after_head attached headers chosen at head = refl
  after_head (detached came stated) headers chosen at head = refl

  payload_head-follows : (headers : Headers) (chosen : Option Chosen) → Follows (payload_head rules headers chosen) (payload_head larger headers chosen)
  payload_head-follows headers chosen = with_head-goes Agrees cuts stops (headers_so_far headers []) (past_payload_head rules headers chosen) (past_payload_head larger headers chosen)
      (λ at head place bytes. rw (after_head rules.source headers chosen at head) (same (past_payload_head rules headers chosen at head place bytes)))

  past_choice-follows : (headers : Headers) (found : Result (Option Chosen) Reason) → Follows (past_choice rules headers found) (past_choice larger headers found)
  past_choice-follows headers (Ok chosen) = payload_head-follows headers chosen
  past_choice-follows headers (Err reason) = λ place bytes. stops (headers_so_far headers []) reason place

  both_buckets-follows : (headers : Headers) → Follows (both_buckets rules headers) (both_buckets larger headers)
  both_buckets-follows headers place bytes = unless-goes Agrees cuts stops (headers_so_far headers []) (pair_fault headers.protected_pairs headers.unprotected_pairs rules.understood place) (key_choice rules headers) (key_choice larger headers) (past_choice-follows headers (rules.choice headers)) place bytes

  unprotected-follows : (kind : Kind) (P : List ℕ) (pairs : List Pair) → Follows (unprotected rules kind P pairs) (unprotected larger kind P pairs)
  unprotected-follows kind P pairs = with_item-follows (unprotected_so_far pairs) rules.room k rules.nesting (rules.nesting + deep) (past_unprotected rules kind P pairs) (past_unprotected larger kind P pairs) (omega arith)
      (λ at content. with_value-follows (protected_so_far pairs) (bucket_of rules.nesting (placed_at at content)) (bucket_of (rules.nesting + deep) (placed_at at content)) (λ found. both_buckets rules (headers_of kind P pairs found)) (λ found. both_buckets larger (headers_of kind P pairs found))
      (bucket_deeper rules.nesting (rules.nesting + deep) (placed_at at content) (omega arith)) (λ found. both_buckets-follows (headers_of kind P pairs found))) (λ opened. refl)

  protected-follows : (kind : Kind) (n : ℕ) → Follows (protected rules kind n) (protected larger kind n)
  protected-follows kind n = with_string-goes Agrees cuts stops (λ bytes. nothing_so_far) n (past_protected rules kind) (past_protected larger kind)
      (λ at P. with_value-follows nothing_so_far (bucket_of rules.nesting (placed_at at P)) (bucket_of (rules.nesting + deep) (placed_at at P)) (unprotected rules kind P) (unprotected larger kind P)
      (bucket_deeper rules.nesting (rules.nesting + deep) (placed_at at P) (omega arith)) (unprotected-follows kind P))

  protected_head-follows : (kind : Kind) → Follows (protected_head rules kind) (protected_head larger kind)
  protected_head-follows kind = with_head-goes Agrees cuts stops nothing_so_far (past_protected_head rules kind) (past_protected_head larger kind)
      (λ at head. room-follows rules.room (rules.room + k) at head (protected rules kind head.arg) (protected larger kind head.arg) (omega arith) (protected-follows kind head.arg))

  past_array_head-follows : (kind : Kind) (at : ℕ) (head : Head) → Follows (past_array_head rules kind at head) (past_array_head larger kind at head)
  past_array_head-follows kind at head = unless_fault-goes Agrees cuts stops nothing_so_far at (array_head_fault head) (protected_head rules kind) (protected_head larger kind) (protected_head-follows kind)

  array_head-follows : (kind : Kind) → Follows (array_head rules kind) (array_head larger kind)
  array_head-follows kind = with_head-goes Agrees cuts stops nothing_so_far (past_array_head rules kind) (past_array_head larger kind) (past_array_head-follows kind)

  past_tag-follows : (at : ℕ) (kind : Result Kind Reason) → Follows (past_tag rules at kind) (past_tag larger at kind)
  past_tag-follows at (Ok kind) = array_head-follows kind
  past_tag-follows at (Err reason) = λ place bytes. stops nothing_so_far reason at

  second_head-follows : Follows (second_head rules) (second_head larger)
  second_head-follows = with_head-goes Agrees cuts stops nothing_so_far (past_second_head rules) (past_second_head larger) (λ at head. past_tag-follows at (tag_after_cwt rules.wanted head))

  past_untagged-follows : (wanted : Wanted) (at : ℕ) (head : Head) → Follows (past_untagged rules wanted at head) (past_untagged larger wanted at head)
  past_untagged-follows wants.Mac0 at head = past_array_head-follows kinds.Mac0 at head
  past_untagged-follows wants.Sign1 at head = past_array_head-follows kinds.Sign1 at head
  past_untagged-follows wants.Tagged at head = λ place bytes. stops nothing_so_far WrongTag at

  past_first_head-follows : (at : ℕ) (head : Head) → Follows (past_first_head rules at head) (past_first_head larger at head)
  past_first_head-follows at head place bytes =
      choose-goes Agrees cuts stops (is_cwt_tag rules.cwt head) (second_head rules place bytes) _ (second_head larger place bytes) _ (second_head-follows place bytes)
      (choose-goes Agrees cuts stops (is_tag head) (past_tag rules at (kind_of_tag rules.wanted head.arg) place bytes) _ (past_tag larger at (kind_of_tag rules.wanted head.arg) place bytes) _ (past_tag-follows at (kind_of_tag rules.wanted head.arg) place bytes)
      (choose-goes Agrees cuts stops (is_array head) (past_untagged rules rules.wanted at head place bytes) (stop nothing_so_far WrongType at) (past_untagged larger rules.wanted at head place bytes) _ (past_untagged-follows rules.wanted at head place bytes)
      (stops nothing_so_far WrongType at)))

  pub message_within : (bytes : List ℕ) → Agrees (message rules bytes) (message larger bytes)
  unfolding message
  message_within bytes = with_head-goes Agrees cuts stops nothing_so_far (past_first_head rules) (past_first_head larger) past_first_head-follows 0 bytes
