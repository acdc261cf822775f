-- A message in memory: what each form of a phase goes on with.
use Rattle.std.proofs.Common.{◌≡◌, ℕ, ◌+◌, Bool, true, false, cond, List, length, take, drop, Ok, Err, refl, ap}
use Rattle.std.specs.Prelude.{nat_lt}
use Rattle.cose_head.specs.declared.head.Head.{Head}
use Rattle.cose_head.specs.declared.head.HeadStep.TheVariants.{Got, More, Fault}
use Rattle.cose_head.specs.Head.{bare_head}
use Rattle.cose_head.specs.declared.item.Span.{Span}
use Rattle.cose_head.specs.declared.reason.Reason.{Reason}
use Rattle.cose_head.specs.declared.reason.Reason.TheVariants.{Truncated}
use Rattle.cose_head.specs.declared.refusal.Refusal.{Refusal}
use Rattle.cose_head.specs.Item.{Item, depth_of}
use Rattle.cose_head.specs.Measured.{left_of}
use Rattle.cose_head.specs.Reading.{Outcome, read, span_of}
use Rattle.cose_msg.specs.Answer.{decided, refused}
use Rattle.cose_msg.specs.declared.further.rest.Rest.{Rest}
use Rattle.cose_msg.specs.Front.{first_head}
use Rattle.cose_msg.specs.InMemory.{placed_from}
use Rattle.cose_msg.specs.Message.{message}
use Rattle.cose_msg.specs.Rules.{Rules}
use Rattle.cose_msg.specs.declared.verdict.Verdict.TheVariants.{Refused}
use Rattle.cose_msg.specs.Reading.{Findings, Next, cut, stop, is_truncated, open_after, past_item, with_head, with_item, with_string}

-- ---- a head

pub head_read : (so_far : Findings) (next : Next Head) (place : ℕ) (bytes : List ℕ) (head : Head) (used after : ℕ) (left : List ℕ) → Got head used ≡ bare_head bytes → left ≡ drop used bytes → after ≡ place + used →
    (with_head so_far next place bytes).answer ≡ (next place head after left).answer
unfolding with_head
head_read so_far next place bytes head used after left e d p = rw (← e, d, p) refl

pub head_cut : (so_far : Findings) (next : Next Head) (place : ℕ) (bytes : List ℕ) (wanted end : ℕ) → More wanted ≡ bare_head bytes → end ≡ place + length bytes →
    (with_head so_far next place bytes).answer ≡ refused Truncated end
unfolding with_head
head_cut so_far next place bytes wanted end e p = rw (← e, p) refl

pub head_refused : (so_far : Findings) (next : Next Head) (place : ℕ) (bytes : List ℕ) (reason : Reason) → Fault reason ≡ bare_head bytes →
    (with_head so_far next place bytes).answer ≡ refused reason place
unfolding with_head
head_refused so_far next place bytes reason e = rw (← e) refl

-- ---- a string

pub string_read : (so_far : List ℕ → Findings) (n : ℕ) (next : Next (List ℕ)) (place : ℕ) (bytes : List ℕ) (after : ℕ) (content left : List ℕ) → nat_lt (length bytes) n ≡ false →
    content ≡ take n bytes → left ≡ drop n bytes → after ≡ place + n → (with_string so_far n next place bytes).answer ≡ (next place content after left).answer
unfolding with_string
string_read so_far n next place bytes after content left there t d p = rw (there, t, d, p) refl

pub string_cut : (so_far : List ℕ → Findings) (n : ℕ) (next : Next (List ℕ)) (place : ℕ) (bytes : List ℕ) (end : ℕ) → nat_lt (length bytes) n ≡ true → end ≡ place + length bytes →
    (with_string so_far n next place bytes).answer ≡ refused Truncated end
unfolding with_string
string_cut so_far n next place bytes end short p = rw (short, p) refl

-- ---- an item

past_there : (so_far : ℕ → Findings) (room depth : ℕ) (next : Next (List ℕ)) (place : ℕ) (bytes : List ℕ) (span : Span) (outcome : Outcome Item) → Ok span ≡ span_of outcome →
    past_item so_far (open_after room depth bytes) next place bytes outcome ≡ next place (take span.length bytes) (place + span.length) (drop span.length bytes)
past_there so_far room depth next place bytes span (Ok found) e =
    let same : span ≡ record { length = found.1.place; depth = depth_of found.0 } = cc in
    rw same refl
past_there so_far room depth next place bytes span (Err refusal) e = absurd cc

-- The item is there, or it is refused.
pub item_read : (so_far : ℕ → Findings) (room depth : ℕ) (next : Next (List ℕ)) (place : ℕ) (bytes : List ℕ) (span : Span) (after : ℕ) (content left : List ℕ) → Ok span ≡ span_of (read depth (left_of bytes room 0)) →
    content ≡ take span.length bytes → left ≡ drop span.length bytes → after ≡ place + span.length → (with_item so_far room depth next place bytes).answer ≡ (next place content after left).answer
unfolding with_item
item_read so_far room depth next place bytes span after content left e t d p = rw (past_there so_far room depth next place bytes span (read depth (left_of bytes room 0)) e, t, d, p) refl

truncated_is : (reason : Reason) → is_truncated reason ≡ true → Truncated ≡ reason
truncated_is Truncated e = refl
truncated_is _ e = absurd cc

cut_or_stopped : (one other : Findings) (wanted end at : ℕ) (reason : Reason) (b : Bool) → is_truncated reason ≡ b →
    (cond b (cut one wanted end) (stop other reason at)).answer ≡ refused reason (cond b end at)
cut_or_stopped one other wanted end at reason true e = ap (λ (r : Reason). refused r end) (truncated_is reason e)
cut_or_stopped one other wanted end at reason false e = refl

past_refused : (so_far : ℕ → Findings) (room depth : ℕ) (next : Next (List ℕ)) (rest : Rest) (refusal : Refusal) (outcome : Outcome Item) → Err refusal ≡ span_of outcome →
    (past_item so_far (open_after room depth rest.bytes.now) next rest.place rest.bytes.now outcome).answer ≡ decided (Refused (placed_from rest refusal))
past_refused so_far room depth next rest refusal (Ok found) e = absurd cc
past_refused so_far room depth next rest refusal (Err other) e =
    let same : refusal ≡ other = cc in
    rw same (cut_or_stopped _ _ _ _ _ other.reason (is_truncated other.reason) refl)

pub item_refused : (so_far : ℕ → Findings) (room depth : ℕ) (next : Next (List ℕ)) (rest : Rest) (refusal : Refusal) → Err refusal ≡ span_of (read depth (left_of rest.bytes.now room 0)) →
    (with_item so_far room depth next rest.place rest.bytes.now).answer ≡ decided (Refused (placed_from rest refusal))
unfolding with_item
item_refused so_far room depth next rest refusal e = past_refused so_far room depth next rest refusal (read depth (left_of rest.bytes.now room 0)) e

-- ---- a message

pub begins : (rules : Rules) (bytes left : List ℕ) (place : ℕ) → left ≡ bytes → place ≡ 0 → (message rules bytes).answer ≡ (first_head rules place left).answer
unfolding message
begins rules bytes left place all none = rw (all, none) refl
