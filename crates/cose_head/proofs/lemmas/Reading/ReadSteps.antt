-- What is left after reading, and the places of its refusals.
use Rattle.std.proofs.Common.{◌≡◌, ℕ, zero, suc, ◌+◌, ◌-◌, ◌<◌, ◌≤◌, List, length, take, drop, Option, Some, None, Ok, Err, if◌then◌else◌, refl, sym, ap, ◌∙◌, arith}
use Rattle.std.proofs.lemmas.Bool.{cond_both, ltb-true, ltb-false}
use Rattle.std.proofs.lemmas.List.{length-drop, length-take}
use Rattle.std.specs.Prelude.{nat_lt, ◌==◌, ⊤}
use Rattle.cose_head.specs.declared.head.Head.{Head}
use Rattle.cose_head.specs.declared.reason.Reason.{Reason}
use Rattle.cose_head.specs.declared.reason.Reason.TheVariants.{Truncated, TooDeep, PastRoom}
use Rattle.cose_head.specs.declared.refusal.Refusal.{Refusal}
use Rattle.cose_head.specs.Head.{low_of, argument_length}
use Rattle.cose_head.specs.Item.{Item, item, tag}
use Rattle.cose_head.specs.Reading.{Left, Outcome, Reader, ◌>>=◌, after, refuse, truncated, string, string_item, is_string, is_parent, leaf, body, parent, children, child_count, list_item, read_all, read_with, read, head}
use Rattle.cose_head.specs.Laws.{IsStep, IsRefusal, Steps}
use Rattle.cose_head.proofs.lemmas.Head.HeadCases.{HasHead, head_cases}
use Rattle.cose_head.proofs.lemmas.Reading.Measured.{after-after}

pub after-zero : (l : Left) → after 0 l ≡ l
after-zero l =
    let r : l.room - 0 ≡ l.room = omega arith in
    let p : l.place + 0 ≡ l.place = omega arith in
    rw (r, p) refl

-- a step after a step, and what is refused after a step
pub step_on : (a b : ℕ) (l middle rest : Left) → IsStep a l middle → IsStep b middle rest → IsStep a l rest
step_on a b l middle rest p q =
    let there : q.used ≤ length (drop p.used l.bytes) = rw p.left at q.there in
    let fits : q.used ≤ l.room - p.used = rw p.left at q.fits in
    let n = length-drop p.used l.bytes in
    let first = p.there in let room = p.fits in let least = p.some in
    record {
      used = p.used + q.used;
      some = omega arith;
      there = omega arith;
      fits = omega arith;
      left = q.left ∙ ap (after q.used) p.left
          ∙ after-after p.used q.used l;
    }

refusal_on : (a : ℕ) (l middle : Left) (refusal : Refusal) → IsStep a l middle → IsRefusal middle refusal → IsRefusal l refusal
refusal_on a l middle refusal p q =
    let n = length-drop p.used l.bytes in
    let first = p.there in let room = p.fits in
    let from : l.place + p.used ≤ refusal.place = rw p.left at q.from in
    let upto : refusal.place ≤ l.place + p.used + length (drop p.used l.bytes) = rw p.left at q.upto in
    let ended : refusal.reason ≡ Truncated → (refusal.place ≡ l.place + p.used + length (drop p.used l.bytes))
    × (length (drop p.used l.bytes) < l.room - p.used) = λ t. rw p.left at (q.ended t) in
    record { from = omega arith; upto = omega arith; ended = λ t. let e = (ended t).0 in let f = (ended t).1 in (omega arith, omega arith) }

pub steps_on : {A : Type 0} (a b : ℕ) (l middle : Left) (o : Outcome A) → IsStep a l middle → Steps b middle o → Steps a l o
steps_on a b l middle (Ok found) p q = step_on a b l middle found.1 p q
steps_on a b l middle (Err refusal) p q = refusal_on a l middle refusal p q

pub bind_steps : {A B : Type 0} (a b : ℕ) (l : Left) (m : Outcome A) (f : A × Left → Outcome B) → Steps a l m →
    ((x : A × Left) → IsStep a l x.1 → Steps b l (f x)) → Steps b l (m >>= f)
bind_steps a b l (Ok x) f s next = next x s
bind_steps a b l (Err refusal) f s next = s

-- the refusals of a reader
refused_here : (l : Left) (reason : Reason) → (reason ≡ Truncated → ⊥) → IsRefusal l (record { reason = reason; place = l.place })
refused_here l reason other = record { from = omega arith; upto = omega arith; ended = λ t. absurd (other t) }

cut_short : (l : Left) → length l.bytes < l.room → IsRefusal l (record { reason = Truncated; place = l.place + length l.bytes })
cut_short l short = record { from = omega arith; upto = omega arith; ended = λ t. (refl, short) }

pub width_of : (bytes : List ℕ) (room : ℕ) (h : Head) (has : HasHead bytes room h) → (0 < h.width) × (h.width ≤ length bytes) × (h.width ≤ room)
width_of bytes room h has =
    let w : h.width ≡ 1 + length (take (argument_length (low_of has.initial)) has.rest) = ap (λ g. g.width) has.is_head in
    let t = length-take (argument_length (low_of has.initial)) has.rest in
    let n : length bytes ≡ suc (length has.rest) = ap length has.front in
    let there = has.there in let fits = has.fits in
    (omega arith, omega arith, omega arith)

pub head_steps : (l : Left) → Steps 1 l (head l)
head_steps l =
    head_cases l.room l.place (Steps 1 l) (refused_here l) l.bytes (cut_short l)
    (λ h has. let w = width_of l.bytes l.room h has in record { used = h.width; some = omega arith; there = w.1; fits = w.2; left = refl })

weaker : {A : Type 0} (l : Left) (o : Outcome A) → Steps 1 l o → Steps 0 l o
weaker l (Ok found) s = record { used = s.used; some = omega arith; there = s.there; fits = s.fits; left = s.left }
weaker l (Err refusal) s = s

pub all_steps : (one : Reader Item) → ((l : Left) → Steps 1 l (one l)) → (n : ℕ) (l : Left) → Steps 0 l (read_all one n l)
all_steps one each zero l = record { used = 0; some = omega arith; there = omega arith; fits = omega arith; left = sym (after-zero l) }
all_steps one each (suc n) l =
    bind_steps 0 0 l (one l) (λ first. read_all one n first.1 >>= λ others. Ok (item first.0 others.0, others.1)) (weaker l (one l) (each l))
    (λ x p. steps_on 0 0 l x.1 (read_all one n x.1 >>= λ others. Ok (item x.0 others.0, others.1)) p
    (bind_steps 0 0 x.1 (read_all one n x.1) (λ others. Ok (item x.0 others.0, others.1)) (all_steps one each n x.1) (λ y q. q)))

-- the reader of the children, where there is one
abbrev EachSteps : Option (Reader Item) → Type 0
EachSteps None = ⊤
EachSteps (Some one) = (l : Left) → Steps 1 l (one l)

-- what follows a head, from the item's own place
module _ (whole : Left) (h : Head) (l : Left) (past : IsStep 1 whole l) where
  string_steps : Steps 1 whole (string whole.place h l)
  string_steps =
      cond_both (nat_lt l.room h.arg) (refuse PastRoom whole.place)
      (if nat_lt (length l.bytes) h.arg then truncated l else Ok (string_item h (take h.arg l.bytes), after h.arg l)) (Steps 1 whole)
      (λ e. refused_here whole PastRoom (λ f. cc))
      (λ e. let fits = ltb-false _ _ e in
      cond_both (nat_lt (length l.bytes) h.arg) (truncated l) (Ok (string_item h (take h.arg l.bytes), after h.arg l)) (Steps 1 whole)
      (λ f. let missing = ltb-true _ _ f in refusal_on 1 whole l _ past (cut_short l (omega arith)))
      (λ f. let there = ltb-false _ _ f in
      step_on 1 0 whole l (after h.arg l) past (record { used = h.arg; some = omega arith; there = there; fits = fits; left = refl })))

  children_steps : (one : Reader Item) → ((m : Left) → Steps 1 m (one m)) → Steps 1 whole (children one h l)
  children_steps one each =
      let n : ℕ = child_count h in
      steps_on 1 0 whole l (children one h l) past
      (cond_both (h.major == 6) (one l >>= λ content. Ok (tag h.arg content.0, content.1))
      (read_all one n l >>= λ items. Ok (list_item h items.0, items.1)) (Steps 0 l)
      (λ e. bind_steps 0 0 l (one l) (λ content. Ok (tag h.arg content.0, content.1)) (weaker l (one l) (each l)) (λ x q. q))
      (λ e. bind_steps 0 0 l (read_all one n l) (λ items. Ok (list_item h items.0, items.1)) (all_steps one each n l) (λ x q. q)))

  parent_steps : (one : Option (Reader Item)) → EachSteps one → Steps 1 whole (parent one whole.place h l)
  parent_steps None each = refused_here whole TooDeep (λ f. cc)
  parent_steps (Some one) each =
      cond_both (nat_lt l.room (child_count h)) (refuse PastRoom whole.place) (children one h l) (Steps 1 whole)
      (λ e. refused_here whole PastRoom (λ f. cc)) (λ e. children_steps one each)

  pub body_steps : (one : Option (Reader Item)) → EachSteps one → Steps 1 whole (body one whole.place h l)
  body_steps one each =
      cond_both (is_string h) (string whole.place h l) (if is_parent h then parent one whole.place h l else Ok (leaf h, l)) (Steps 1 whole)
      (λ e. string_steps)
      (λ e. cond_both (is_parent h) (parent one whole.place h l) (Ok (leaf h, l)) (Steps 1 whole) (λ f. parent_steps one each) (λ f. past))

with_steps : (one : Option (Reader Item)) → EachSteps one → (l : Left) → Steps 1 l (read_with one l)
with_steps one each l = bind_steps 1 1 l (head l) (λ h. body one l.place h.0 h.1) (head_steps l) (λ x p. body_steps l x.0 x.1 p one each)

pub read_steps : (depth : ℕ) (l : Left) → Steps 1 l (read depth l)
unfolding read
read_steps zero l = with_steps None tt l
read_steps (suc depth) l = with_steps (Some (read depth)) (read_steps depth) l
