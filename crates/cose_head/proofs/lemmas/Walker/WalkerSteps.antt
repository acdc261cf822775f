-- The answers of a walker, by the bytes that it was put.
use Rattle.std.proofs.Common.{◌≡◌, ℕ, ◌+◌, ◌-◌, ◌<◌, List, [], ◌∷◌, ◌++◌, length, Ok, Err, Result, OnOk, refl, sym, ap, ◌∙◌, arith, append_assoc, append-nil}
use Rattle.std.proofs.lemmas.List.{length-append}
use Rattle.cose_head.specs.declared.reason.Reason.{Reason}
use Rattle.cose_head.specs.declared.reason.Reason.TheVariants.{Truncated}
use Rattle.cose_head.specs.declared.refusal.Refusal.{Refusal}
use Rattle.cose_head.specs.declared.walker.Walker.{Walker}
use Rattle.cose_head.specs.declared.walker.Progress.{Progress}
use Rattle.cose_head.specs.declared.walker.Progress.TheVariants.{Open, Whole}
use Rattle.cose_head.specs.declared.walker.Step.TheVariants.{Going, Done, Fault}
use Rattle.cose_head.specs.Measured.{left_of}
use Rattle.cose_head.specs.Reading.{Left, Outcome, read}
use Rattle.cose_head.specs.Open as opened
use Rattle.cose_head.specs.Open.{open_in}
use Rattle.cose_head.specs.Walking.{Walk, walk_end, walk, refused}
use Rattle.cose_head.specs.Walker.{last_step, step_after, open_now, open_while, left_at, go_on, resume, HasPut, Answers, Leads, Passes}
use Rattle.cose_head.proofs.lemmas.Walker.Walking.{finish-none}
use Rattle.cose_head.proofs.lemmas.Walker.WalkSteps.{go_on-open, go_on-short}

-- Leads is the same of equal functions
pub leads_same : {D : ℕ} (before other : List ℕ → Walk) (answer : Result Progress Reason) (w : Walker D)
    → ((bytes : List ℕ) → before bytes ≡ other bytes) → Leads other answer w → Leads before answer w
leads_same before other (Ok Open) w same leads = (λ bytes. same bytes ∙ leads.0 bytes, leads.1)
leads_same before other (Ok Whole) w same leads = (leads.0, λ bytes. ap (λ (k : Walk). k.end) (same bytes) ∙ leads.1 bytes)
leads_same before other (Err reason) w same leads = (leads.0, λ bytes. ap (λ (k : Walk). k.end) (same bytes) ∙ leads.1 bytes)

-- a property of the counts and of what is left, with the fields replaced by equal ones
pub passed : {D : ℕ} (of : List ℕ → Left → Walk) (old new : Walker D) (count : ℕ) → Passes old new count
    → (bytes : List ℕ)
    → of old.counts.items (left_of bytes (old.room - count) (old.place + count)) ≡ of new.counts.items (left_at new bytes)
passed of old new count p bytes = rw (p.counts, p.room, p.place) refl

-- what holds in any case holds where the answer is Ok
pub on_ok : {P : Type 0} (progress : Result Progress Reason) → P → OnOk progress P
on_ok (Ok progress) p = p
on_ok (Err reason) p = tt

-- the result of reading, from where it ends
pub read_refused : {A : Type 0} (r : Outcome A) (refusal : Refusal) → walk_end r ≡ Err refusal → r ≡ Err refusal
read_refused (Ok found) refusal e = (let q : Ok found.1 ≡ Err refusal = e in cc)
read_refused (Err other) refusal e = (let q : Err other ≡ Err refusal = e in let same : other ≡ refusal = cc in ap (λ r. Err r) same)

pub read_whole : {A : Type 0} (r : Outcome A) (l : Left) → walk_end r ≡ Ok l → (t : A) × (r ≡ Ok (t, l))
read_whole (Ok found) l e = (found.0, (let q : Ok found.1 ≡ Ok l = e in let same : found.1 ≡ l = cc in ap (λ k. Ok (found.0, k)) same))
read_whole (Err other) l e = (let q : Err other ≡ Ok l = e in cc)

end_of_walk : (depth : ℕ) (l : Left) → (walk depth l).end ≡ walk_end (read depth l)
unfolding walk
end_of_walk depth l = refl

-- a walker that differs in the answer alone
pub record Alike {D : ℕ} (w other : Walker D) : Type 0 where
  pub counts : other.counts ≡ w.counts
  pub half : other.half ≡ w.half
  pub string : other.string ≡ w.string
  pub room : other.room ≡ w.room
  pub place : other.place ≡ w.place

resume_alike : {D : ℕ} (w other : Walker D) → Alike w other → (bytes : List ℕ) → resume w bytes ≡ resume other bytes
unfolding resume
resume_alike w other alike bytes = rw (alike.counts, alike.half, alike.string, alike.room, alike.place) refl

module _ {D : ℕ} (old new : Walker D) (room : ℕ) (put : List ℕ) (piece : List ℕ) (has : HasPut room put old) where
  read_end : walk_end (read D (left_of (put ++ piece) room 0)) ≡ (resume old (piece ++ [])).end
  read_end = sym (end_of_walk D (left_of (put ++ piece) room 0)) ∙ ap (λ (w : Walk). w.end) (has.rest piece)
      ∙ ap (λ bytes. (resume old bytes).end) (sym (append-nil piece))

  one_more : length (put ++ piece) ≡ old.place + length old.half.items + length piece
  one_more = let total = length-append put piece in let taken = has.taken in omega arith

  answers_open : Leads (λ bytes. resume old (piece ++ bytes)) (Ok Open) new
      → new.place + length new.half.items ≡ old.place + length old.half.items + length piece
      → Answers room (put ++ piece) Going (read D (left_of (put ++ piece) room 0))
  answers_open leads taken =
      read_refused (read D (left_of (put ++ piece) room 0)) (record { reason = Truncated; place = length (put ++ piece) })
      (read_end ∙ ap (λ (w : Walk). w.end) (leads.0 []) ∙ leads.1.0
      ∙ ap (λ n. refused Truncated n) (taken ∙ sym one_more))

  answers_whole : Leads (λ bytes. resume old (piece ++ bytes)) (Ok Whole) new
      → new.place + length new.half.items ≡ old.place + length old.half.items + length piece → new.place + new.room ≡ old.place + old.room
      → Answers room (put ++ piece) Done (read D (left_of (put ++ piece) room 0))
  answers_whole leads taken left =
      let none = leads.0 in
      let start = has.left in
      let total = one_more in
      let place : new.place ≡ length (put ++ piece) = omega arith in
      let rest : new.room ≡ room - length (put ++ piece) = omega arith in
      read_whole (read D (left_of (put ++ piece) room 0)) (left_of [] (room - length (put ++ piece)) (length (put ++ piece)))
      (read_end ∙ leads.1 [] ∙ rw (place, rest) refl)

  answers_fault : (reason : Reason) → Leads (λ bytes. resume old (piece ++ bytes)) (Err reason) new
      → Answers room (put ++ piece) (Fault (record { reason = reason; place = new.place })) (read D (left_of (put ++ piece) room 0))
  answers_fault reason leads =
      (read_refused (read D (left_of (put ++ piece) room 0)) (record { reason = reason; place = new.place }) (read_end ∙ leads.1 []), leads.0)

  put_rest : Leads (λ bytes. resume old (piece ++ bytes)) (Ok Open) new → (bytes : List ℕ)
      → walk D (left_of ((put ++ piece) ++ bytes) room 0) ≡ resume new bytes
  put_rest leads bytes =
      ap (λ all. walk D (left_of all room 0)) (append_assoc put piece bytes) ∙ has.rest (piece ++ bytes)
      ∙ leads.0 bytes

  put_taken : new.place + length new.half.items ≡ old.place + length old.half.items + length piece
      → new.place + length new.half.items ≡ length (put ++ piece)
  put_taken taken = taken ∙ sym one_more

  pub answers_after : (progress : Result Progress Reason) → Leads (λ bytes. resume old (piece ++ bytes)) progress new
      → OnOk progress (new.place + length new.half.items ≡ old.place + length old.half.items + length piece)
      → OnOk progress (new.place + new.room ≡ old.place + old.room)
      → Answers room (put ++ piece) (step_after progress new.place) (read D (left_of (put ++ piece) room 0))
  answers_after (Ok Open) leads taken left = answers_open leads taken
  answers_after (Ok Whole) leads taken left = answers_whole leads taken left
  answers_after (Err reason) leads taken left = answers_fault reason leads

  goes_on : (w : Walker D) → Alike new w → Leads (λ bytes. resume old (piece ++ bytes)) (Ok Open) new
      → new.place + length new.half.items ≡ old.place + length old.half.items + length piece
      → new.place + new.room ≡ old.place + old.room → last_step w ≡ Going → HasPut room (put ++ piece) w
  goes_on w alike leads taken left is_going = record {
    rest = λ bytes. put_rest leads bytes ∙ resume_alike new w alike bytes;
    taken = rw (alike.place, alike.half) (put_taken taken);
    left = rw (alike.place, alike.room) (left ∙ has.left);
    waits = λ some. (
      ap (λ (k : Walk). k.end) (sym (resume_alike new w alike [])) ∙ rw (alike.place, alike.half) leads.1.0,
      rw (alike.half, alike.room) leads.1.1,
    );
    is_going = is_going;
  }

  pub put_after : (w : Walker D) → Alike new w → (progress : Result Progress Reason)
      → Leads (λ bytes. resume old (piece ++ bytes)) progress new
      → OnOk progress (new.place + length new.half.items ≡ old.place + length old.half.items + length piece)
      → OnOk progress (new.place + new.room ≡ old.place + old.room)
      → last_step w ≡ step_after progress new.place → last_step w ≡ Going → HasPut room (put ++ piece) w
  put_after w alike (Ok Open) leads taken left is is_going = goes_on w alike leads taken left is_going
  put_after w alike (Ok Whole) leads taken left is is_going = (let other : Done ≡ Going = sym is ∙ is_going in cc)
  put_after w alike (Err reason) leads taken left is is_going =
      (let other : Fault (record { reason = reason; place = new.place }) ≡ Going = sym is ∙ is_going in cc)

-- a walker that was put nothing
pub new_rest : (depth room : ℕ) (counts half : List ℕ) → counts ≡ [] → half ≡ []
    → (bytes : List ℕ) → walk depth (left_of bytes room 0) ≡ go_on depth counts half 0 (left_of bytes room 0)
new_rest depth room counts half no_counts no_half bytes =
    let all : depth ≡ depth - 0 = omega arith in
    rw (no_counts, no_half) (ap (λ d. walk d (left_of bytes room 0)) all ∙ sym (finish-none depth (walk (depth - 0) (left_of bytes room 0))))

-- a walker that is Going, by the bytes that it was put
module _ {D : ℕ} (w : Walker D) (room : ℕ) (put : List ℕ) (has : HasPut room put w) where
  opened_so_far : open_in D (left_of put room 0) ≡ (resume w []).opened
  unfolding walk
  opened_so_far = ap (λ all. open_in D (left_of all room 0)) (sym (append-nil put))
      ∙ ap (λ (k : Walk). k.opened) (has.rest [])

  pub open_so_far : open_in D (left_of put room 0) ≡ record { items = length w.counts.items; content = w.string }
  unfolding resume
  open_so_far = opened_so_far
      ∙ go_on-open D w.counts.items w.half.items w.string w.room w.place w.begun (omega (arith, w.fits))

  pub counts_open : open_now w ≡ (open_in D (left_of put room 0)).items
  counts_open = ap (λ step. open_while step (length w.counts.items)) has.is_going ∙ sym (ap (λ (o : opened.Open). o.items) open_so_far)

  pub string_open : (open_in D (left_of put room 0)).content ≡ w.string
  string_open = ap (λ (o : opened.Open). o.content) open_so_far

  read_more : (more : List ℕ) → walk_end (read D (left_of (put ++ more) room 0)) ≡ (resume w more).end
  read_more more = sym (end_of_walk D (left_of (put ++ more) room 0)) ∙ ap (λ (k : Walk). k.end) (has.rest more)

  -- fewer bytes than the string has left
  pub early_content : (more : List ℕ) → length more < w.string
      → Answers room (put ++ more) Going (read D (left_of (put ++ more) room 0))
  unfolding resume
  early_content more short =
      let taken = has.taken in
      let none : length w.half.items ≡ 0 = w.one_part (omega arith) in
      let total = length-append put more in
      let place : w.place + length more ≡ length (put ++ more) = omega arith in
      read_refused (read D (left_of (put ++ more) room 0)) (record { reason = Truncated; place = length (put ++ more) })
      (read_more more ∙ go_on-short D w.counts.items w.half.items w.string w.room w.place more short
      ∙ ap (λ n. refused Truncated n) place)

  -- no further byte
  pub early_none : (more : List ℕ) → 0 < room → length more < 1
      → Answers room (put ++ more) Going (read D (left_of (put ++ more) room 0))
  early_none [] some short =
      let place : w.place + length w.half.items ≡ length (put ++ []) = has.taken ∙ ap length (sym (append-nil put)) in
      read_refused (read D (left_of (put ++ []) room 0)) (record { reason = Truncated; place = length (put ++ []) })
      (read_more [] ∙ (has.waits some).0 ∙ ap (λ n. refused Truncated n) place)
  early_none (byte ∷ more) some short = absurd (omega arith)
