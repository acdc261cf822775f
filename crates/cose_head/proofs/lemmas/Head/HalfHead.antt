-- Heads that are read a byte at a time.
use Rattle.std.proofs.Common.{◌≡◌, ℕ, ◌+◌, ◌-◌, ◌<◌, ◌≤◌, ⊎_elim, true, false, List, [], ◌∷◌, ◌++◌, length, take, drop, Option, Some, None, Err, refl, sym, ap, ◌∙◌, arith, append_assoc, append-nil, one-add}
use Rattle.std.proofs.lemmas.Bool.{cases_lt, lt-ltb, le-ltb, ltb-true, cond_both}
use Rattle.std.proofs.lemmas.Bool.Decides.{nat_tests}
use Rattle.std.proofs.lemmas.List.{take_all, length-append}
use Rattle.std.proofs.Math.ListN.{drop_of_length-le}
use Rattle.std.specs.Prelude.{nat_lt}
use Rattle.cose_head.specs.declared.head.Head.{Head}
use Rattle.cose_head.specs.declared.head.HeadStep.{HeadStep}
use Rattle.cose_head.specs.declared.head.HeadStep.TheVariants.{Got, More, Fault}
use Rattle.cose_head.specs.declared.reason.Reason.{Reason}
use Rattle.cose_head.specs.declared.reason.Reason.TheVariants.{Truncated, PastRoom}
use Rattle.cose_head.specs.declared.refusal.Refusal.{Refusal}
use Rattle.cose_head.specs.Head.{major_of, low_of, low_fault, argument_length, head_of, simple_checked, after_initial, bare_head, IsMore}
use Rattle.cose_head.specs.Reading.{Left, refuse, head}
use Rattle.cose_head.specs.Measured.{left_of}
use Rattle.cose_head.specs.Laws.{more_after, IsSettled}
use Rattle.cose_head.specs.HalfHead.{is_more, is_half, IsHeadAt}
use Rattle.cose_head.proofs.lemmas.Head.Heads.{of_seen, head_as_seen, got_width}
use Rattle.cose_head.proofs.lemmas.Head.BareHeads.{checked_whole, bare_sound}
use Rattle.cose_head.proofs.lemmas.Head.HeadCases.{head_cases}
use Rattle.cose_head.proofs.lemmas.Reading.Stable.{head_same}

-- a head of which bytes are missing
after_initial-more : (fault : Option Reason) (wanted initial : ℕ) (rest : List ℕ) (n : ℕ)
    → after_initial fault wanted initial rest ≡ More n → (0 < n) × (length rest + n ≡ wanted)
after_initial-more (Some reason) wanted initial rest n e = cc
after_initial-more None wanted initial rest n e =
    cond_both (nat_lt (length rest) wanted) (More (wanted - length rest)) (simple_checked (head_of initial (take wanted rest))) (λ step. step ≡ More n → (0 < n) × (length rest + n ≡ wanted))
    (λ short f. let q = ltb-true _ _ short in let m : wanted - length rest ≡ n = cc in (omega arith, omega arith))
    (λ whole f. absurd (rw f at (checked_whole (head_of initial (take wanted rest))))) e

argument_length-small : (low : ℕ) → argument_length low ≤ 8
argument_length-small low = grind (arith, nat_tests)

pub bare_head-more : (half : List ℕ) (n : ℕ) → bare_head half ≡ More n → (0 < n) × (length half + n ≤ 9)
unfolding bare_head
bare_head-more [] n e = let one : 1 ≡ n = cc in (omega arith, omega arith)
bare_head-more (initial ∷ rest) n e =
    let is = after_initial-more (low_fault (major_of initial) (low_of initial)) (argument_length (low_of initial)) initial rest n e in
    let small = argument_length-small (low_of initial) in
    (omega arith, omega arith)

more_of : (step : HeadStep) → is_more step ≡ true → (n : ℕ) × (step ≡ More n)
more_of (Got h used) e = cc
more_of (More n) e = (n, refl)
more_of (Fault reason) e = cc

pub more_is_half : (half : List ℕ) (n : ℕ) → bare_head half ≡ More n → is_half half ≡ true
more_is_half half n e = rw e refl

pub half_is_more : (half : List ℕ) → is_half half ≡ true → (n : ℕ) × (bare_head half ≡ More n)
half_is_more half e = more_of (bare_head half) e

pub half_wants : (half : List ℕ) → is_half half ≡ true → IsMore (bare_head half)
half_wants half e = let missing = half_is_more half e in rw missing.1 tt

pub half_is_short : (half : List ℕ) → is_half half ≡ true → length half < 9
half_is_short half e =
    let missing = half_is_more half e in
    let short = bare_head-more half missing.0 missing.1 in
    omega arith

pub short_half : (bytes : List ℕ) → IsMore (bare_head bytes) → length bytes < 9
short_half bytes half = go (bare_head bytes) refl half
  where
    go : (step : HeadStep) → bare_head bytes ≡ step → IsMore step → length bytes < 9
    go (More n) e s = let short = bare_head-more bytes n e in omega arith
    go (Got h used) e s = absurd s
    go (Fault reason) e s = absurd s

-- the length of a head that is complete
pub head_fits : (bytes : List ℕ) (h : Head) (used : ℕ) → bare_head bytes ≡ Got h used → (0 < used) × (used ≤ 9) × (used ≤ length bytes)
head_fits bytes h used e =
    let s = bare_sound bytes h used e in
    let part : length s.part ≡ 1 + length s.is_head.argument_bytes = ap length s.is_head.whole ∙ sym (one-add (length s.is_head.argument_bytes)) in
    let wide = s.is_head.has_width in
    let small = argument_length-small (low_of s.is_head.initial) in
    let whole : length bytes ≡ length s.part + length s.rest = ap length s.whole ∙ length-append s.part s.rest in
    let ends = s.ends in
    let width = s.wide in
    (omega arith, omega arith, omega arith)

-- the head is that of all bytes where the room holds them
seen : (first : List ℕ) (room place : ℕ) (step : HeadStep) → bare_head first ≡ step → length first ≤ room
    → head (left_of first room place) ≡ of_seen (left_of first room place) step
seen first room place step e fits = head_as_seen first room place
    ∙ ap (of_seen (left_of first room place)) (ap bare_head (take_all room first fits) ∙ e)

-- and a refusal at the head's place is the same when bytes follow
stays : (first : List ℕ) (room place : ℕ) (reason : Reason) → (reason ≡ Truncated → ⊥)
    → head (left_of first room place) ≡ refuse reason place
    → (bytes : List ℕ) → head (left_of (first ++ bytes) room place) ≡ refuse reason place
stays first room place reason final e bytes =
    let settled : IsSettled (head (left_of first room place)) = rw e final in
    head_same bytes (left_of first room place) settled ∙ ap (more_after bytes) e

-- the head is complete
pub head-got : (first : List ℕ) (room : ℕ) (h : Head) (used : ℕ) → bare_head first ≡ Got h used → used ≡ length first
    → length first ≤ room
    → (length first ≡ h.width) × ((place : ℕ) → IsHeadAt first room place h)
head-got first room h used e all fits =
    let wide : used ≡ h.width = got_width first h used (sym e) in
    let past : drop h.width first ≡ [] = drop_of_length-le first (omega arith) in (
      omega arith,
      λ place bytes.
          let l : Left = left_of first room place in
          let here = seen first room place (Got h used) e fits in
          let settled : IsSettled (head l) = rw here tt in
          head_same bytes l settled ∙ ap (more_after bytes) here ∙ rw past refl,
    )

-- bytes are missing, and the room has space for them
pub head-more : (first : List ℕ) (room n : ℕ) → bare_head first ≡ More n → length first + n ≤ room
    → (place : ℕ) → head (left_of first room place) ≡ refuse Truncated (place + length first)
head-more first room n e fits place =
    let all : take room first ≡ first = take_all room first (omega arith) in
    let roomy : nat_lt (room - length first) n ≡ false = le-ltb _ _ (omega arith) in
    seen first room place (More n) e (omega arith) ∙ rw (all, roomy) refl

-- or the room doesn't have space for them
pub head-past_room : (first : List ℕ) (room n : ℕ) → bare_head first ≡ More n → length first ≤ room
    → room - length first < n
    → (place : ℕ) (bytes : List ℕ) → head (left_of (first ++ bytes) room place) ≡ refuse PastRoom place
head-past_room first room n e fits past place =
    let all : take room first ≡ first = take_all room first fits in
    let tight : nat_lt (room - length first) n ≡ true = lt-ltb _ _ past in
    stays first room place PastRoom (λ f. cc) (seen first room place (More n) e fits ∙ rw (all, tight) refl)

pub head-one_more : (half : List ℕ) (byte room : ℕ) → is_half half ≡ true → length half ≤ room
    → room < length (half ++ byte ∷ [])
    → (place : ℕ) (bytes : List ℕ) → head (left_of ((half ++ byte ∷ []) ++ bytes) room place) ≡ refuse PastRoom place
head-one_more half byte room e fits past place bytes =
    let missing = half_is_more half e in
    let some = (bare_head-more half missing.0 missing.1).0 in
    let total = length-append half (byte ∷ []) in
    rw append_assoc (head-past_room half room missing.0 missing.1 fits (omega arith) place (byte ∷ bytes))

-- the head has a fault
same_reason : (a b : Reason) (m n : ℕ) → refuse {A = Head} a m ≡ refuse b n → a ≡ b
same_reason a b m n e = let same : record { reason = a; place = m } ≡ record { reason = b; place = n } = cc in ap (λ (r : Refusal). r.reason) same

same_place : (a b : Reason) (m n : ℕ) → refuse {A = Head} a m ≡ refuse b n → m ≡ n
same_place a b m n e = let same : record { reason = a; place = m } ≡ record { reason = b; place = n } = cc in ap (λ (r : Refusal). r.place) same

not_truncated : (first : List ℕ) (room place : ℕ) (reason : Reason) → 0 < length first
    → head (left_of first room place) ≡ refuse reason place → reason ≡ Truncated → ⊥
not_truncated first room place reason some =
    head_cases room place (λ answer. answer ≡ refuse reason place → reason ≡ Truncated → ⊥) (λ other final e t. final (same_reason other reason place place e ∙ t)) first
    (λ space e t. let at = same_place Truncated reason (place + length first) place e in absurd (omega arith))
    (λ h has e t. cc)

pub head-fault : (first : List ℕ) (room : ℕ) (reason : Reason) → 0 < length first → bare_head first ≡ Fault reason
    → length first ≤ room
    → (reason ≡ Truncated → ⊥) × ((place : ℕ) (bytes : List ℕ) → head (left_of (first ++ bytes) room place) ≡ refuse reason place)
head-fault first room reason some e fits =
    let final : reason ≡ Truncated → ⊥ = not_truncated first room 0 reason some (seen first room 0 (Fault reason) e fits) in
    (final, λ place. stays first room place reason final (seen first room place (Fault reason) e fits))

-- a half head is refused in any room that holds it
pub head-half : (half : List ℕ) (room place : ℕ) → is_half half ≡ true → length half ≤ room
    → (refusal : Refusal) × (head (left_of half room place) ≡ Err refusal)
head-half half room place e fits =
    let missing = half_is_more half e in
    ⊎_elim
    (λ past. (record { reason = PastRoom; place = place }, rw append-nil at (head-past_room half room missing.0 missing.1 fits past place [])))
    (λ there. (record { reason = Truncated; place = place + length half }, head-more half room missing.0 missing.1 (omega arith) place))
    (cases_lt (room - length half) missing.0)
