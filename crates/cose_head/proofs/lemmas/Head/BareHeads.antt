-- Heads outside an item: their answers are the same when bytes follow, and they are read exactly where bytes spell
-- them.
use Rattle.std.proofs.Common.{◌≡◌, ℕ, suc, ◌+◌, ◌-◌, ◌<◌, ◌≤◌, Bool, true, false, List, [], ◌∷◌, ◌++◌, length, take, drop, Option, Some, None, if◌then◌else◌, refl, sym, ap, ◌∙◌, arith, ⊎_elim}
use Rattle.std.proofs.lemmas.Bool.{cond_both, ltb-false, lt-ltb, le-ltb, cases_lt}
use Rattle.std.proofs.lemmas.List.{length-append, take-append-le, take-append-drop}
use Rattle.std.proofs.Math.Seq.{take-append_seam}
use Rattle.std.specs.Prelude.{nat_lt}
use Rattle.cose_head.specs.declared.head.Head.{Head}
use Rattle.cose_head.specs.declared.head.HeadStep.TheVariants.{Got, More, Fault}
use Rattle.cose_head.specs.declared.reason.Reason.{Reason}
use Rattle.cose_head.specs.declared.reason.Reason.TheVariants.{BadSimple}
use Rattle.cose_head.specs.Head.{bare_head, after_initial, simple_checked, head_of, is_bad_simple, low_fault, major_of, low_of, argument_length, IsMore, IsWhole, IfGot}
use Rattle.cose_head.specs.Item.{IsHead}
use Rattle.cose_head.specs.Measured.{left_of}
use Rattle.cose_head.specs.Laws.{SpellsHead}
use Rattle.cose_head.proofs.lemmas.Head.HeadCases.{low_cases}
use Rattle.cose_head.proofs.lemmas.Reading.Sound.{head_part}

-- an answer other than More is the same when bytes follow
pub checked_whole : (h : Head) → IsWhole (simple_checked h)
checked_whole h = cond_both (is_bad_simple h) (Fault BadSimple) (Got h h.width) IsWhole (λ e. tt) (λ e. tt)

past_stays : (fault : Option Reason) (wanted initial : ℕ) (rest more : List ℕ) → IsWhole (after_initial fault wanted initial rest) →
    after_initial fault wanted initial (rest ++ more) ≡ after_initial fault wanted initial rest
past_stays (Some reason) wanted initial rest more s = refl
past_stays None wanted initial rest more s = go (nat_lt (length rest) wanted) refl s
  where
    go : (b : Bool) → nat_lt (length rest) wanted ≡ b →
        IsWhole (if b then More (wanted - length rest) else simple_checked (head_of initial (take wanted rest))) →
        (if nat_lt (length (rest ++ more)) wanted then More (wanted - length (rest ++ more)) else simple_checked
        (head_of initial (take wanted (rest ++ more)))) ≡
        (if b then More (wanted - length rest) else simple_checked (head_of initial (take wanted rest)))
    go true e q = absurd q
    go false e q =
        let there : wanted ≤ length rest = ltb-false (length rest) wanted e in
        let n = length-append rest more in
        let f : nat_lt (length (rest ++ more)) wanted ≡ false = le-ltb (length (rest ++ more)) wanted (omega arith) in
        rw (f, take-append-le wanted rest more there) refl

pub bare_stays : (bytes more : List ℕ) → IsWhole (bare_head bytes) → bare_head (bytes ++ more) ≡ bare_head bytes
unfolding bare_head
bare_stays [] more s = absurd s
bare_stays (initial ∷ rest) more s = past_stays (low_fault (major_of initial) (low_of initial)) (argument_length (low_of initial)) initial rest more s

-- with fewer bytes than More says the head is incomplete
past_wants : (fault : Option Reason) (wanted initial : ℕ) (rest more : List ℕ) (missing : ℕ) →
    after_initial fault wanted initial rest ≡ More missing → length more < missing →
    IsMore (after_initial fault wanted initial (rest ++ more))
past_wants (Some reason) wanted initial rest more missing e short = cc
past_wants None wanted initial rest more missing e short = go (nat_lt (length rest) wanted) refl e
  where
    go : (b : Bool) → nat_lt (length rest) wanted ≡ b →
        (if b then More (wanted - length rest) else simple_checked (head_of initial (take wanted rest))) ≡ More missing →
        IsMore (if nat_lt (length (rest ++ more)) wanted then More (wanted - length (rest ++ more)) else simple_checked
        (head_of initial (take wanted (rest ++ more))))
    go true f e =
        let m : wanted - length rest ≡ missing = cc in
        let n = length-append rest more in
        let t : nat_lt (length (rest ++ more)) wanted ≡ true = lt-ltb (length (rest ++ more)) wanted (omega arith) in
        rw t tt
    go false f e = absurd (rw e at (checked_whole (head_of initial (take wanted rest))))

pub bare_wants : (bytes more : List ℕ) (missing : ℕ) → bare_head bytes ≡ More missing → length more < missing → IsMore (bare_head (bytes ++ more))
unfolding bare_head
bare_wants [] [] missing e short = tt
bare_wants [] (b ∷ more) missing e short = let m : 1 ≡ missing = cc in absurd (omega arith)
bare_wants (initial ∷ rest) more missing e short = past_wants (low_fault (major_of initial) (low_of initial))
    (argument_length (low_of initial)) initial rest more missing e short

-- a head that is read is spelled
checked_sound : (bytes : List ℕ) (initial : ℕ) (rest : List ℕ) (h : Head) →
    h ≡ head_of initial (take (argument_length (low_of initial)) rest) → bytes ≡ initial ∷ rest → low_of initial < 28 →
    argument_length (low_of initial) ≤ length rest → IfGot (simple_checked h) (SpellsHead bytes)
checked_sound bytes initial rest h e front definite there =
    cond_both (is_bad_simple h) (Fault BadSimple) (Got h h.width) (λ step. IfGot step (SpellsHead bytes)) (λ f. tt)
    (λ good.
    let p = head_part (left_of bytes (suc (argument_length (low_of initial))) 0) h
    (record {
      initial = initial;
      rest = rest;
      front = front;
      definite = definite;
      there = there;
      fits = omega arith;
      is_head = e;
      good = good;
    }) in
    record {
      part = p.part;
      rest = drop h.width bytes;
      whole = p.whole;
      is_head = p.is_part.is_head;
      wide = p.is_part.wide;
      ends = refl;
      good = good;
    })

bare_got : (bytes : List ℕ) → IfGot (bare_head bytes) (SpellsHead bytes)
unfolding bare_head
bare_got [] = tt
bare_got (initial ∷ rest) =
    low_cases (major_of initial) (low_of initial)
    (λ fault. IfGot (after_initial fault (argument_length (low_of initial)) initial rest) (SpellsHead (initial ∷ rest)))
    (λ definite. cond_both (nat_lt (length rest) (argument_length (low_of initial))) (More (argument_length (low_of initial) - length rest))
    (simple_checked (head_of initial (take (argument_length (low_of initial)) rest)))
    (λ step. IfGot step (SpellsHead (initial ∷ rest))) (λ e. tt)
    (λ e. checked_sound (initial ∷ rest) initial rest (head_of initial (take (argument_length (low_of initial)) rest)) refl refl definite
    (ltb-false _ _ e)))
    tt tt

pub bare_sound : (bytes : List ℕ) (h : Head) (used : ℕ) → bare_head bytes ≡ Got h used → SpellsHead bytes h used
bare_sound bytes h used e = rw e at (bare_got bytes)

-- a head that is spelled is read
bare_spelled : (initial : ℕ) (argument rest : List ℕ) → low_of initial < 28 → length argument ≡ argument_length (low_of initial) →
    is_bad_simple (head_of initial argument) ≡ false →
    bare_head (initial ∷ (argument ++ rest)) ≡ Got (head_of initial argument) (1 + length argument)
unfolding bare_head
bare_spelled initial argument rest definite wide good =
    let n = length-append argument rest in
    let low : nat_lt (low_of initial) 28 ≡ true = lt-ltb (low_of initial) 28 definite in
    let there : nat_lt (length (argument ++ rest)) (argument_length (low_of initial)) ≡ false = le-ltb (length (argument ++ rest))
    (argument_length (low_of initial)) (omega arith) in
    let seam : take (argument_length (low_of initial)) (argument ++ rest) ≡ argument = ap (λ m. take m (argument ++ rest)) (sym wide)
    ∙ take-append_seam argument rest in
    rw (low, there, seam, good) refl

pub head_complete : (part rest : List ℕ) (major argument : ℕ) → IsHead part major argument →
    is_bad_simple (record { major = major; arg = argument; width = length part }) ≡ false →
    bare_head (part ++ rest) ≡ Got (record { major = major; arg = argument; width = length part }) (length part)
head_complete part rest major argument s good =
    let found : Head = record { major = major; arg = argument; width = length part } in
    let n : length part ≡ suc (length s.argument_bytes) = ap length s.whole in
    let w : 1 + length s.argument_bytes ≡ length part = omega arith in
    let same : head_of s.initial s.argument_bytes ≡ found = rw (s.has_major, s.has_argument, w) refl in
    ap (λ b. bare_head (b ++ rest)) s.whole ∙ bare_spelled s.initial s.argument_bytes rest s.is_definite s.has_width (ap is_bad_simple same ∙ good)
    ∙ ap (λ h. Got h (1 + length s.argument_bytes)) same ∙ ap (Got found) w

pub bare_complete : (bytes : List ℕ) (h : Head) (used : ℕ) → SpellsHead bytes h used → bare_head bytes ≡ Got h used
bare_complete bytes h used s =
    let g : is_bad_simple (record { major = h.major; arg = h.arg; width = length s.part }) ≡ false = rw s.wide s.good in
    ap bare_head s.whole ∙ head_complete s.part s.rest h.major h.arg s.is_head g ∙ rw (s.wide, s.ends) refl

-- a head that a longer list begins with and that ends within this list is one that this list begins with
ends_here : (bytes more : List ℕ) (h : Head) (used : ℕ) → SpellsHead (bytes ++ more) h used → used ≤ length bytes → bare_head bytes ≡ Got h used
ends_here bytes more h used s short =
    let w = s.wide in
    let u = s.ends in
    let there : length s.part ≤ length bytes = omega arith in
    let front : take (length s.part) bytes ≡ s.part = sym (take-append-le (length s.part) bytes more there)
    ∙ ap (take (length s.part)) s.whole ∙ take-append_seam s.part s.rest in
    bare_complete bytes h used (record {
      part = s.part;
      rest = drop (length s.part) bytes;
      whole = sym (take-append-drop (length s.part) bytes) ∙ ap (λ b. b ++ drop (length s.part) bytes) front;
      is_head = s.is_head;
      wide = w;
      ends = u;
      good = s.good;
    })

-- the byte that completes a half head is its last
pub bare_ends : (bytes : List ℕ) (byte : ℕ) (h : Head) (used : ℕ) → IsMore (bare_head bytes) → bare_head (bytes ++ byte ∷ []) ≡ Got h used →
    used ≡ length bytes + 1
bare_ends bytes byte h used half e =
    let s = bare_sound (bytes ++ byte ∷ []) h used e in
    let n : length bytes + 1 ≡ length s.part + length s.rest = sym (length-append bytes (byte ∷ [])) ∙ ap length s.whole
    ∙ length-append s.part s.rest in
    let w = s.wide in
    let u = s.ends in
    ⊎_elim (λ longer. omega arith) (λ short. absurd (rw (ends_here bytes (byte ∷ []) h used s short) at half)) (cases_lt (length bytes) used)
