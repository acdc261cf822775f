-- The head of an item is what `bare_head` gives of the bytes that are in the room.
use Rattle.std.proofs.Common.{◌≡◌, ℕ, zero, suc, ◌+◌, ◌-◌, ◌<◌, ◌≤◌, true, false, List, [], ◌∷◌, ⊎_elim, length, take, min, Option, Some, None, Ok, if◌then◌else◌, refl, sym, ap, ◌∙◌, arith, length-take}
use Rattle.std.proofs.lemmas.List.{take-take, take_min}
use Rattle.std.proofs.lemmas.Bool.{cases_lt, lt-ltb, le-ltb}
use Rattle.std.proofs.lemmas.Bool.Decides.{nat_tests}
use Rattle.std.specs.Prelude.{nat_lt, ◌==◌}
use Rattle.cose_head.specs.declared.head.Head.{Head}
use Rattle.cose_head.specs.declared.head.HeadStep.{HeadStep}
use Rattle.cose_head.specs.declared.head.HeadStep.TheVariants.{Got, More, Fault}
use Rattle.cose_head.specs.declared.reason.Reason.{Reason}
use Rattle.cose_head.specs.declared.reason.Reason.TheVariants.{Truncated, BadSimple, PastRoom}
use Rattle.cose_head.specs.Head.{bare_head, after_initial, simple_checked, head_of, is_bad_simple, low_fault, major_of, low_of, argument_length, IfGot}
use Rattle.cose_head.specs.Reading.{Left, Outcome, after, refuse, truncated, checked, past_initial, head}
use Rattle.cose_head.specs.Measured.{left_of}

-- the outcome for the bare head of the bytes in the room
abbrev pub of_seen : Left → HeadStep → Outcome Head
of_seen l (Got h used) = Ok (h, after h.width l)
of_seen l (More wanted) = if nat_lt (l.room - length (take l.room l.bytes)) wanted then refuse PastRoom l.place else truncated l
of_seen l (Fault reason) = refuse reason l.place

checked_as_seen : (h : Head) (l : Left) → checked h l ≡ of_seen l (simple_checked h)
checked_as_seen h l =
    elim (is_bad_simple h) as (λ b. (if b then refuse BadSimple l.place else Ok (h, after h.width l)) ≡ of_seen l
    (if b then Fault BadSimple else Got h h.width))
    [ true ↦ refl | false ↦ refl ]

past_as_seen : (fault : Option Reason) (wanted initial : ℕ) (rest : List ℕ) (room place : ℕ) →
    past_initial fault wanted initial rest (left_of (initial ∷ rest) (suc room) place) ≡ of_seen (left_of (initial ∷ rest) (suc room) place)
    (after_initial fault wanted initial (take room rest))
past_as_seen (Some reason) wanted initial rest room place = refl
past_as_seen None wanted initial rest room place =
    ⊎_elim past_room (λ fits. ⊎_elim (missing fits) (whole fits) (cases_lt (length rest) wanted)) (cases_lt room wanted)
  where
    past_room : room < wanted → past_initial None wanted initial rest (left_of (initial ∷ rest) (suc room) place) ≡ of_seen
        (left_of (initial ∷ rest) (suc room) place) (after_initial None wanted initial (take room rest))
    past_room small =
        let e : length (take room rest) ≡ min room (length rest) = length-take room rest in
        let a : nat_lt (suc room - 1) wanted ≡ true = grind (arith, nat_tests) in
        let b : nat_lt (length (take room rest)) wanted ≡ true = grind (arith, nat_tests) in
        let c : nat_lt (suc room - suc (length (take room rest))) (wanted - length (take room rest)) ≡ true = grind (arith, nat_tests) in
        rw (a, b, c) refl

    missing : wanted ≤ room → length rest < wanted →
        past_initial None wanted initial rest (left_of (initial ∷ rest) (suc room) place) ≡ of_seen
        (left_of (initial ∷ rest) (suc room) place) (after_initial None wanted initial (take room rest))
    missing fits short =
        let e : length (take room rest) ≡ min room (length rest) = length-take room rest in
        let a : nat_lt (suc room - 1) wanted ≡ false = grind (arith, nat_tests) in
        let a2 : nat_lt (length rest) wanted ≡ true = grind (arith, nat_tests) in
        let b : nat_lt (length (take room rest)) wanted ≡ true = grind (arith, nat_tests) in
        let c : nat_lt (suc room - suc (length (take room rest))) (wanted - length (take room rest)) ≡ false = grind (arith, nat_tests) in
        rw (a, a2, b, c) refl

    whole : wanted ≤ room → wanted ≤ length rest → past_initial None wanted initial rest (left_of (initial ∷ rest) (suc room) place) ≡ of_seen
        (left_of (initial ∷ rest) (suc room) place) (after_initial None wanted initial (take room rest))
    whole fits there =
        let e : length (take room rest) ≡ min room (length rest) = length-take room rest in
        let a : nat_lt (suc room - 1) wanted ≡ false = grind (arith, nat_tests) in
        let a2 : nat_lt (length rest) wanted ≡ false = grind (arith, nat_tests) in
        let b : nat_lt (length (take room rest)) wanted ≡ false = grind (arith, nat_tests) in
        let t : take wanted (take room rest) ≡ take wanted rest = take-take wanted room rest fits in
        rw (a, a2, b, t) (checked_as_seen (head_of initial (take wanted rest)) (left_of (initial ∷ rest) (suc room) place))

pub head_as_seen : (bytes : List ℕ) (room place : ℕ) → head (left_of bytes room place) ≡ of_seen (left_of bytes room place)
    (bare_head (take room bytes))
unfolding head bare_head
head_as_seen [] zero place = refl
head_as_seen [] (suc room) place =
    let a : suc room == 0 ≡ false = grind (arith, nat_tests) in
    let b : nat_lt (suc room - 0) 1 ≡ false = grind (arith, nat_tests) in
    rw (a, b) refl
head_as_seen (initial ∷ rest) zero place = refl
head_as_seen (initial ∷ rest) (suc room) place =
    let a : suc room == 0 ≡ false = grind (arith, nat_tests) in
    rw a (past_as_seen (low_fault (major_of initial) (low_of initial)) (argument_length (low_of initial)) initial rest room place)

-- the same, where the number of these bytes is the lesser of the room and the length
head_is_seen : (bytes : List ℕ) (room place seen : ℕ) (step : HeadStep) → seen ≡ min room (length bytes) → step ≡ bare_head (take seen bytes) →
    of_seen (left_of bytes room place) step ≡ head (left_of bytes room place)
head_is_seen bytes room place seen step e s =
    let t : take seen bytes ≡ take room bytes = ap (λ n. take n bytes) e ∙ take_min room bytes in
    ap (of_seen (left_of bytes room place)) (s ∙ ap bare_head t) ∙ sym (head_as_seen bytes room place)

-- and for each step
pub head_got : (bytes : List ℕ) (room place seen : ℕ) (h : Head) (used : ℕ) → seen ≡ min room (length bytes) →
    Got h used ≡ bare_head (take seen bytes) →
    Ok (h, after h.width (left_of bytes room place)) ≡ head (left_of bytes room place)
head_got bytes room place seen h used e s = head_is_seen bytes room place seen (Got h used) e s

pub head_past : (bytes : List ℕ) (room place seen wanted : ℕ) → seen ≡ min room (length bytes) → More wanted ≡ bare_head (take seen bytes) →
    room - length (take seen bytes) < wanted → refuse PastRoom place ≡ head (left_of bytes room place)
head_past bytes room place seen wanted e s past =
    let t : take room bytes ≡ take seen bytes = sym (take_min room bytes) ∙ ap (λ n. take n bytes) (sym e) in
    let p : nat_lt (room - length (take room bytes)) wanted ≡ true = rw t (lt-ltb _ _ past) in
    let o : refuse PastRoom place ≡ of_seen (left_of bytes room place) (More wanted) = rw p refl in
    o ∙ head_is_seen bytes room place seen (More wanted) e s

pub head_short : (bytes : List ℕ) (room place seen wanted : ℕ) → seen ≡ min room (length bytes) → More wanted ≡ bare_head (take seen bytes) →
    wanted ≤ room - length (take seen bytes) → refuse Truncated (place + length bytes) ≡ head (left_of bytes room place)
head_short bytes room place seen wanted e s fits =
    let t : take room bytes ≡ take seen bytes = sym (take_min room bytes) ∙ ap (λ n. take n bytes) (sym e) in
    let p : nat_lt (room - length (take room bytes)) wanted ≡ false = rw t (le-ltb _ _ fits) in
    let o : refuse Truncated (place + length bytes) ≡ of_seen (left_of bytes room place) (More wanted) = rw p refl in
    o ∙ head_is_seen bytes room place seen (More wanted) e s

pub head_fault : (bytes : List ℕ) (room place seen : ℕ) (reason : Reason) → seen ≡ min room (length bytes) →
    Fault reason ≡ bare_head (take seen bytes) →
    refuse reason place ≡ head (left_of bytes room place)
head_fault bytes room place seen reason e s = head_is_seen bytes room place seen (Fault reason) e s

-- a head has as many bytes as its width says
checked_width : (h : Head) → IfGot (simple_checked h) (λ got used. used ≡ got.width)
checked_width h = elim (is_bad_simple h) as
    (λ b. IfGot (if b then Fault BadSimple else Got h h.width) (λ got used. used ≡ got.width)) [ true ↦ tt | false ↦ refl ]

past_width : (fault : Option Reason) (wanted initial : ℕ) (rest : List ℕ) →
    IfGot (after_initial fault wanted initial rest) (λ got used. used ≡ got.width)
past_width (Some reason) wanted initial rest = tt
past_width None wanted initial rest =
    elim (nat_lt (length rest) wanted) as
    (λ b. IfGot (if b then More (wanted - length rest) else simple_checked (head_of initial (take wanted rest))) (λ got used. used ≡ got.width))
    [ true ↦ tt | false ↦ checked_width (head_of initial (take wanted rest)) ]

bare_width : (bytes : List ℕ) → IfGot (bare_head bytes) (λ got used. used ≡ got.width)
unfolding bare_head
bare_width [] = tt
bare_width (initial ∷ rest) = past_width (low_fault (major_of initial) (low_of initial)) (argument_length (low_of initial)) initial rest

pub got_width : (bytes : List ℕ) (h : Head) (used : ℕ) → Got h used ≡ bare_head bytes → used ≡ h.width
got_width bytes h used e = rw (← e) at (bare_width bytes)
