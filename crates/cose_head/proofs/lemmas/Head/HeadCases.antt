-- The cases of a head: refused at its place, cut short, or complete.
use Rattle.std.proofs.Common.{◌≡◌, ℕ, ◌-◌, ◌<◌, ◌≤◌, false, List, [], ◌∷◌, length, take, Option, Some, None, Ok, if◌then◌else◌, refl, arith}
use Rattle.std.proofs.lemmas.Bool.{cond_both, ltb-true, ltb-false, eqb-false}
use Rattle.std.specs.Prelude.{nat_lt, ◌==◌, ◌||◌}
use Rattle.cose_head.specs.declared.head.Head.{Head}
use Rattle.cose_head.specs.declared.reason.Reason.{Reason}
use Rattle.cose_head.specs.declared.reason.Reason.TheVariants.{Truncated, Reserved, Indefinite, BadSimple, PastRoom}
use Rattle.cose_head.specs.Head.{major_of, low_of, low_fault, argument_length, head_of, is_bad_simple}
use Rattle.cose_head.specs.Reading.{Left, Outcome, after, refuse, truncated, checked, past_initial, at_initial, head}
use Rattle.cose_head.specs.Measured.{left_of}

pub low_cases : (major low : ℕ) (P : Option Reason → Type 0) → (low < 28 → P None) → P (Some Reserved) → P (Some Indefinite) → P (low_fault major low)
low_cases major low P definite reserved indefinite =
    cond_both (nat_lt low 28) None (if nat_lt low 31 || (nat_lt major 2 || major == 6) then Some Reserved else Some Indefinite) P
    (λ e. definite (ltb-true low 28 e))
    (λ e. cond_both (nat_lt low 31 || (nat_lt major 2 || major == 6)) (Some Reserved) (Some Indefinite) P (λ f. reserved) (λ f. indefinite))

-- a head that is complete
pub record HasHead (bytes : List ℕ) (room : ℕ) (h : Head) : Type 0 where
  pub initial : ℕ
  pub rest : List ℕ
  pub front : bytes ≡ initial ∷ rest
  pub definite : low_of initial < 28
  pub there : argument_length (low_of initial) ≤ length rest
  pub fits : argument_length (low_of initial) < room
  pub is_head : h ≡ head_of initial (take (argument_length (low_of initial)) rest)
  pub good : is_bad_simple h ≡ false

module _ (room place : ℕ) (P : Outcome Head → Type 0) (refused : (reason : Reason) → (reason ≡ Truncated → ⊥) → P (refuse reason place)) where
  past_cases : (initial : ℕ) (rest : List ℕ) → 0 < room → low_of initial < 28 →
      (length (initial ∷ rest) < room → P (truncated (left_of (initial ∷ rest) room place))) →
      ((h : Head) → HasHead (initial ∷ rest) room h → P (Ok (h, after h.width (left_of (initial ∷ rest) room place)))) →
      P (past_initial None (argument_length (low_of initial)) initial rest (left_of (initial ∷ rest) room place))
  past_cases initial rest some definite short got =
      let wanted : ℕ = argument_length (low_of initial) in
      let h : Head = head_of initial (take wanted rest) in
      let l : Left = left_of (initial ∷ rest) room place in
      cond_both (nat_lt (room - 1) wanted) (refuse PastRoom place) (if nat_lt (length rest) wanted then truncated l else checked h l) P
      (λ past. refused PastRoom (λ f. cc))
      (λ fits. let a = ltb-false _ _ fits in cond_both (nat_lt (length rest) wanted) (truncated l) (checked h l) P
      (λ missing. let b = ltb-true _ _ missing in short (omega arith))
      (λ whole. let b = ltb-false _ _ whole in cond_both (is_bad_simple h) (refuse BadSimple place) (Ok (h, after h.width l)) P
      (λ bad. refused BadSimple (λ f. cc))
      (λ good. got h (record {
        initial = initial;
        rest = rest;
        front = refl;
        definite = definite;
        there = b;
        fits = omega arith;
        is_head = refl;
        good = good;
      }))))

  pub head_cases : (bytes : List ℕ) → (length bytes < room → P (truncated (left_of bytes room place))) →
      ((h : Head) → HasHead bytes room h → P (Ok (h, after h.width (left_of bytes room place)))) → P (head (left_of bytes room place))
  unfolding head
  head_cases [] short got =
      cond_both (room == 0) (refuse PastRoom place) (truncated (left_of [] room place)) P
      (λ e. refused PastRoom (λ f. cc))
      (λ e. let some = eqb-false room 0 e in short (omega arith))
  head_cases (initial ∷ rest) short got =
      cond_both (room == 0) (refuse PastRoom place) (at_initial (initial ∷ rest) (left_of (initial ∷ rest) room place)) P
      (λ e. refused PastRoom (λ f. cc))
      (λ e. let some = eqb-false room 0 e in
      low_cases (major_of initial) (low_of initial)
      (λ fault. P (past_initial fault (argument_length (low_of initial)) initial rest (left_of (initial ∷ rest) room place)))
      (λ definite. past_cases initial rest (omega arith) definite short got)
      (refused Reserved (λ f. cc)) (refused Indefinite (λ f. cc)))
