-- A verifier that has taken nothing: it is as it was made, or keeps that the message is Truncated at 0.
use Rattle.std.proofs.Common.{◌≡◌, ℕ, Bool, true, false, List, [], Option, Some, None, Ok, refl, sym, ap, subst, ◌∙◌, arith}
use Rattle.cose_head.specs.Head.{bare_head}
use Rattle.cose_head.specs.declared.reason.Reason.TheVariants.{Truncated}
use Rattle.cose_msg.specs.declared.phase.Detached.{Detached}
use Rattle.cose_msg.specs.declared.phase.Phase.{Phase}
use Rattle.cose_msg.specs.declared.phase.Phase.TheVariants as phases
use Rattle.cose_msg.specs.declared.reader.Reader.{Reader}
use Rattle.cose_msg.specs.declared.verdict.Verdict.{Verdict}
use Rattle.cose_msg.specs.declared.verdict.Verdict.TheVariants.{Refused}
use Rattle.cose_msg.specs.declared.verifier.Verifier.{Verifier}
use Rattle.cose_msg.specs.Kept.{HasTaken, answer_kept, kept_answer, verdict_in}
use Rattle.cose_msg.specs.Message.{message}
use Rattle.cose_msg.specs.Phase.{awaits_decision, ends_at, is_settled, payload_want_of}
use Rattle.cose_msg.specs.Phases.{nothing_so_far}
use Rattle.cose_msg.specs.Reader.{HoldsIn, IsUntouched, SoFar, first_phase, task_in}
use Rattle.cose_msg.specs.Source.{Source, source_with, with_came}
use Rattle.cose_msg.specs.Task.{Task, given_to}
use Rattle.cose_msg.specs.Verifier.{task_of}
use Rattle.cose_msg.proofs.lemmas.Reader.Meanings.{unknown}

-- Such a reader is at the start of every message under its terms, unless the end was reported.
pub starts_message : {H D : ℕ} (task : Task) (v : Reader H D) → IsUntouched v → v.phase ≡ phases.FirstHead → task_in task v ≡ task → SoFar task [] [] v
unfolding message bare_head
starts_message task v (_, head, no_protected, no_unprotected, closed) first same = record {
  known = unknown [];
  so_far = nothing_so_far;
  shows = (same, no_protected, no_unprotected, closed);
  payload_known = refl;
  payload_so_far = refl;
  holds = subst (λ (phase : Phase). HoldsIn task (unknown []) nothing_so_far 0 v phase) (sym first) (rw head (refl, (tt, refl)));
  left = λ z. rw (first, head) refl;
}

first_is_undecided : (is_ended : Bool) → awaits_decision (first_phase is_ended) ≡ false
first_is_undecided true = refl
first_is_undecided false = refl

pub untouched_is_undecided : {H D : ℕ} (v : Reader H D) → IsUntouched v → awaits_decision v.phase ≡ false
untouched_is_undecided v untouched = ap awaits_decision untouched.0 ∙ first_is_undecided (is_settled v.phase)

first_ends : (is_ended : Bool) (n : ℕ) → ends_at (first_phase is_ended) n ≡ n
first_ends true n = refl
first_ends false n = refl

-- Such a message ends where its bytes do.
pub untouched_ends : {H D : ℕ} (v : Reader H D) (n : ℕ) → IsUntouched v → ends_at v.phase n ≡ n
untouched_ends v n untouched = ap (λ (phase : Phase). ends_at phase n) untouched.0 ∙ first_ends (is_settled v.phase) n

first_awaits_none : (is_ended : Bool) → payload_want_of (first_phase is_ended) ≡ 0
first_awaits_none true = refl
first_awaits_none false = refl

-- Nothing of a payload is awaited there.
pub untouched_awaits_none : {H D : ℕ} (v : Reader H D) → IsUntouched v → (p : Detached) → v.phase ≡ phases.Detached p → ⊥
untouched_awaits_none v untouched p is =
    let none : p.left ≡ 0 = sym (ap payload_want_of is) ∙ ap payload_want_of untouched.0 ∙ first_awaits_none (is_settled v.phase) in
    omega (arith, none, p.some_left)

-- Where no answer is kept, the verifier hasn't stopped, and no verdict is known.
none_kept : {A : Type 0} (is_stopped : Bool) (answer : Option A) → answer_kept is_stopped answer ≡ None → (is_stopped ≡ false) × (answer ≡ None)
none_kept true answer e = absurd cc
none_kept false (Some answer) e = absurd cc
none_kept false None e = (refl, refl)

pub one_kept : {A : Type 0} (is_stopped : Bool) (answer : Option A) (one : A) → answer_kept is_stopped answer ≡ Some (Ok one) → answer ≡ Some one
one_kept true answer one e = absurd cc
one_kept false (Some answer) one e = cc
one_kept false None one e = absurd cc

first_without_verdict : (is_ended : Bool) → verdict_in (first_phase is_ended) ≡ None → first_phase is_ended ≡ phases.FirstHead
first_without_verdict true none = absurd cc
first_without_verdict false none = refl

first_with_verdict : (is_ended : Bool) (verdict : Verdict) → verdict_in (first_phase is_ended) ≡ Some verdict → verdict ≡ Refused (record { reason = Truncated; place = 0 })
first_with_verdict true verdict one = cc
first_with_verdict false verdict one = absurd cc

nothing_given : (detached_length : Option ℕ) → with_came [] (source_with [] detached_length) ≡ source_with [] detached_length
nothing_given None = refl
nothing_given (Some n) = refl

-- A verifier that hasn't stopped, of a reader that is at its first head and has taken nothing, has taken nothing.
pub begins : {H D : ℕ} {S : Type 0} {K : _} (task : Task) (v : Verifier H D S K) → task_of v ≡ task → IsUntouched v.reader → v.reader.phase ≡ phases.FirstHead → v.taken ≡ 0 → v.stopped ≡ false → HasTaken task [] [] v
begins {H} {D} {S} {K} task v is untouched first none going =
    let from : Source → Task = λ source. record { setting = record (task_of v).setting { source = source }; inspects = v.inspecting } in
    let nothing : given_to [] (task_of v) ≡ task_of v = ap from (nothing_given v.detached_length) in
    let so : (more : List ℕ) → SoFar (given_to more (task_of v)) [] [] v.reader = λ more. starts_message (given_to more (task_of v)) v.reader untouched first refl in
    subst (λ (t : Task). HasTaken t [] [] v) is (record {
      made_for = sym nothing;
      so_far = subst (λ (t : Task). SoFar t [] [] v.reader) nothing (so []);
      came = nothing;
      whatever_comes = so;
      counted = none;
      goes_on = going;
    })

pub untouched_is_anew : {H D : ℕ} {S : Type 0} {K : _} (v : Verifier H D S K) → v.taken ≡ 0 → kept_answer v ≡ None → HasTaken (task_of v) [] [] v
untouched_is_anew v none kept =
    let untouched = v.untouched none in
    let unsettled = none_kept v.stopped (verdict_in v.reader.phase) kept in
    let first = untouched.0 ∙ first_without_verdict (is_settled v.reader.phase) (sym (ap verdict_in untouched.0) ∙ unsettled.1) in
    begins (task_of v) v refl untouched first none unsettled.0

pub untouched_is_truncated : {H D : ℕ} {S : Type 0} {K : _} (v : Verifier H D S K) (verdict : Verdict) → v.taken ≡ 0 → kept_answer v ≡ Some (Ok verdict) → verdict ≡ Refused (record { reason = Truncated; place = 0 })
untouched_is_truncated v verdict none kept =
    let same = (v.untouched none).0 in
    first_with_verdict (is_settled v.reader.phase) verdict (sym (ap verdict_in same) ∙ one_kept v.stopped (verdict_in v.reader.phase) verdict kept)
