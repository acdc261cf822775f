use Rattle.std.proofs.Common.{◌≡◌, true, false, Some, refl, ap, sym, subst, ◌∙◌}
use Rattle.std.proofs.lemmas.Bool.{false≢true, true≢false}
use Rattle.cose_msg.specs.declared.verdict.Verdict.{Verdict}
use Rattle.cose_msg.specs.Answer.{decided}
use Rattle.cose_msg.specs.Kept.{is_inspecting}
use Rattle.cose_msg.specs.Shown.{Shown}
use Rattle.cose_msg.specs.Status.{is_complete, status_in}
use Rattle.cose_msg.specs.Task.{Task, to_verify}
use Rattle.cose_c.specs.Numbers.{always_authentic, no_message, verdict_numbers}
use Rattle.cose_c.specs.Stream.{HasRead, is_decidable, status_numbers}
use Rattle.cose_c.proofs.Streams.{decidable, decidable_in, read_in}
use Rattle.cose_c.proofs.stream.verdict.Goals as goal

pub returns-then-not-is_decidable-clause-verdict : goal.returns-then-not-is_decidable-clause-verdict
returns-then-not-is_decidable-clause-verdict g c = λ setting taken payload read complete.
    let v = (read_in (to_verify setting) taken payload _ c.in-Some.verifier c.in-Some.is read).0 in
    let done : is_complete (status_in c.in-Some.verifier) ≡ true =
    ap is_complete (sym c.status-status.ensures.value ∙ c.status-status.ensures.reads (to_verify setting) taken payload v) ∙ complete in
    let verifies : is_inspecting c.in-Some.verifier ≡ false = ap (λ (t : Task). t.inspects) v.made_for in
    absurd (true≢false (sym (c.is_decidable.ensures ∙ decidable c.in-Some.verifier done verifies) ∙ c.if-not-is_decidable.true))

pub returns-in-Authentic-clause-verdict : goal.returns-in-Authentic-clause-verdict
returns-in-Authentic-clause-verdict g c = λ setting taken payload read complete.
    let v = (read_in (to_verify setting) taken payload _ c.in-Some.verifier c.in-Some.is read).0 in
    c.accepted.ensures ∙ sym (ap (verdict_numbers always_authentic 0) (c.verdict.ensures.answer setting taken payload v ∙ ap decided c.in-Authentic.is))

pub returns-in-Refused-clause-verdict : goal.returns-in-Refused-clause-verdict
returns-in-Refused-clause-verdict g c = λ setting taken payload read complete.
    let v = (read_in (to_verify setting) taken payload _ c.in-Some.verifier c.in-Some.is read).0 in
    c.no_message-in-Refused.ensures ∙ ap no_message c.refused_status.ensures
    ∙ sym (ap (verdict_numbers always_authentic 0) (c.verdict.ensures.answer setting taken payload v ∙ ap decided c.in-Refused.is))

pub returns-then-not-is_decidable-clause-kept : goal.returns-then-not-is_decidable-clause-kept
returns-then-not-is_decidable-clause-kept g c = λ has.
    let here : is_decidable c.in-Some.verifier ≡ true = decidable_in _ c.in-Some.verifier c.in-Some.is has in
    absurd (true≢false (sym (c.is_decidable.ensures ∙ here) ∙ c.if-not-is_decidable.true))

pub returns-in-Authentic-clause-kept : goal.returns-in-Authentic-clause-kept
returns-in-Authentic-clause-kept g c = λ has.
    (c.verdict.result, c.verdict.ensures.kept, c.accepted.ensures ∙ sym (ap (λ (v : Verdict). verdict_numbers always_authentic 0 (decided v)) c.in-Authentic.is))

pub returns-in-Refused-clause-kept : goal.returns-in-Refused-clause-kept
returns-in-Refused-clause-kept g c = λ has.
    (c.verdict.result, c.verdict.ensures.kept, c.no_message-in-Refused.ensures ∙ ap no_message c.refused_status.ensures ∙ sym (ap (λ (v : Verdict). verdict_numbers always_authentic 0 (decided v)) c.in-Refused.is))

pub returns-then-not-is_decidable-clause-stays : goal.returns-then-not-is_decidable-clause-stays
returns-then-not-is_decidable-clause-stays g c = λ setting taken payload read complete.
    let v = (read_in (to_verify setting) taken payload _ c.in-Some.verifier c.in-Some.is read).0 in
    let done : is_complete (status_in c.in-Some.verifier) ≡ true =
    ap is_complete (sym c.status-status.ensures.value ∙ c.status-status.ensures.reads (to_verify setting) taken payload v) ∙ complete in
    let verifies : is_inspecting c.in-Some.verifier ≡ false = ap (λ (t : Task). t.inspects) v.made_for in
    absurd (true≢false (sym (c.is_decidable.ensures ∙ decidable c.in-Some.verifier done verifies) ∙ c.if-not-is_decidable.true))

pub returns-in-Authentic-clause-stays : goal.returns-in-Authentic-clause-stays
returns-in-Authentic-clause-stays g c = λ setting taken payload read complete.
    let v = (read_in (to_verify setting) taken payload _ c.in-Some.verifier c.in-Some.is read).0 in
    decidable c.verdict.new.self (ap is_complete (c.verdict.ensures.status setting taken payload v)) (ap (λ (t : Task). t.inspects) (c.verdict.ensures.purpose ∙ v.made_for))

pub returns-in-Refused-clause-stays : goal.returns-in-Refused-clause-stays
returns-in-Refused-clause-stays g c = λ setting taken payload read complete.
    let v = (read_in (to_verify setting) taken payload _ c.in-Some.verifier c.in-Some.is read).0 in
    decidable c.verdict.new.self (ap is_complete (c.verdict.ensures.status setting taken payload v)) (ap (λ (t : Task). t.inspects) (c.verdict.ensures.purpose ∙ v.made_for))

pub returns-in_default-clause-verdict : goal.returns-in_default-clause-verdict
returns-in_default-clause-verdict g c = λ setting taken payload read complete. absurd (subst (HasRead (to_verify setting) taken payload) c.in_default.is read)

pub returns-in_default-clause-incomplete : goal.returns-in_default-clause-incomplete
returns-in_default-clause-incomplete g c = λ lacks. (c.no_message.ensures ∙ ap no_message (rw c.in_default.is c.plain_status.ensures), refl)

pub returns-in_default-clause-again : goal.returns-in_default-clause-again
returns-in_default-clause-again g c = λ verdict has kept.
    absurd (false≢true (rw c.in_default.is at has))

pub returns-in_default-clause-kept : goal.returns-in_default-clause-kept
returns-in_default-clause-kept g c = λ has.
    absurd (false≢true (rw c.in_default.is at has))

pub returns-in_default-clause-stays : goal.returns-in_default-clause-stays
returns-in_default-clause-stays g c = λ setting taken payload read complete. absurd (subst (HasRead (to_verify setting) taken payload) c.in_default.is read)

pub returns-then-not-is_decidable-clause-incomplete : goal.returns-then-not-is_decidable-clause-incomplete
returns-then-not-is_decidable-clause-incomplete g c = λ lacks.
    (c.no_message-then-not-is_decidable.ensures ∙ ap no_message (rw c.in-Some.is (c.status_numbers.ensures ∙ ap status_numbers c.status-status.ensures.value)), sym c.in-Some.is)

pub returns-then-not-is_decidable-clause-again : goal.returns-then-not-is_decidable-clause-again
returns-then-not-is_decidable-clause-again g c = λ verdict has kept.
    let here : is_decidable c.in-Some.verifier ≡ true = decidable_in _ c.in-Some.verifier c.in-Some.is has in
    absurd (true≢false (sym (c.is_decidable.ensures ∙ here) ∙ c.if-not-is_decidable.true))

pub returns-then-not-is_decidable-clause-same_task : goal.returns-then-not-is_decidable-clause-same_task
returns-then-not-is_decidable-clause-same_task g c = rw c.in-Some.is refl

pub returns-then-not-is_decidable-clause-taken : goal.returns-then-not-is_decidable-clause-taken
returns-then-not-is_decidable-clause-taken g c = rw c.in-Some.is refl

pub returns-then-not-is_decidable-clause-signed : goal.returns-then-not-is_decidable-clause-signed
returns-then-not-is_decidable-clause-signed g c = rw c.in-Some.is refl

pub returns-in-Authentic-clause-incomplete : goal.returns-in-Authentic-clause-incomplete
returns-in-Authentic-clause-incomplete g c = λ lacks.
    absurd (true≢false (sym c.if-not-is_decidable.false ∙ c.is_decidable.ensures ∙ (rw c.in-Some.is at lacks)))

pub returns-in-Authentic-clause-again : goal.returns-in-Authentic-clause-again
returns-in-Authentic-clause-again g c = λ verdict has kept.
    let again = c.verdict.ensures.again verdict (rw c.in-Some.is at kept) in (
      c.accepted.ensures ∙ ap (λ (v : Verdict). verdict_numbers always_authentic 0 (decided v)) (sym c.in-Authentic.is ∙ again.0),
      ap Some again.1 ∙ sym c.in-Some.is,
    )

pub returns-in-Authentic-clause-same_task : goal.returns-in-Authentic-clause-same_task
returns-in-Authentic-clause-same_task g c = rw c.in-Some.is (ap Some c.verdict.ensures.purpose)

pub returns-in-Authentic-clause-taken : goal.returns-in-Authentic-clause-taken
returns-in-Authentic-clause-taken g c = rw c.in-Some.is c.verdict.ensures.counts

pub returns-in-Authentic-clause-signed : goal.returns-in-Authentic-clause-signed
returns-in-Authentic-clause-signed g c = rw c.in-Some.is (ap (λ (s : Shown). s.sign_input) c.verdict.ensures.shown)

pub returns-in-Refused-clause-incomplete : goal.returns-in-Refused-clause-incomplete
returns-in-Refused-clause-incomplete g c = λ lacks.
    absurd (true≢false (sym c.if-not-is_decidable.false ∙ c.is_decidable.ensures ∙ (rw c.in-Some.is at lacks)))

pub returns-in-Refused-clause-again : goal.returns-in-Refused-clause-again
returns-in-Refused-clause-again g c = λ verdict has kept.
    let again = c.verdict.ensures.again verdict (rw c.in-Some.is at kept) in (
      c.no_message-in-Refused.ensures ∙ ap no_message c.refused_status.ensures ∙ ap (λ (v : Verdict). verdict_numbers always_authentic 0 (decided v)) (sym c.in-Refused.is ∙ again.0),
      ap Some again.1 ∙ sym c.in-Some.is,
    )

pub returns-in-Refused-clause-same_task : goal.returns-in-Refused-clause-same_task
returns-in-Refused-clause-same_task g c = rw c.in-Some.is (ap Some c.verdict.ensures.purpose)

pub returns-in-Refused-clause-taken : goal.returns-in-Refused-clause-taken
returns-in-Refused-clause-taken g c = rw c.in-Some.is c.verdict.ensures.counts

pub returns-in-Refused-clause-signed : goal.returns-in-Refused-clause-signed
returns-in-Refused-clause-signed g c = rw c.in-Some.is (ap (λ (s : Shown). s.sign_input) c.verdict.ensures.shown)
