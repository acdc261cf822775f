use Rattle.std.proofs.Common.{ℕ, Some, ap, sym, subst, ◌∙◌}
use Rattle.std.specs.Prelude.{nat_lt}
use Rattle.cose_head.specs.declared.reason.Reason.TheVariants.{Truncated}
use Rattle.cose_msg.specs.Answer.{refused}
use Rattle.cose_msg.specs.Kept.{bytes_taken}
use Rattle.cose_msg.specs.Shown.{Shown}
use Rattle.cose_msg.specs.Status.{status_in}
use Rattle.cose_msg.specs.Task.{rules_of}
use Rattle.cose_c.specs.Stream.{HasRead, reading_of, status_numbers}
use Rattle.cose_c.proofs.Streams.{ended, read_in}
use Rattle.cose_c.proofs.stream.end.Goals as goal

pub returns-clause-reads : goal.returns-clause-reads
returns-clause-reads g c = λ task taken payload read.
    let v = (read_in task taken payload _ c.in-Some.verifier c.in-Some.is read).0 in
    let r = reading_of g.row.H g.row.D task taken in
    c.status_numbers.ensures ∙ ap status_numbers (ended (nat_lt 0 r.payload_wanted) r.settled r.answer (status_in c.in-Some.verifier) c.end.result (bytes_taken c.in-Some.verifier)
    (sym c.status-status.ensures.value ∙ c.status-status.ensures.reads task taken payload v)
    c.end.ensures.truncated (c.end.ensures.awaiting task taken payload v) (λ closed. (c.end.ensures.again closed).0)
    (λ open_still. c.settled_stays.ensures.truncated (rules_of g.row.H g.row.D task) taken open_still ∙ ap (λ (n : ℕ). refused Truncated n) (sym v.counted)))

pub returns-in_default-clause-reads : goal.returns-in_default-clause-reads
returns-in_default-clause-reads g c = λ task taken payload read. absurd (subst (HasRead task taken payload) c.in_default.is read)

pub returns-in_default-clause-current : goal.returns-in_default-clause-current
returns-in_default-clause-current g c = rw c.in_default.is c.plain_status.ensures

pub returns-clause-current : goal.returns-clause-current
returns-clause-current g c = c.status_numbers.ensures ∙ ap status_numbers c.end.ensures.current

pub returns-clause-again : goal.returns-clause-again
returns-clause-again g c = λ closed. ap Some (c.end.ensures.again (rw c.in-Some.is at closed)).1 ∙ sym c.in-Some.is

pub returns-clause-same_task : goal.returns-clause-same_task
returns-clause-same_task g c = rw c.in-Some.is (ap Some c.end.ensures.purpose)

pub returns-clause-taken : goal.returns-clause-taken
returns-clause-taken g c = rw c.in-Some.is c.end.ensures.counts

pub returns-clause-signed : goal.returns-clause-signed
returns-clause-signed g c = rw c.in-Some.is (ap (λ (s : Shown). s.sign_input) c.end.ensures.shown)
