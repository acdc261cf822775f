use Rattle.std.proofs.Common.{false, Some, refl, sym, ap, subst, ◌∙◌, zero-le}
use Rattle.std.proofs.Math.Nat.{le_refl}
use Rattle.cose_msg.specs.Status.{status_in}
use Rattle.cose_c.specs.Stream.{HasRead, nothing_fed, status_numbers, task_by}
use Rattle.cose_c.proofs.Streams.{numbers_of_nothing, read_in, same_task, status_of_verifier, wanted_in}
use Rattle.cose_c.proofs.stream.feed.Goals as goal

pub returns-in-Some-clause-uses : goal.returns-in-Some-clause-uses
returns-in-Some-clause-uses g c = λ task taken payload read.
    let v = (read_in task taken payload _ c.in-Some.verifier c.in-Some.is read).0 in
    rw c.fed_numbers.ensures.used (c.feed.ensures.uses task taken payload v)

pub returns-in-Some-clause-reads : goal.returns-in-Some-clause-reads
returns-in-Some-clause-reads g c = λ task taken payload read.
    let v = (read_in task taken payload _ c.in-Some.verifier c.in-Some.is read).0 in (
      rw (c.fed_numbers.ensures.to, c.fed_numbers.ensures.from, c.fed_numbers.ensures.used) (c.feed.ensures.taken task taken payload v),
      rw c.fed_numbers.ensures.used (c.feed.ensures.shows task taken payload v),
    )

pub returns-in-Some-clause-status : goal.returns-in-Some-clause-status
returns-in-Some-clause-status g c = λ task taken payload read.
    let v = (read_in task taken payload _ c.in-Some.verifier c.in-Some.is read).0 in
    rw c.fed_numbers.ensures.used (c.fed_numbers.ensures.status ∙ ap status_numbers (c.feed.ensures.status task taken payload v))

pub returns-in-Some-clause-same_task : goal.returns-in-Some-clause-same_task
returns-in-Some-clause-same_task g c = λ task taken payload read.
    let v = (read_in task taken payload _ c.in-Some.verifier c.in-Some.is read).0 in
    ap Some (same_task c.in-Some.verifier c.feed.new.self (c.feed.ensures.purpose.context v) c.feed.ensures.purpose.inspects)
    ∙ sym (ap task_by c.in-Some.is)

pub returns-in-Some-clause-again : goal.returns-in-Some-clause-again
returns-in-Some-clause-again g c = λ settled.
    let nothing = c.feed.ensures.again (wanted_in c.args.content.now c.in-Some.verifier false c.in-Some.is settled) in (
      numbers_of_nothing c.feed.result c.fed_numbers.result (status_in c.in-Some.verifier) c.fed_numbers.ensures.status c.fed_numbers.ensures.used
          c.fed_numbers.ensures.from c.fed_numbers.ensures.to nothing.0 ∙ sym (ap nothing_fed (status_of_verifier c.args.content.now c.in-Some.verifier c.in-Some.is)),
      ap Some nothing.1 ∙ sym c.in-Some.is,
    )

pub returns-in-Some-clause-current : goal.returns-in-Some-clause-current
returns-in-Some-clause-current g c = c.fed_numbers.ensures.status ∙ ap status_numbers c.feed.ensures.current

pub returns-in-Some-clause-fits : goal.returns-in-Some-clause-fits
returns-in-Some-clause-fits g c = rw c.fed_numbers.ensures.used c.feed.ensures.fits

pub returns-in-Some-clause-among : goal.returns-in-Some-clause-among
returns-in-Some-clause-among g c = rw (c.fed_numbers.ensures.to, c.fed_numbers.ensures.used) c.feed.ensures.among

pub returns-in-None-clause-uses : goal.returns-in-None-clause-uses
returns-in-None-clause-uses g c = λ task taken payload read. absurd (subst (HasRead task taken payload) c.in-None.is read)

pub returns-in-None-clause-reads : goal.returns-in-None-clause-reads
returns-in-None-clause-reads g c = λ task taken payload read. absurd (subst (HasRead task taken payload) c.in-None.is read)

pub returns-in-None-clause-status : goal.returns-in-None-clause-status
returns-in-None-clause-status g c = λ task taken payload read. absurd (subst (HasRead task taken payload) c.in-None.is read)

pub returns-in-None-clause-current : goal.returns-in-None-clause-current
returns-in-None-clause-current g c = rw (c.in-None.is, c.nothing_fed.ensures) c.plain_status.ensures

pub returns-in-None-clause-fits : goal.returns-in-None-clause-fits
returns-in-None-clause-fits g c = rw c.nothing_fed.ensures zero-le

pub returns-in-None-clause-among : goal.returns-in-None-clause-among
returns-in-None-clause-among g c = rw c.nothing_fed.ensures (le_refl 0)

pub returns-in-None-clause-again : goal.returns-in-None-clause-again
returns-in-None-clause-again g c = λ settled. (c.nothing_fed.ensures ∙ ap nothing_fed (rw c.in-None.is c.plain_status.ensures), refl)
