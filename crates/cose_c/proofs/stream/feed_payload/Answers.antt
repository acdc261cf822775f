use Rattle.std.proofs.Common.{◌≡◌, ◌<◌, ℕ, sym, subst, ◌∙◌, arith}
use Rattle.std.proofs.Math.Nat.{min-zero, lt_irrefl, add-zero}
use Rattle.cose_c.specs.Stream.{HasRead}
use Rattle.cose_c.proofs.Streams.{none_more, read_in}
use Rattle.cose_c.proofs.stream.feed_payload.Goals as goal

pub returns-in-Some-clause-reads : goal.returns-in-Some-clause-reads
returns-in-Some-clause-reads g c = λ task taken payload read.
    let v = (read_in task taken payload _ c.in-Some.verifier c.in-Some.is read).0 in
    (c.feed_payload.ensures.taken task taken payload v, c.feed_payload.ensures.shows task taken payload v)

pub returns-in_default-clause-reads : goal.returns-in_default-clause-reads
returns-in_default-clause-reads g c = λ task taken payload read.
    none_more task taken payload c.in-Some.verifier (read_in task taken payload _ c.in-Some.verifier c.in-Some.is read)

pub returns-in-Some-clause-uses : goal.returns-in-Some-clause-uses
returns-in-Some-clause-uses g c = rw c.in-Some.is c.feed_payload.ensures.uses

pub returns-in-Some-clause-left : goal.returns-in-Some-clause-left
returns-in-Some-clause-left g c = rw c.in-Some.is c.feed_payload.ensures.left

pub returns-in-Some-clause-none : goal.returns-in-Some-clause-none
returns-in-Some-clause-none g c = λ none.
    let zero_wanted : c.payload_wanted.result ≡ 0 = c.payload_wanted.ensures.value ∙ (rw c.in-Some.is at none) in
    absurd (lt_irrefl _ (subst (λ (n : ℕ). 0 < n) zero_wanted c.if-payload_wanted-gt0.true))

pub returns-in_default-clause-uses : goal.returns-in_default-clause-uses
returns-in_default-clause-uses g c =
    let none : c.payload_wanted.result ≡ 0 = omega (arith, c.if-payload_wanted-gt0.false) in
    rw (c.in-Some.is, sym c.payload_wanted.ensures.value, none) (sym (min-zero _))

pub returns-in_default-clause-left : goal.returns-in_default-clause-left
returns-in_default-clause-left g c = rw c.in-Some.is (add-zero _)

pub returns-in_default-clause-none : goal.returns-in_default-clause-none
returns-in_default-clause-none g c = λ none. sym c.in-Some.is

pub returns-in_default-2-clause-uses : goal.returns-in_default-2-clause-uses
returns-in_default-2-clause-uses g c = rw c.in_default.is (sym (min-zero _))

pub returns-in_default-2-clause-reads : goal.returns-in_default-2-clause-reads
returns-in_default-2-clause-reads g c = λ task taken payload read. absurd (subst (HasRead task taken payload) c.in_default.is read)
