use Rattle.std.proofs.Common.{◌≡◌, true, false, arith}
use Rattle.std.proofs.lemmas.Bool.{false≢true}
use Rattle.cose_msg.proofs.verifier.Verifier.has_more_payload_than.Goals as goal

pub returns-then-self-clause-some : goal.returns-then-self-clause-some
returns-then-self-clause-some g c = λ e. absurd (false≢true e)

pub returns-then-self-clause-fewer : goal.returns-then-self-clause-fewer
returns-then-self-clause-fewer g c = λ e. absurd (false≢true e)

pub returns-then-self-clause-inside : goal.returns-then-self-clause-inside
returns-then-self-clause-inside g c = λ e. absurd (false≢true e)

pub returns-then-self-clause-early : goal.returns-then-self-clause-early
returns-then-self-clause-early g c = λ e. absurd (false≢true e)

pub returns-then-self-clause-goes_on : goal.returns-then-self-clause-goes_on
returns-then-self-clause-goes_on g c = λ e. absurd (false≢true e)

pub returns-then-self-ge-MESSAGE_LIMIT-clause-some :
    goal.returns-then-self-ge-MESSAGE_LIMIT-clause-some
returns-then-self-ge-MESSAGE_LIMIT-clause-some g c = λ e. absurd (false≢true e)

pub returns-then-self-ge-MESSAGE_LIMIT-clause-fewer :
    goal.returns-then-self-ge-MESSAGE_LIMIT-clause-fewer
returns-then-self-ge-MESSAGE_LIMIT-clause-fewer g c = λ e. absurd (false≢true e)

pub returns-then-self-ge-MESSAGE_LIMIT-clause-inside :
    goal.returns-then-self-ge-MESSAGE_LIMIT-clause-inside
returns-then-self-ge-MESSAGE_LIMIT-clause-inside g c = λ e. absurd (false≢true e)

pub returns-then-self-ge-MESSAGE_LIMIT-clause-early :
    goal.returns-then-self-ge-MESSAGE_LIMIT-clause-early
returns-then-self-ge-MESSAGE_LIMIT-clause-early g c = λ e. absurd (false≢true e)

pub returns-then-self-ge-MESSAGE_LIMIT-clause-goes_on :
    goal.returns-then-self-ge-MESSAGE_LIMIT-clause-goes_on
returns-then-self-ge-MESSAGE_LIMIT-clause-goes_on g c = λ e. absurd (false≢true e)

pub returns-clause-some : goal.returns-clause-some
returns-clause-some g c = c.has_more_payload_than.ensures.some

pub returns-clause-fewer : goal.returns-clause-fewer
returns-clause-fewer g c = c.has_more_payload_than.ensures.fewer

pub returns-clause-inside : goal.returns-clause-inside
returns-clause-inside g c = c.has_more_payload_than.ensures.inside

pub returns-clause-early : goal.returns-clause-early
returns-clause-early g c = λ e. omega (arith, c.if-self-ge-MESSAGE_LIMIT.false)

pub returns-clause-goes_on : goal.returns-clause-goes_on
returns-clause-goes_on g c = λ e. c.if-self.false
