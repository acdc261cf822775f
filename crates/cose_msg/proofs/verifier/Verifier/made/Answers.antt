use Rattle.std.proofs.Common.{arith, refl}
use Rattle.cose_msg.proofs.lemmas.Deciding.Untouched.{begins}
use Rattle.cose_msg.proofs.verifier.Verifier.made.Goals as goal

pub returns-clause-none_taken : goal.returns-clause-none_taken
returns-clause-none_taken g c = begins _ _ (rw c.new.ensures.terms refl) c.new.ensures.untouched c.new.ensures.phase refl refl

pub returns-clause-shows : goal.returns-clause-shows
returns-clause-shows g c = c.new.ensures.shown _

pub returns-clause-status : goal.returns-clause-status
returns-clause-status g c = rw c.new.ensures.phase refl

pub returns-clause-held : goal.returns-clause-held
returns-clause-held g c = c.new.ensures.held

pub returns-clause-context : goal.returns-clause-context
returns-clause-context g c = rw c.new.ensures.terms refl

pub returns-clause-inspects : goal.returns-clause-inspects
returns-clause-inspects g c = refl

pub invariant_of-result-clause-untouched : goal.invariant_of-result-clause-untouched
invariant_of-result-clause-untouched g c = λ none. c.new.ensures.untouched

pub invariant_of-result-clause-held : goal.invariant_of-result-clause-held
invariant_of-result-clause-held g c = omega (arith, c.new.ensures.held)

pub invariant_of-result-clause-opened : goal.invariant_of-result-clause-opened
invariant_of-result-clause-opened g c = omega (arith, c.new.ensures.untouched.4)
