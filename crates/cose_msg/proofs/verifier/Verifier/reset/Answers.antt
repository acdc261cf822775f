use Rattle.std.proofs.Common.{arith, refl}
use Rattle.cose_msg.specs.Verifier.{task_of}
use Rattle.cose_msg.proofs.lemmas.Deciding.Untouched.{begins}
use Rattle.cose_msg.proofs.verifier.Verifier.reset.Goals as goal

pub returns-clause-none_taken : goal.returns-clause-none_taken
returns-clause-none_taken g c = begins (task_of c.args.self.now) _ (rw c.reset.ensures.terms refl) c.reset.ensures.untouched c.reset.ensures.phase refl refl

pub returns-clause-shows : goal.returns-clause-shows
returns-clause-shows g c = c.reset.ensures.shown (task_of c.args.self.now)

pub returns-clause-status : goal.returns-clause-status
returns-clause-status g c = rw c.reset.ensures.phase refl

pub returns-clause-held : goal.returns-clause-held
returns-clause-held g c = c.reset.ensures.held

pub returns-clause-keyless : goal.returns-clause-keyless
returns-clause-keyless g c = (c.reset.ensures.no_key, c.reset.ensures.no_hash)

pub returns-clause-purpose : goal.returns-clause-purpose
returns-clause-purpose g c = rw c.reset.ensures.terms refl

pub invariant_of-self-clause-untouched : goal.invariant_of-self-clause-untouched
invariant_of-self-clause-untouched g c = λ none. c.reset.ensures.untouched

pub invariant_of-self-clause-held : goal.invariant_of-self-clause-held
invariant_of-self-clause-held g c = omega (arith, c.reset.ensures.held)

pub invariant_of-self-clause-opened : goal.invariant_of-self-clause-opened
invariant_of-self-clause-opened g c = omega (arith, c.reset.ensures.untouched.4)
