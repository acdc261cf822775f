use Rattle.std.proofs.Common.{refl, arith}
use Rattle.std.proofs.lemmas.Grind.{common_steps}
use Rattle.cose_head.specs.Head.{bare_head}
use Rattle.cose_msg.specs.Message.{message}
use Rattle.cose_msg.specs.Reading.{with_head}
use Rattle.cose_msg.proofs.reader.Reader.reset.Goals as goal

pub returns-clause-untouched : goal.returns-clause-untouched
returns-clause-untouched g c = (refl, c.clear-3.ensures, refl, refl, c.new-self.ensures.open)

pub returns-clause-shown : goal.returns-clause-shown
unfolding message with_head bare_head
returns-clause-shown g c = λ task. rw c.new-self.ensures.open refl

pub returns-clause-held : goal.returns-clause-held
returns-clause-held g c = rw (c.clear.ensures, c.clear-2.ensures, c.clear-3.ensures, c.clear-4.ensures) refl

pub invariant_of-self : goal.invariant_of-self
invariant_of-self g c = grind (arith, common_steps)
