use Rattle.std.proofs.Common.{refl, arith}
use Rattle.std.proofs.lemmas.Grind.{common_steps}
use Rattle.cose_head.specs.Head.{bare_head}
use Rattle.cose_msg.specs.Message.{message}
use Rattle.cose_msg.specs.Reading.{with_head}
use Rattle.cose_msg.proofs.reader.Reader.new.Goals as goal

pub returns-clause-untouched : goal.returns-clause-untouched
returns-clause-untouched g c = (refl, c.new.ensures, refl, refl, c.new-3.ensures.open)

pub returns-clause-shown : goal.returns-clause-shown
unfolding message with_head bare_head
returns-clause-shown g c = λ task. rw c.new-3.ensures.open refl

pub returns-clause-held : goal.returns-clause-held
returns-clause-held g c = rw (c.new-4.ensures, c.new-5.ensures, c.new.ensures, c.new-2.ensures) refl

pub invariant_of-result : goal.invariant_of-result
invariant_of-result g c = grind (arith, common_steps)
