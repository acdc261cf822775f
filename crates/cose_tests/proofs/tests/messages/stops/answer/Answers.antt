use Rattle.cose_tests.proofs.tests.messages.stops.answer.Goals as goal

pub returns-clause-context : goal.returns-clause-context
returns-clause-context g c = λ setting taken payload_so_far h. c.verify.ensures.purpose.context h
