use Rattle.cose_answers.proofs.lemmas.Files.FirstBytes.{first_read}
use Rattle.cose_answers.proofs.answers.keys.asked.front_of.Goals as goal

pub returns-in-Ok-clause-front : goal.returns-in-Ok-clause-front
returns-in-Ok-clause-front g c = λ bytes e.
    first_read 131124 _ _ _ _ bytes (rw c.take.ensures.inner e) c.take.ensures.limit c.new-front.ensures.items (rw c.in-Ok.is at c.read_to_end.ensures.bytes)
