use Rattle.std.proofs.Common.{[], refl}
use Rattle.cose_msg.specs.Phases.{nothing_so_far}
use Rattle.cose_msg.proofs.reader.Reader.past_array_head.Goals as goal

pub returns-in-Some : goal.returns-in-Some
returns-in-Some g c = record { reads_on = λ task e. rw (← c.in-Some.ensures) (c.refuse.ensures task [] c.args.at nothing_so_far e refl) }

pub returns-in-None : goal.returns-in-None
returns-in-None g c = record { reads_on = λ task e. rw (← c.in-None.ensures) (c.begin_protected_head.ensures.reads_on task e) }
