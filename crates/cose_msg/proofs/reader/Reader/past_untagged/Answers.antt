use Rattle.std.proofs.Common.{[], refl}
use Rattle.cose_msg.specs.Phases.{nothing_so_far}
use Rattle.cose_msg.proofs.reader.Reader.past_untagged.Goals as goal

pub returns-in-Mac0 : goal.returns-in-Mac0
returns-in-Mac0 g c = record { reads_on = λ task e. rw c.in-Mac0.is (c.past_array_head.ensures.reads_on task e) }

pub returns-in-Sign1 : goal.returns-in-Sign1
returns-in-Sign1 g c = record { reads_on = λ task e. rw c.in-Sign1.is (c.past_array_head-in-Sign1.ensures.reads_on task e) }

pub returns-in-Tagged : goal.returns-in-Tagged
returns-in-Tagged g c = record { reads_on = λ task e. rw c.in-Tagged.is (c.refuse.ensures task [] c.args.at nothing_so_far e refl) }
