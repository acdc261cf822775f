use Rattle.std.proofs.Common.{[], refl}
use Rattle.cose_msg.specs.Phases.{nothing_so_far}
use Rattle.cose_msg.proofs.reader.Reader.past_tag.Goals as goal

pub returns-in-Ok : goal.returns-in-Ok
returns-in-Ok g c = record { reads_on = λ task e. rw c.in-Ok.is (c.begin_array_head.ensures.reads_on task e) }

pub returns-in-Err : goal.returns-in-Err
returns-in-Err g c = record { reads_on = λ task e. rw c.in-Err.is (c.refuse.ensures task [] c.args.at nothing_so_far e refl) }
