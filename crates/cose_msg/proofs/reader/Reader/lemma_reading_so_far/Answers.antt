use Rattle.std.proofs.Common.{◌<◌, arith}
use Rattle.cose_msg.proofs.lemmas.Deciding.Decisions.{reads_on_ended, reads_on_shown}
use Rattle.cose_msg.proofs.lemmas.Feeding.PayloadsKnown.{reads_on_fixed, reads_on_grows}
use Rattle.cose_msg.proofs.lemmas.Feeding.Statuses.{reads_on_status}
use Rattle.cose_msg.proofs.lemmas.Reader.Unsettled.{ItemWaits, reads_on_open, reads_on_settled, reads_on_so_far, reads_on_payload, reads_on_payload_wanted, reads_on_wanted}
use Rattle.cose_msg.proofs.reader.Reader.lemma_reading_so_far.Goals as goal

-- Fewer bytes than the walker wants don't end its item.
walker : (g : Rattle.cose_msg.proofs.reader.Reader.lemma_reading_so_far.Given.Over) (c : goal.After-want-wanted g) → ItemWaits c.args.self.now
walker g c = λ put more lt.
    let room : 0 < g.row.H = omega (arith, c.args.self.now.some_room) in
    c.want-wanted.ensures.early _ _ more put room (omega (arith, lt, c.want-wanted.ensures.content _ _ put))

pub returns-clause-open : goal.returns-clause-open
returns-clause-open g c = λ task B n reading more h lt. reads_on_open (walker g c) more h lt

pub returns-clause-settled : goal.returns-clause-settled
returns-clause-settled g c = λ task B n reading h came. reads_on_settled (walker g c) h came

pub returns-clause-wanted : goal.returns-clause-wanted
returns-clause-wanted g c = λ task B n reading h came. reads_on_wanted (walker g c) h came

pub returns-clause-payload : goal.returns-clause-payload
returns-clause-payload g c = λ task B n reading h came. reads_on_so_far (walker g c) h came

pub returns-clause-open_payload : goal.returns-clause-open_payload
returns-clause-open_payload g c = λ task B n reading more h is le. reads_on_payload (walker g c) more h is le

pub returns-clause-ended : goal.returns-clause-ended
returns-clause-ended g c = λ task B n reading h came e. reads_on_ended (walker g c) h came e

pub returns-clause-payload_wanted : goal.returns-clause-payload_wanted
returns-clause-payload_wanted g c = λ task B n reading h came. reads_on_payload_wanted (walker g c) h came

pub returns-clause-shows : goal.returns-clause-shows
returns-clause-shows g c = λ task B n reading h came. reads_on_shown (walker g c) h came

pub returns-clause-status : goal.returns-clause-status
returns-clause-status g c = λ task B n reading h came. reads_on_status h (reads_on_settled (walker g c) h came) (reads_on_payload_wanted (walker g c) h came)

pub returns-clause-grows : goal.returns-clause-grows
returns-clause-grows g c = λ task B n reading more h is. reads_on_grows more h is

pub returns-clause-fixed : goal.returns-clause-fixed
returns-clause-fixed g c = λ task B n reading more h came is some. reads_on_fixed more h came is some
