use Rattle.cose_msg.proofs.lemmas.InMemory.{head_read, head_cut, head_refused}
use Rattle.cose_msg.proofs.further.rest.Rest.head.Goals as goal

pub returns-in-Got : goal.returns-in-Got
returns-in-Got c = λ so_far next. head_read so_far next c.args.self.now.place c.args.self.now.bytes.now c.in-Got.head c.in-Got.used c.take.new.self.place c.take.new.self.bytes.now c.in-Got.ensures.answer c.take.ensures.left c.take.ensures.counted

pub returns-in-More : goal.returns-in-More
returns-in-More c = λ so_far next. head_cut so_far next c.args.self.now.place c.args.self.now.bytes.now c.in-More.field-0 c.end.result c.in-More.ensures.answer c.end.ensures

pub returns-in-Fault : goal.returns-in-Fault
returns-in-Fault c = λ so_far next. head_refused so_far next c.args.self.now.place c.args.self.now.bytes.now c.in-Fault.reason c.in-Fault.ensures.answer
