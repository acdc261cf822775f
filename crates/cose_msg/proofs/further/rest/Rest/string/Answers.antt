use Rattle.std.proofs.lemmas.Bool.{le-ltb, lt-ltb}
use Rattle.cose_msg.proofs.lemmas.InMemory.{string_read, string_cut}
use Rattle.cose_msg.proofs.further.rest.Rest.string.Goals as goal

pub returns-then-self-count-clause-reads : goal.returns-then-self-count-clause-reads
returns-then-self-count-clause-reads c = λ so_far next. string_cut so_far c.args.count next c.args.self.now.place c.args.self.now.bytes.now c.end.result (lt-ltb _ _ c.if-self-count.true) c.end.ensures

pub returns-clause-reads : goal.returns-clause-reads
returns-clause-reads c = λ so_far next. string_read so_far c.args.count next c.args.self.now.place c.args.self.now.bytes.now c.take.new.self.place c.take.result.now c.take.new.self.bytes.now (le-ltb _ _ c.if-self-count.false) c.take.ensures.taken c.take.ensures.left c.take.ensures.counted
