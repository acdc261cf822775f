use Rattle.std.proofs.Common.{sym, ap, ◌∙◌}
use Rattle.cose_msg.specs.Answer.{decided}
use Rattle.cose_msg.specs.declared.verdict.Verdict.TheVariants.{Refused}
use Rattle.cose_head.specs.declared.refusal.Refusal.{Refusal}
use Rattle.cose_msg.proofs.lemmas.InMemory.{item_read, item_refused}
use Rattle.cose_msg.proofs.further.rest.Rest.item.Goals as goal

pub returns-in-Ok-clause-reads : goal.returns-in-Ok-clause-reads
returns-in-Ok-clause-reads c = λ so_far next. item_read so_far c.args.room c.args.depth next c.args.self.now.place c.args.self.now.bytes.now c.in-Ok.span c.take.new.self.place c.take.result.now c.take.new.self.bytes.now c.in-Ok.ensures.exact c.take.ensures.taken c.take.ensures.left c.take.ensures.counted

pub returns-in-Err-clause-reads : goal.returns-in-Err-clause-reads
returns-in-Err-clause-reads c = λ so_far next.
    item_refused so_far c.args.room c.args.depth next c.args.self.now c.in-Err.refusal c.in-Err.ensures.exact
    ∙ ap (λ (refusal : Refusal). decided (Refused refusal)) (sym c.placed.ensures)
