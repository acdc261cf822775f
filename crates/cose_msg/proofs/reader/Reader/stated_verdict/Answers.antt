use Rattle.std.proofs.Common.{true, false, ◌∙◌, sym}
use Rattle.cose_msg.specs.Elsewhere.{stated_by}
use Rattle.cose_msg.proofs.lemmas.Deciding.Decisions.{stated_decides}
use Rattle.cose_msg.proofs.reader.Reader.stated_verdict.Goals as goal

pub returns-then-holds : goal.returns-then-holds
returns-then-holds g c = λ task B n reading h.
    stated_decides c.args.signed c.requires.phase h (stated_by c.args.stated) true (λ found message is. sym c.if-holds.true ∙ (rw c.as_slice.ensures.value at (c.holds.ensures found message is)))

pub returns : goal.returns
returns g c = λ task B n reading h.
    stated_decides c.args.signed c.requires.phase h (stated_by c.args.stated) false (λ found message is. sym c.if-holds.false ∙ (rw c.as_slice.ensures.value at (c.holds.ensures found message is)))
