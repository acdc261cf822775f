use Rattle.std.proofs.Common.{sym, ◌∙◌}
use Rattle.cose_answers.proofs.lemmas.Messages.Replies.{ends_so, is_fault}
use Rattle.cose_answers.proofs.answers.end_with.Goals as goal

pub returns-clause-printed : goal.returns-clause-printed
returns-clause-printed g c = λ said says well.
    rw c.code.ensures (ends_so _ _ said c.print_reply.result (c.print_reply.ensures.prints said says) (rw (← c.code.ensures) well))

pub returns-clause-fails : goal.returns-clause-fails
returns-clause-fails g c = λ said says two.
    c.print_reply.ensures.fails said says (is_fault c.print_reply.result (sym c.code.ensures ∙ two))
