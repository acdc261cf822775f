use Rattle.std.proofs.Common.{None, ap, sym, ◌∙◌}
use Rattle.cose_answers.specs.Printed.{verified_under}
use Rattle.cose_answers.specs.Under.{under_of}
use Rattle.cose_answers.proofs.lemmas.Payloads.KeptPayloads.{differs_from_fault, is_done, is_refused, kept_as, payload_kept, removed_again, settled_by, settled_in_end, where_done, where_refused}
use Rattle.cose_answers.proofs.lemmas.Messages.Replies.{ends_so, is_fault}
use Rattle.cose_answers.proofs.answers.payload_to.answer_to_new_file.Goals as goal

pub returns-clause-printed : goal.returns-clause-printed
returns-clause-printed g c = λ bytes e well.
    let said = verified_under (under_of c.args.checks.now) None bytes in
    rw c.code.ensures (ends_so _ _ said c.print_reply-status.result
    (c.print_reply-status.ensures.prints said (c.settle_reply-reply.ensures.same said (c.reply_written-written.ensures.says bytes e))) (rw (← c.code.ensures) well))

pub returns-clause-fails : goal.returns-clause-fails
returns-clause-fails g c = λ bytes e two.
    c.print_reply-status.ensures.fails _ (c.settle_reply-reply.ensures.same _ (c.reply_written-written.ensures.says bytes e)) (is_fault c.print_reply-status.result (sym c.code.ensures ∙ two))

pub returns-clause-kept : goal.returns-clause-kept
returns-clause-kept g c = λ zero.
    let done = is_done c.print_reply-status.result (sym c.code.ensures ∙ zero) in
    let stays = ap g.N.NewFiles.made (c.withdraw.ensures.stays (differs_from_fault _ _ done (λ e. absurd cc))) in
    kept_as _ _ _ _ stays (where_done c.settle_reply-reply.result _ _ c.print_reply-status.result _ c.print_reply-status.ensures.prints done c.settle_reply-reply.ensures.kept)

pub returns-clause-payload : goal.returns-clause-payload
returns-clause-payload g c = λ made bytes is e zero.
    let done = is_done c.print_reply-status.result (sym c.code.ensures ∙ zero) in
    let stays = ap g.N.NewFiles.made (c.withdraw.ensures.stays (differs_from_fault _ _ done (λ e. absurd cc))) in
    rw stays
    (payload_kept c.reply_written-written.result c.settle_reply-reply.result _ _ _ _ _ _ made c.print_reply-status.result _ is (c.reply_written-written.ensures.payload bytes e) c.settle_reply-reply.ensures.fault
    c.settle_reply-reply.ensures.kept c.print_reply-status.ensures.prints done)

pub returns-clause-refused : goal.returns-clause-refused
returns-clause-refused g c = λ one.
    let refused = is_refused c.print_reply-status.result (sym c.code.ensures ∙ one) in
    ap g.N.NewFiles.made (c.withdraw.ensures.stays (differs_from_fault _ _ refused (λ e. absurd cc))) ∙
    where_refused c.settle_reply-reply.result _ _ c.print_reply-status.result _ c.print_reply-status.ensures.prints refused c.settle_reply-reply.ensures.gone

pub returns-clause-fault : goal.returns-clause-fault
returns-clause-fault g c = λ two.
    removed_again _ _ _ (settled_by c.settle_reply-reply.result _ _ _ c.settle_reply-reply.ensures.kept c.settle_reply-reply.ensures.gone c.settle_reply-reply.ensures.removed)
    (c.withdraw.ensures.removed (is_fault c.print_reply-status.result (sym c.code.ensures ∙ two)))

pub returns-clause-settled : goal.returns-clause-settled
returns-clause-settled g c =
    settled_in_end _ _ _ c.print_reply-status.result
    (settled_by c.settle_reply-reply.result _ _ _ c.settle_reply-reply.ensures.kept c.settle_reply-reply.ensures.gone c.settle_reply-reply.ensures.removed)
    (λ well. ap g.N.NewFiles.made (c.withdraw.ensures.stays well)) c.withdraw.ensures.removed
