use Rattle.std.proofs.Common.{ap, inr, refl, ◌∙◌}
use Rattle.cose_answers.specs.Printed.{code_of}
use Rattle.cose_answers.proofs.lemmas.Requests.Asked.{ends_with, making_fault_words, making_words}
use Rattle.cose_answers.proofs.lemmas.Making.MakeStops.{leaves_same, stops_by_line}
use Rattle.cose_answers.proofs.lemmas.Messages.Replies.{ends_so, is_fault, made_line}
use Rattle.cose_answers.proofs.answers.make.answer_make.Goals as goal

pub returns-in-Ok-clause-printed : goal.returns-in-Ok-clause-printed
returns-in-Ok-clause-printed g c = λ bytes e.
    ends_with _ _ _ (making_words c.args.words.now _ _ _ bytes c.as_slice-key.ensures.value c.slice_of-kid.ensures c.as_slice-aad.ensures.value)
    (λ well. rw c.code.ensures (ends_so _ _ _ c.in-Ok.status (c.in-Ok.ensures.makes bytes e) (rw (← c.code.ensures) well)))

pub returns-in-Ok-clause-stops : goal.returns-in-Ok-clause-stops
returns-in-Ok-clause-stops g c = λ bytes e two.
    let status = is_fault c.in-Ok.status (rw (← c.code.ensures) two) in
    inr (leaves_same _ _ bytes _ _ (λ input. making_words c.args.words.now _ _ _ input c.as_slice-key.ensures.value c.slice_of-kid.ensures c.as_slice-aad.ensures.value) (c.in-Ok.ensures.stops bytes e status))

pub returns-in-Err-clause-stops : goal.returns-in-Err-clause-stops
returns-in-Err-clause-stops g c = λ bytes e two.
    stops_by_line _ bytes _ _ _ c.in-Err.fault (c.in-Err.ensures.unwritten c.in-Err.fault refl) c.print_fault.ensures.line

pub returns-in-Ok-clause-unread : goal.returns-in-Ok-clause-unread
returns-in-Ok-clause-unread g c = λ fault e.
    c.in-Ok.ensures.unread fault (c.in-Ok.ensures.fault ∙ making_fault_words c.args.words.now _ _ _ c.as_slice-key.ensures.value c.slice_of-kid.ensures c.as_slice-aad.ensures.value ∙ e)

pub returns-in-Err-clause-unread : goal.returns-in-Err-clause-unread
returns-in-Err-clause-unread g c = λ fault e. c.in-Err.ensures.unread c.in-Err.fault refl

pub returns-in-Err-clause-line : goal.returns-in-Err-clause-line
returns-in-Err-clause-line g c = λ fault e.
    let told = making_fault_words c.args.words.now _ _ _ c.as_slice-key.ensures.value c.slice_of-kid.ensures c.as_slice-aad.ensures.value ∙ e in
    let line = made_line _ _ _ c.in-Err.fault fault _ (c.in-Err.ensures.fault ∙ told) (c.in-Err.ensures.unwritten c.in-Err.fault refl) c.print_fault.ensures.status c.print_fault.ensures.line in
    (c.code-in-Err.ensures ∙ ap code_of line.0, line.1)
