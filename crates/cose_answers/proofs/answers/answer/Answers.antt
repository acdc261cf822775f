use Rattle.std.proofs.Common.{None, Some, ap, refl, sym, ◌∙◌}
use Rattle.cose_answers.specs.PayloadTo.{payload_under}
use Rattle.cose_answers.specs.Under.{Under}
use Rattle.cose_answers.proofs.lemmas.Requests.Asked.{cwt_words, ends_with, fails_with, keys_words, make_words, message_request_words, payload_of_request, show_words}
use Rattle.cose_answers.proofs.lemmas.Requests.AskedSequences.{fails_as, message_sequence_words, token_sequence_words}
use Rattle.cose_answers.proofs.lemmas.Requests.KeptRequests.{kept_checks, kept_in_message, none_kept, none_named, not_so, settles_name, some_named}
use Rattle.cose_answers.proofs.lemmas.Making.MakeStops.{stops_same}
use Rattle.cose_answers.proofs.lemmas.Messages.Replies.{ends_so, is_fault}
use Rattle.cose_answers.proofs.answers.answer.Goals as goal

pub returns-in-Show-clause-printed : goal.returns-in-Show-clause-printed
returns-in-Show-clause-printed g c = λ bytes payload e known.
    ends_with _ _ _ (show_words c.args.request.now c.in-Show.limits c.in-Show.wanted c.in-Show.details payload bytes c.in-Show.is)
    (c.end_with.ensures.printed _ (c.show_reply-reply.ensures.says bytes e))

pub returns-in-Show-clause-fails : goal.returns-in-Show-clause-fails
returns-in-Show-clause-fails g c = λ bytes payload e known other one two.
    fails_with _ _ (show_words c.args.request.now c.in-Show.limits c.in-Show.wanted c.in-Show.details payload bytes c.in-Show.is)
    (c.end_with.ensures.fails _ (c.show_reply-reply.ensures.says bytes e) two)

pub returns-in-Show-clause-settled : goal.returns-in-Show-clause-settled
returns-in-Show-clause-settled g c = λ name named. none_named name _ (rw c.in-Show.is at named)

pub returns-in-Show-clause-unnamed : goal.returns-in-Show-clause-unnamed
returns-in-Show-clause-unnamed g c = λ none. refl

pub returns-in-Show-clause-payload : goal.returns-in-Show-clause-payload
returns-in-Show-clause-payload g c = λ under bytes kept e known zero. none_kept under _ (rw c.in-Show.is at kept)

pub returns-in-Show-clause-unmade : goal.returns-in-Show-clause-unmade
returns-in-Show-clause-unmade g c = λ name named same. none_named name _ (rw c.in-Show.is at named)

pub returns-in-Show-clause-sequence : goal.returns-in-Show-clause-sequence
returns-in-Show-clause-sequence g c = λ bytes e is two. not_so _ (rw c.in-Show.is at is)

pub returns-in-Message-clause-printed : goal.returns-in-Message-clause-printed
returns-in-Message-clause-printed g c = λ bytes payload e known.
    ends_with _ _ _ (message_request_words c.args.request.now c.in-Message.question c.in-Message.checks c.in-Message.payload payload bytes c.in-Message.is)
    (c.end_with-in-Message.ensures.printed _ (c.message_reply-reply.ensures.says bytes payload e (payload_of_request (g.F.NamedFiles.content c.args.files.now) c.args.request.now c.in-Message.question c.in-Message.checks c.in-Message.payload payload c.in-Message.is known)))

pub returns-in-Message-clause-fails : goal.returns-in-Message-clause-fails
returns-in-Message-clause-fails g c = λ bytes payload e known other one two.
    fails_with _ _ (message_request_words c.args.request.now c.in-Message.question c.in-Message.checks c.in-Message.payload payload bytes c.in-Message.is)
    (c.end_with-in-Message.ensures.fails _ (c.message_reply-reply.ensures.says bytes payload e (payload_of_request (g.F.NamedFiles.content c.args.files.now) c.args.request.now c.in-Message.question c.in-Message.checks c.in-Message.payload payload c.in-Message.is known)) two)

pub returns-in-Message-clause-settled : goal.returns-in-Message-clause-settled
returns-in-Message-clause-settled g c = λ name named. none_named name _ (rw c.in-Message.is at named)

pub returns-in-Message-clause-unnamed : goal.returns-in-Message-clause-unnamed
returns-in-Message-clause-unnamed g c = λ none. refl

pub returns-in-Message-clause-payload : goal.returns-in-Message-clause-payload
returns-in-Message-clause-payload g c = λ under bytes kept e known zero. none_kept under _ (rw c.in-Message.is at kept)

pub returns-in-Message-clause-unmade : goal.returns-in-Message-clause-unmade
returns-in-Message-clause-unmade g c = λ name named same. none_named name _ (rw c.in-Message.is at named)

pub returns-in-Message-clause-sequence : goal.returns-in-Message-clause-sequence
returns-in-Message-clause-sequence g c = λ bytes e is two. not_so _ (rw c.in-Message.is at is)

pub returns-in-Keep-clause-printed : goal.returns-in-Keep-clause-printed
returns-in-Keep-clause-printed g c = λ bytes payload e known.
    ends_with _ _ _ (kept_in_message c.args.request.now c.in-Keep.checks c.in-Keep.name _ payload bytes c.in-Keep.is known) (c.answer_with_payload_to.ensures.printed bytes e)

pub returns-in-Keep-clause-fails : goal.returns-in-Keep-clause-fails
returns-in-Keep-clause-fails g c = λ bytes payload e known other one two.
    fails_with _ _ (kept_in_message c.args.request.now c.in-Keep.checks c.in-Keep.name _ payload bytes c.in-Keep.is known) (c.answer_with_payload_to.ensures.fails bytes e two)

pub returns-in-Keep-clause-settled : goal.returns-in-Keep-clause-settled
returns-in-Keep-clause-settled g c = λ name named.
    settles_name c.args.request.now c.in-Keep.checks c.in-Keep.name name _ _ _ c.in-Keep.is named (record {
      kept = c.answer_with_payload_to.ensures.kept;
      refused = c.answer_with_payload_to.ensures.refused;
      fault = c.answer_with_payload_to.ensures.fault;
      taken = c.answer_with_payload_to.ensures.taken;
    })

pub returns-in-Keep-clause-unnamed : goal.returns-in-Keep-clause-unnamed
returns-in-Keep-clause-unnamed g c = λ none. some_named _ _ (rw c.in-Keep.is at none)

pub returns-in-Keep-clause-payload : goal.returns-in-Keep-clause-payload
returns-in-Keep-clause-payload g c = λ under bytes kept e known zero.
    c.answer_with_payload_to.ensures.payload bytes e known zero ∙ ap (λ (u : Under). Some (payload_under u bytes)) (kept_checks c.args.request.now c.in-Keep.checks c.in-Keep.name under c.in-Keep.is kept)

pub returns-in-Keep-clause-unmade : goal.returns-in-Keep-clause-unmade
returns-in-Keep-clause-unmade g c = λ name named same. let unread = c.answer_with_payload_to.ensures.unmade same in (unread.1, unread.0)

pub returns-in-Keep-clause-sequence : goal.returns-in-Keep-clause-sequence
returns-in-Keep-clause-sequence g c = λ bytes e is two. not_so _ (rw c.in-Keep.is at is)

pub returns-in-MessageSequence-clause-printed : goal.returns-in-MessageSequence-clause-printed
returns-in-MessageSequence-clause-printed g c = λ bytes payload e known.
    ends_with _ _ _ (message_sequence_words c.args.request.now c.in-MessageSequence.checks payload bytes c.in-MessageSequence.is)
    (λ well. rw c.code.ensures (ends_so _ _ _ c.print_verified.result (c.print_verified.ensures.prints bytes e) (rw (← c.code.ensures) well)))

pub returns-in-MessageSequence-clause-fails : goal.returns-in-MessageSequence-clause-fails
returns-in-MessageSequence-clause-fails g c = λ bytes payload e known other one two. not_so _ (sym (rw c.in-MessageSequence.is at one))

pub returns-in-MessageSequence-clause-settled : goal.returns-in-MessageSequence-clause-settled
returns-in-MessageSequence-clause-settled g c = λ name named. none_named name _ (rw c.in-MessageSequence.is at named)

pub returns-in-MessageSequence-clause-unnamed : goal.returns-in-MessageSequence-clause-unnamed
returns-in-MessageSequence-clause-unnamed g c = λ none. refl

pub returns-in-MessageSequence-clause-payload : goal.returns-in-MessageSequence-clause-payload
returns-in-MessageSequence-clause-payload g c = λ under bytes kept e known zero. none_kept under _ (rw c.in-MessageSequence.is at kept)

pub returns-in-MessageSequence-clause-unmade : goal.returns-in-MessageSequence-clause-unmade
returns-in-MessageSequence-clause-unmade g c = λ name named same. none_named name _ (rw c.in-MessageSequence.is at named)

pub returns-in-MessageSequence-clause-sequence : goal.returns-in-MessageSequence-clause-sequence
returns-in-MessageSequence-clause-sequence g c = λ bytes e is two.
    fails_as _ _ bytes _ _ (λ input. message_sequence_words c.args.request.now c.in-MessageSequence.checks None input c.in-MessageSequence.is) (c.print_verified.ensures.fails bytes e (is_fault c.print_verified.result (sym c.code.ensures ∙ two)))

pub returns-in-Cwt-clause-printed : goal.returns-in-Cwt-clause-printed
returns-in-Cwt-clause-printed g c = λ bytes payload e known.
    ends_with _ _ _ (cwt_words c.args.request.now c.in-Cwt.words payload bytes c.in-Cwt.is)
    (c.end_with-in-Cwt.ensures.printed _ (c.cwt_reply-reply.ensures.says bytes e))

pub returns-in-Cwt-clause-fails : goal.returns-in-Cwt-clause-fails
returns-in-Cwt-clause-fails g c = λ bytes payload e known other one two.
    fails_with _ _ (cwt_words c.args.request.now c.in-Cwt.words payload bytes c.in-Cwt.is)
    (c.end_with-in-Cwt.ensures.fails _ (c.cwt_reply-reply.ensures.says bytes e) two)

pub returns-in-Cwt-clause-settled : goal.returns-in-Cwt-clause-settled
returns-in-Cwt-clause-settled g c = λ name named. none_named name _ (rw c.in-Cwt.is at named)

pub returns-in-Cwt-clause-unnamed : goal.returns-in-Cwt-clause-unnamed
returns-in-Cwt-clause-unnamed g c = λ none. refl

pub returns-in-Cwt-clause-payload : goal.returns-in-Cwt-clause-payload
returns-in-Cwt-clause-payload g c = λ under bytes kept e known zero. none_kept under _ (rw c.in-Cwt.is at kept)

pub returns-in-Cwt-clause-unmade : goal.returns-in-Cwt-clause-unmade
returns-in-Cwt-clause-unmade g c = λ name named same. none_named name _ (rw c.in-Cwt.is at named)

pub returns-in-Cwt-clause-sequence : goal.returns-in-Cwt-clause-sequence
returns-in-Cwt-clause-sequence g c = λ bytes e is two. not_so _ (rw c.in-Cwt.is at is)

pub returns-in-TokenSequence-clause-printed : goal.returns-in-TokenSequence-clause-printed
returns-in-TokenSequence-clause-printed g c = λ bytes payload e known.
    ends_with _ _ _ (token_sequence_words c.args.request.now c.in-TokenSequence.words payload bytes c.in-TokenSequence.is)
    (λ well. rw c.code-in-TokenSequence.ensures (ends_so _ _ _ c.print_admitted.result (c.print_admitted.ensures.prints bytes e) (rw (← c.code-in-TokenSequence.ensures) well)))

pub returns-in-TokenSequence-clause-fails : goal.returns-in-TokenSequence-clause-fails
returns-in-TokenSequence-clause-fails g c = λ bytes payload e known other one two. not_so _ (sym (rw c.in-TokenSequence.is at one))

pub returns-in-TokenSequence-clause-settled : goal.returns-in-TokenSequence-clause-settled
returns-in-TokenSequence-clause-settled g c = λ name named. none_named name _ (rw c.in-TokenSequence.is at named)

pub returns-in-TokenSequence-clause-unnamed : goal.returns-in-TokenSequence-clause-unnamed
returns-in-TokenSequence-clause-unnamed g c = λ none. refl

pub returns-in-TokenSequence-clause-payload : goal.returns-in-TokenSequence-clause-payload
returns-in-TokenSequence-clause-payload g c = λ under bytes kept e known zero. none_kept under _ (rw c.in-TokenSequence.is at kept)

pub returns-in-TokenSequence-clause-unmade : goal.returns-in-TokenSequence-clause-unmade
returns-in-TokenSequence-clause-unmade g c = λ name named same. none_named name _ (rw c.in-TokenSequence.is at named)

pub returns-in-TokenSequence-clause-sequence : goal.returns-in-TokenSequence-clause-sequence
returns-in-TokenSequence-clause-sequence g c = λ bytes e is two.
    fails_as _ _ bytes _ _ (λ input. token_sequence_words c.args.request.now c.in-TokenSequence.words None input c.in-TokenSequence.is) (c.print_admitted.ensures.fails bytes e (is_fault c.print_admitted.result (sym c.code-in-TokenSequence.ensures ∙ two)))

pub returns-in-Keys-clause-printed : goal.returns-in-Keys-clause-printed
returns-in-Keys-clause-printed g c = λ bytes payload e known.
    ends_with _ _ _ (keys_words c.args.request.now c.in-Keys.words payload bytes c.in-Keys.is)
    (c.end_with-in-Keys.ensures.printed _ (c.listing_reply-reply.ensures.says bytes e))

pub returns-in-Keys-clause-fails : goal.returns-in-Keys-clause-fails
returns-in-Keys-clause-fails g c = λ bytes payload e known other one two.
    fails_with _ _ (keys_words c.args.request.now c.in-Keys.words payload bytes c.in-Keys.is)
    (c.end_with-in-Keys.ensures.fails _ (c.listing_reply-reply.ensures.says bytes e) two)

pub returns-in-Keys-clause-settled : goal.returns-in-Keys-clause-settled
returns-in-Keys-clause-settled g c = λ name named. none_named name _ (rw c.in-Keys.is at named)

pub returns-in-Keys-clause-unnamed : goal.returns-in-Keys-clause-unnamed
returns-in-Keys-clause-unnamed g c = λ none. refl

pub returns-in-Keys-clause-payload : goal.returns-in-Keys-clause-payload
returns-in-Keys-clause-payload g c = λ under bytes kept e known zero. none_kept under _ (rw c.in-Keys.is at kept)

pub returns-in-Keys-clause-unmade : goal.returns-in-Keys-clause-unmade
returns-in-Keys-clause-unmade g c = λ name named same. none_named name _ (rw c.in-Keys.is at named)

pub returns-in-Keys-clause-sequence : goal.returns-in-Keys-clause-sequence
returns-in-Keys-clause-sequence g c = λ bytes e is two. not_so _ (rw c.in-Keys.is at is)

pub returns-in-Make-clause-printed : goal.returns-in-Make-clause-printed
returns-in-Make-clause-printed g c = λ bytes payload e known. ends_with _ _ _ (make_words c.args.request.now c.in-Make.words payload bytes c.in-Make.is) (c.answer_make.ensures.printed bytes e)

pub returns-in-Make-clause-fails : goal.returns-in-Make-clause-fails
returns-in-Make-clause-fails g c = λ bytes payload e known other one two. not_so _ (sym (rw c.in-Make.is at other))

pub returns-in-Make-clause-settled : goal.returns-in-Make-clause-settled
returns-in-Make-clause-settled g c = λ name named. none_named name _ (rw c.in-Make.is at named)

pub returns-in-Make-clause-unnamed : goal.returns-in-Make-clause-unnamed
returns-in-Make-clause-unnamed g c = λ none. refl

pub returns-in-Make-clause-payload : goal.returns-in-Make-clause-payload
returns-in-Make-clause-payload g c = λ under bytes kept e known zero. none_kept under _ (rw c.in-Make.is at kept)

pub returns-in-Make-clause-unmade : goal.returns-in-Make-clause-unmade
returns-in-Make-clause-unmade g c = λ name named same. none_named name _ (rw c.in-Make.is at named)

pub returns-in-Make-clause-sequence : goal.returns-in-Make-clause-sequence
returns-in-Make-clause-sequence g c = λ bytes e is two. not_so _ (rw c.in-Make.is at is)

pub returns-in-Make-clause-stops : goal.returns-in-Make-clause-stops
returns-in-Make-clause-stops g c = λ bytes e is two. stops_same _ _ bytes _ _ (λ input. make_words c.args.request.now c.in-Make.words None input c.in-Make.is) (c.answer_make.ensures.stops bytes e two)

pub returns-in-Show-clause-stops : goal.returns-in-Show-clause-stops
returns-in-Show-clause-stops g c = λ bytes e is two. not_so _ (rw c.in-Show.is at is)

pub returns-in-Message-clause-stops : goal.returns-in-Message-clause-stops
returns-in-Message-clause-stops g c = λ bytes e is two. not_so _ (rw c.in-Message.is at is)

pub returns-in-Keep-clause-stops : goal.returns-in-Keep-clause-stops
returns-in-Keep-clause-stops g c = λ bytes e is two. not_so _ (rw c.in-Keep.is at is)

pub returns-in-MessageSequence-clause-stops : goal.returns-in-MessageSequence-clause-stops
returns-in-MessageSequence-clause-stops g c = λ bytes e is two. not_so _ (rw c.in-MessageSequence.is at is)

pub returns-in-Cwt-clause-stops : goal.returns-in-Cwt-clause-stops
returns-in-Cwt-clause-stops g c = λ bytes e is two. not_so _ (rw c.in-Cwt.is at is)

pub returns-in-TokenSequence-clause-stops : goal.returns-in-TokenSequence-clause-stops
returns-in-TokenSequence-clause-stops g c = λ bytes e is two. not_so _ (rw c.in-TokenSequence.is at is)

pub returns-in-Keys-clause-stops : goal.returns-in-Keys-clause-stops
returns-in-Keys-clause-stops g c = λ bytes e is two. not_so _ (rw c.in-Keys.is at is)
