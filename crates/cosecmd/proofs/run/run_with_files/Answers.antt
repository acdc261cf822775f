use Rattle.std.proofs.Common.{◌≡◌, ◌∙◌, ℕ, List, ap, inl, inr, refl}
use Rattle.cose_text.specs.TextInput.{reader_of}
use Rattle.cosecmd.specs.CommandLine.{AsksFor, begins_as_answer}
use Rattle.cosecmd.specs.InputForm.{input_bytes}
use Rattle.cosecmd.specs.declared.arguments.Parsed.TheVariants.{Matches, Text}
use Rattle.cosecmd.proofs.lemmas.Arguments.AskedMaking.{not_made}
use Rattle.cose_answers.proofs.lemmas.Requests.Asked.{ends_with, fails_with}
use Rattle.cosecmd.proofs.lemmas.Arguments.AskedMaking.{stops_or_fails}
use Rattle.cosecmd.proofs.lemmas.Arguments.AskedSequences.{found_fails, not_of_sequence}
use Rattle.cosecmd.proofs.lemmas.Arguments.CommandLines.{found_in, text_read}
use Rattle.cosecmd.proofs.lemmas.Arguments.KeptRequests.{settles_named}
use Rattle.cose_answers.proofs.lemmas.Messages.Replies.{asked_where_well, ends_with_text, some_line}
use Rattle.cosecmd.proofs.lemmas.Arguments.TextRequests.{read_of}
use Rattle.cosecmd.proofs.run.run_with_files.Goals as goal

pub returns-in-Ok-clause-asked : goal.returns-in-Ok-clause-asked
returns-in-Ok-clause-asked g c = λ well.
    let met = c.in-Ok-Matches in
    let is : met.field-0 ≡ Matches met.matches = met.field-0-is in
    inr (met.matches, found_in _ met.field-0 met.matches is met.ensures, c.in-Ok.request, record { payload = c.in-Ok.ensures.payload; making = c.in-Ok.ensures.making; sequence = c.in-Ok.ensures.sequence })

pub returns-in-Ok-Text-clause-asked : goal.returns-in-Ok-Text-clause-asked
returns-in-Ok-Text-clause-asked g c = λ well.
    let met = c.in-Ok-Text in
    let is : met.field-0 ≡ Text met.reply = met.field-0-is in
    let read = text_read _ met.field-0 met.reply is met.ensures in
    inl (asked_where_well _ met.reply.status c.print.result read.0 c.print.ensures.status read.2 (rw (← c.code-in-Ok-Text.ensures) well))

pub returns-in-Ok-clause-printed : goal.returns-in-Ok-clause-printed
returns-in-Ok-clause-printed g c = λ bytes e.
    let met = c.in-Ok-Matches in
    let is : met.field-0 ≡ Matches met.matches = met.field-0-is in
    let read = input_bytes met.matches bytes in
    let known = read_of g.R.Read.remaining c.input_form_of.result _ _ _ _ bytes c.read_as.ensures.next c.read_as.ensures.reader c.input_form_of.ensures e in
    inr (
      met.matches,
      found_in _ met.field-0 met.matches is met.ensures,
      (λ well. (c.in-Ok.request, record { payload = c.in-Ok.ensures.payload; making = c.in-Ok.ensures.making; sequence = c.in-Ok.ensures.sequence }, λ payload named. c.answer.ensures.printed read payload known named)),
      λ said prints.
          let asks = c.in-Ok.ensures.asks read said prints in
          ends_with _ _ _ asks.2 (c.answer.ensures.printed read asks.0 known asks.1),
    )

pub returns-in-Ok-clause-fails : goal.returns-in-Ok-clause-fails
returns-in-Ok-clause-fails g c = λ bytes e two.
    let met = c.in-Ok-Matches in
    let is : met.field-0 ≡ Matches met.matches = met.field-0-is in
    let read = input_bytes met.matches bytes in
    let known = read_of g.R.Read.remaining c.input_form_of.result _ _ _ _ bytes c.read_as.ensures.next c.read_as.ensures.reader c.input_form_of.ensures e in
    inr (inr (
      met.matches,
      found_in _ met.field-0 met.matches is met.ensures,
      record {
        one = λ said prints other alone.
            let asks = c.in-Ok.ensures.asks read said prints in
            fails_with _ _ asks.2 (c.answer.ensures.fails read asks.0 known asks.1 (not_made c.in-Ok.request _ c.in-Ok.ensures.making other) (not_of_sequence c.in-Ok.request _ c.in-Ok.ensures.sequence alone) two);
        making = λ said each alone.
            let asks : (input : List ℕ) → AsksFor (g.F.NamedFiles.content c.args.files.now) c.in-Ok.request input (said input) = λ input. c.in-Ok.ensures.asks input (said input) (each input) in
            let these = asks read in
            stops_or_fails (g.F.NamedFiles.content c.args.files.now) c.in-Ok.request said read _ _ asks
            (λ none. fails_with _ _ these.2 (c.answer.ensures.fails read these.0 known these.1 none (not_of_sequence c.in-Ok.request _ c.in-Ok.ensures.sequence alone) two))
            (λ is. c.answer.ensures.stops read known is two);
        sequence = λ said each other.
            let asks : (input : List ℕ) → AsksFor (g.F.NamedFiles.content c.args.files.now) c.in-Ok.request input (said input) = λ input. c.in-Ok.ensures.asks input (said input) (each input) in
            let these = asks read in
            found_fails (g.F.NamedFiles.content c.args.files.now) c.in-Ok.request said read _ _ asks
            (λ one. fails_with _ _ these.2 (c.answer.ensures.fails read these.0 known these.1 (not_made c.in-Ok.request _ c.in-Ok.ensures.making other) one two))
            (λ is. c.answer.ensures.sequence read known is two);
      },
    ))

pub returns-in-Ok-clause-new_file : goal.returns-in-Ok-clause-new_file
returns-in-Ok-clause-new_file g c =
    let met = c.in-Ok-Matches in
    let is : met.field-0 ≡ Matches met.matches = met.field-0-is in
    inr (
      met.matches,
      found_in _ met.field-0 met.matches is met.ensures,
      settles_named c.in-Ok.request _ _ _ _ c.in-Ok.ensures.keeping c.answer.ensures.settled (λ none. ap g.N.NewFiles.made (c.answer.ensures.unnamed none)),
    )

pub returns-in-Ok-clause-payload : goal.returns-in-Ok-clause-payload
returns-in-Ok-clause-payload g c = λ bytes e is_known.
    let met = c.in-Ok-Matches in
    let is : met.field-0 ≡ Matches met.matches = met.field-0-is in
    let read = input_bytes met.matches bytes in
    let known = read_of g.R.Read.remaining c.input_form_of.result _ _ _ _ bytes c.read_as.ensures.next c.read_as.ensures.reader c.input_form_of.ensures e in
    inr (
      met.matches,
      found_in _ met.field-0 met.matches is met.ensures,
      λ name under named said zero.
          c.answer.ensures.payload under read (c.in-Ok.ensures.kept name under (c.in-Ok.ensures.keeping ∙ named) said) known is_known zero,
    )

pub returns-in-Ok-clause-unread : goal.returns-in-Ok-clause-unread
returns-in-Ok-clause-unread g c =
    let met = c.in-Ok-Matches in
    let is : met.field-0 ≡ Matches met.matches = met.field-0-is in
    inr (
      met.matches,
      found_in _ met.field-0 met.matches is met.ensures,
      λ name some same.
          let unmade = c.answer.ensures.unmade name (c.in-Ok.ensures.keeping ∙ some) same in
          (ap reader_of unmade.0 ∙ c.read_as.ensures.reader, unmade.1),
    )

pub returns-in-Ok-Text-clause-printed : goal.returns-in-Ok-Text-clause-printed
returns-in-Ok-Text-clause-printed g c = λ bytes e.
    let met = c.in-Ok-Text in
    let is : met.field-0 ≡ Text met.reply = met.field-0-is in
    let read = text_read _ met.field-0 met.reply is met.ensures in
    let unlike = ap begins_as_answer c.as_str.ensures.value ∙ read.1 in
    rw c.code-in-Ok-Text.ensures (inl (c.as_str.result.now, unlike, asked_where_well _ met.reply.status c.print.result read.0 c.print.ensures.status read.2, ends_with_text _ _ c.as_str.result.now met.reply.status c.print.result read.0 c.print.ensures.status c.print.ensures.written))

pub returns-in-Ok-Text-clause-fails : goal.returns-in-Ok-Text-clause-fails
returns-in-Ok-Text-clause-fails g c = λ bytes e two.
    let met = c.in-Ok-Text in
    let is : met.field-0 ≡ Text met.reply = met.field-0-is in
    let read = text_read _ met.field-0 met.reply is met.ensures in
    inr (inl (c.as_str.result.now, ap begins_as_answer c.as_str.ensures.value ∙ read.1, c.print.ensures.front))

pub returns-in-Ok-Matches-clause-fails : goal.returns-in-Ok-Matches-clause-fails
returns-in-Ok-Matches-clause-fails g c = λ bytes e two. inl (some_line _ _ _ c.print_fault.ensures.line)

pub returns-in-Ok-Text-clause-new_file : goal.returns-in-Ok-Text-clause-new_file
returns-in-Ok-Text-clause-new_file g c =
    let met = c.in-Ok-Text in
    let is : met.field-0 ≡ Text met.reply = met.field-0-is in
    let read = text_read _ met.field-0 met.reply is met.ensures in
    rw c.code-in-Ok-Text.ensures (inl (refl, asked_where_well _ met.reply.status c.print.result read.0 c.print.ensures.status read.2))

pub returns-in-Ok-Text-clause-payload : goal.returns-in-Ok-Text-clause-payload
returns-in-Ok-Text-clause-payload g c = λ bytes e is_known.
    let met = c.in-Ok-Text in
    let is : met.field-0 ≡ Text met.reply = met.field-0-is in
    let read = text_read _ met.field-0 met.reply is met.ensures in
    rw c.code-in-Ok-Text.ensures (inl (asked_where_well _ met.reply.status c.print.result read.0 c.print.ensures.status read.2))
