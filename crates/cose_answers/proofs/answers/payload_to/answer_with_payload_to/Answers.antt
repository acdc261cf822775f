use Rattle.std.proofs.Common.{◌∙◌, ap, false, inr, refl, true}
use Rattle.std.proofs.lemmas.Bool.{false≢true}
use Rattle.cose_answers.specs.Printed.{code_of}
use Rattle.cose_answers.proofs.lemmas.Payloads.KeptPayloads.{file_line, holds_payload, none_made, stands, stands_removed, taken_before}
use Rattle.cose_answers.proofs.lemmas.Messages.Replies.{line_fails}
use Rattle.cose_answers.proofs.answers.payload_to.answer_with_payload_to.Goals as goal

pub returns-in-Err-clause-fails : goal.returns-in-Err-clause-fails
returns-in-Err-clause-fails g c = λ bytes e two. line_fails _ _ _ _ c.print_fault.ensures.line

pub returns-clause-kept : goal.returns-clause-kept
returns-clause-kept g c = λ zero.
    let made = g.N.NewFiles.made in
    stands _ (made c.args.files.now) (made c.new_file.new.files) (made c.answer_to_new_file.new.files) _ _ c.in-Ok.ensures.made (c.answer_to_new_file.ensures.kept zero)

pub returns-clause-payload : goal.returns-clause-payload
returns-clause-payload g c = λ bytes e known zero.
    let made = g.N.NewFiles.made in
    holds_payload _ (made c.args.files.now) (made c.new_file.new.files) (made c.answer_to_new_file.new.files) _ _ c.in-Ok.ensures.made (c.in-Ok.ensures.empty known)
    (λ file some. c.answer_to_new_file.ensures.payload file bytes some e zero)

pub returns-clause-refused : goal.returns-clause-refused
returns-clause-refused g c = λ one.
    let made = g.N.NewFiles.made in
    stands _ (made c.args.files.now) (made c.new_file.new.files) (made c.answer_to_new_file.new.files) _ _ c.in-Ok.ensures.made (c.answer_to_new_file.ensures.refused one)

pub returns-clause-fault : goal.returns-clause-fault
returns-clause-fault g c = λ two.
    let made = g.N.NewFiles.made in
    inr (stands_removed _ (made c.args.files.now) (made c.new_file.new.files) (made c.answer_to_new_file.new.files) c.in-Ok.ensures.made (c.answer_to_new_file.ensures.fault two))

pub returns-clause-unmade : goal.returns-clause-unmade
returns-clause-unmade g c = λ same.
    let made = g.N.NewFiles.made in
    none_made _ (made c.args.files.now) (made c.new_file.new.files) (made c.answer_to_new_file.new.files) _ c.in-Ok.ensures.made c.answer_to_new_file.ensures.settled same

pub returns-clause-taken : goal.returns-clause-taken
returns-clause-taken g c = λ taken.
    let made = g.N.NewFiles.made in
    absurd (false≢true (c.in-Ok.ensures.taken (taken_before (made c.new_file.new.files) (made c.answer_to_new_file.new.files) c.answer_to_new_file.ensures.settled taken)))

pub returns-in-Err-clause-unmade : goal.returns-in-Err-clause-unmade
returns-in-Err-clause-unmade g c = λ same.
    (c.code.ensures ∙ ap code_of c.print_fault.ensures.status, refl, file_line _ _ c.in-Err.fault c.in-Err.ensures.fault c.print_fault.ensures.line)
