use Rattle.std.proofs.Common.{List, None, Option, Some, ap, false, sym, true, ℕ, ◌∙◌}
use Rattle.std.proofs.lemmas.Bool.{true≢false}
use Rattle.cose_answers.specs.Payload.{detached_in, is_in_file}
use Rattle.cose_answers.specs.Printed.{answered_under}
use Rattle.cose_answers.specs.Under.{under_of}
use Rattle.cose_answers.proofs.lemmas.Requests.Asked.{file_detached, same_detached, says_equal_words}
use Rattle.cose_answers.proofs.answers.message.message_reply.Goals as goal

pub returns-in-Small-clause-says : goal.returns-in-Small-clause-says
returns-in-Small-clause-says g c = λ bytes detached e known.
    let content = g.F.NamedFiles.content c.args.files.now in
    let none = same_detached None detached _ (ap (detached_in content) c.in-InMessage.is) known in
    let same = ap (λ (p : Option (List ℕ)). answered_under c.args.question.now (under_of c.args.checks.now) p bytes) none in
    says_equal_words _ same (c.attached_reply.ensures.says bytes (c.new-intake.ensures.known ∙ e))

pub returns-in-Large-clause-says : goal.returns-in-Large-clause-says
returns-in-Large-clause-says g c = λ bytes detached e known.
    let content = g.F.NamedFiles.content c.args.files.now in
    let none = same_detached None detached _ (ap (detached_in content) c.in-InMessage.is) known in
    let same = ap (λ (p : Option (List ℕ)). answered_under c.args.question.now (under_of c.args.checks.now) p bytes) none in
    says_equal_words _ same (c.attached_reply-in-Large.ensures.says bytes (c.new-intake.ensures.known ∙ e))

pub returns-in-Bytes-clause-says : goal.returns-in-Bytes-clause-says
returns-in-Bytes-clause-says g c = λ bytes detached e known.
    let content = g.F.NamedFiles.content c.args.files.now in
    let given = same_detached (Some c.in-Bytes.bytes.items) detached _ (ap (detached_in content) c.in-Bytes.is) known in
    let same = ap (λ (p : Option (List ℕ)). answered_under c.args.question.now (under_of c.args.checks.now) p bytes) (ap Some c.as_slice.ensures.value ∙ given) in
    says_equal_words _ same (c.reply_with_bytes.ensures.says bytes (c.new-intake.ensures.known ∙ e))

pub returns-in-File-clause-says : goal.returns-in-File-clause-says
returns-in-File-clause-says g c = λ bytes detached e known.
    let content = g.F.NamedFiles.content c.args.files.now in
    let part = file_detached content c.args.payload.now detached c.in-File.name c.in-File.length c.in-File.is known in
    let same = ap (λ (p : Option (List ℕ)). answered_under c.args.question.now (under_of c.args.checks.now) p bytes) part.2 in
    says_equal_words _ same (c.reply_from_file.ensures.says bytes part.0 (c.new-intake.ensures.known ∙ e) part.1)

pub returns-in-File-clause-keys : goal.returns-in-File-clause-keys
returns-in-File-clause-keys g c = λ other. absurd (true≢false (sym (ap is_in_file c.in-File.is) ∙ other))
