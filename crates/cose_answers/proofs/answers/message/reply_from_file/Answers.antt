use Rattle.std.proofs.Common.{subst, sym, ℕ}
use Rattle.cose_answers.specs.Under.{under_of}
use Rattle.cose_answers.proofs.lemmas.Requests.Asked.{Part, file_words, known_part, says_equal_words}
use Rattle.cose_answers.proofs.answers.message.reply_from_file.Goals as goal

pub returns-clause-says : goal.returns-clause-says
returns-clause-says g c = λ bytes payload e known.
    let file = known_part _ c.args.stated payload known in
    let opened = c.in-Ok.ensures file.bytes file.known in
    let payload_length = c.in-Ok.opened.1 in
    let part : Part payload_length file.bytes payload = subst (λ (stated : ℕ). Part stated file.bytes payload) (sym opened.1) file.part in
    says_equal_words _ (file_words c.args.question.now (under_of c.args.checks.now) payload_length file.bytes payload bytes part)
    (c.message_reply_with_file.ensures.says bytes file.bytes e opened.0)

pub returns-clause-keys : goal.returns-clause-keys
returns-clause-keys g c = λ refusal is. (c.message_reply_with_file.ensures.keys refusal).1 is
