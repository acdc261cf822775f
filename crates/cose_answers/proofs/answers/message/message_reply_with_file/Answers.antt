use Rattle.std.proofs.Common.{ap, ◌∙◌}
use Rattle.cose_answers.specs.PayloadFile.{counted}
use Rattle.cose_answers.proofs.answers.message.message_reply_with_file.Goals as goal

pub returns-clause-says : goal.returns-clause-says
returns-clause-says g c = λ bytes content e known.
    c.reply_with_file.ensures.says bytes content e (c.new-file.ensures.known ∙ ap (counted c.args.payload_length) known)
