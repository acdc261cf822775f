use Rattle.std.proofs.Common.{rules}
use Rattle.cose_answers.specs.Under.{under_of}
use Rattle.cose_answers.proofs.lemmas.Messages.DetachedReplies.{says_with_bytes}
use Rattle.cose_answers.proofs.answers.message.reply_with_bytes.Goals as goal

pub returns-clause-says : goal.returns-clause-says
returns-clause-says g c = λ bytes e.
    says_with_bytes c.args.question.now (under_of c.args.checks.now) c.deciding_goes_last.ensures.verifying c.payload_stays.ensures.complete bytes c.args.payload.now _ _ _ c.reply_to_detached.result (search rules)
    c.reply_to_detached.ensures.keys (rw e at c.reply_to_detached.ensures.says)
