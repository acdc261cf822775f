use Rattle.std.proofs.Common.{◌∙◌, rules}
use Rattle.cose_answers.proofs.lemmas.Payloads.KeptPayloads.{lent_reply}
use Rattle.cose_answers.proofs.answers.payload_to.reply_written.Goals as goal

pub returns-clause-payload : goal.returns-clause-payload
returns-clause-payload g c = λ bytes e.
    lent_reply c.reply_in_room-reply.result _ _ (g.N.Write.contents c.args.file.now) (g.N.Write.contents c.into_writer-writer.result.now) _ _
    _ c.into_writer-writer.result.ghost_name (c.reply_in_room-reply.ensures.payload bytes (c.new-intake.ensures.known ∙ e)) c.new-sink.ensures.contents
    c.into_writer-writer.ensures.contents (λ same. search rules)

pub returns-clause-says : goal.returns-clause-says
returns-clause-says g c = λ bytes e. c.reply_in_room-reply.ensures.says bytes (c.new-intake.ensures.known ∙ e)
