use Rattle.std.proofs.Common.{◌<◌, ◌^◌, Ok, Result, rules, sym}
use Rattle.cose_answers.specs.declared.fault.Fault.{Fault}
use Rattle.cose_answers.specs.declared.reply.Reply.{Reply}
use Rattle.cose_answers.specs.Under.{under_of}
use Rattle.cose_answers.proofs.lemmas.Messages.DetachedReplies.{says_from_reader}
use Rattle.cose_answers.proofs.lemmas.Files.Failures.{keys_unrefused, stopped_by_second}
use Rattle.cose_answers.proofs.lemmas.Payloads.PayloadFiles.{ends_whole}
use Rattle.cose_answers.proofs.answers.message.reply_with_file.Goals as goal

pub returns-in-Ok-clause-says : goal.returns-in-Ok-clause-says
returns-in-Ok-clause-says g c = λ bytes content e told.
    let stated = c.args.payload_length in
    let after = c.reply_to_detached.new.payload in
    let small : stated < 2 ^ 64 = search rules in
    let small_left : after.left < 2 ^ 64 = after.in_range in
    let reply : Result Reply Fault = Ok c.in-Ok.reply in
    says_from_reader c.args.question.now (under_of c.args.checks.now) stated c.deciding_goes_last.ensures.verifying c.payload_stays.ensures.complete content bytes after.left (g.R.Read.remaining after.reader) _ small small_left _ reply told
    c.in-Ok.ensures.keys (rw e at c.in-Ok.ensures.says) (ends_whole after.ended after.left)

pub returns-in-Err-clause-keys : goal.returns-in-Err-clause-keys
returns-in-Err-clause-keys g c = λ refusal.
    let stopped = stopped_by_second _ _ _ _ _ c.in-Err.ensures.failure c.requires.sound (sym c.if-has_failed.ensures) in
    (λ refused. absurd (keys_unrefused _ c.in-Err.field-0 refusal c.in-Err.ensures.keys stopped refused), λ same. absurd cc)
