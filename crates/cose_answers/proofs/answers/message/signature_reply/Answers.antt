use Rattle.std.proofs.Common.{sym, ◌∙◌}
use Rattle.std.proofs.Math.Bool.{or-false}
use Rattle.std.proofs.lemmas.Result.{err_from_is_err_and}
use Rattle.cose_msg.specs.Shown.{input_value, sign_input_of, signed_place}
use Rattle.cose_answers.proofs.lemmas.Files.Failures.{answered_unfailed}
use Rattle.cose_answers.proofs.lemmas.Messages.MessageReplies.{says_longer, says_unsigned, says_vouched}
use Rattle.cose_answers.proofs.answers.message.signature_reply.Goals as goal

pub returns-in_default-clause-says : goal.returns-in_default-clause-says
returns-in_default-clause-says g c = λ rest e.
    says_unsigned rest (sign_input_of c.args.verifier.now) _ c.args.verdict c.verdict_reply.result c.in_default.ensures.value (c.verdict_reply.ensures.says rest e)

pub returns-in-Some-2-clause-says : goal.returns-in-Some-2-clause-says
returns-in-Some-2-clause-says g c = λ rest e.
    says_longer rest (sign_input_of c.args.verifier.now) (input_value (signed_place c.args.verifier.now) (c.in-Some.key, c.in-Some.digest, c.in-Some.signature)) _ c.args.verdict c.in-Some-2.refusal c.reply_of.result c.in-Some.ensures.value
    (sym c.in-Some-2.is ∙ rw (← c.taken.ensures.value) (c.in_ok-refusal.ensures.whole rest e)) c.reply_of.ensures.says

pub returns-in_ok-word-in-None-clause-says : goal.returns-in_ok-word-in-None-clause-says
returns-in_ok-word-in-None-clause-says g c = λ rest e.
    says_vouched rest (sign_input_of c.args.verifier.now) (input_value (signed_place c.args.verifier.now) (c.in-Some.key, c.in-Some.digest, c.in-Some.signature)) _ c.args.verdict c.as_slice.result.now c.word_reply.result c.in-Some.ensures.value
    (sym c.in-None.is ∙ rw (← c.taken.ensures.value) (c.in_ok-refusal.ensures.whole rest e)) (c.as_slice.ensures.value ∙ c.in_ok-word-in-None.ensures) c.word_reply.ensures.says

pub returns-in_err-refusal-clause-input : goal.returns-in_err-refusal-clause-input
returns-in_err-refusal-clause-input g c =
    let p = err_from_is_err_and c.from_residual.result c.from_residual.ensures.1 in
    rw (p.1, p.2, c.in_err-refusal.ensures.fault) c.in_err-refusal.ensures.failure

pub returns-in-Some-2-clause-input : goal.returns-in-Some-2-clause-input
returns-in-Some-2-clause-input g c = answered_unfailed _ _ c.reply_of.result (c.in_ok-refusal.ensures.failure ∙ or-false _) c.reply_of.ensures.fault

pub returns-in_ok-word-in-None-clause-input : goal.returns-in_ok-word-in-None-clause-input
returns-in_ok-word-in-None-clause-input g c = answered_unfailed _ _ c.word_reply.result (c.in_ok-refusal.ensures.failure ∙ or-false _) c.word_reply.ensures.fault
