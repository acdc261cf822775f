use Rattle.std.proofs.Common.{◌≡◌, ◌∙◌, true, false, length, option_map, ap, sym}
use Rattle.cose_head.specs.ItemRef.{placed}
use Rattle.cose_map.specs.Bucket.View.{bucket_pairs}
use Rattle.cose_map.specs.Choice.View.{question}
use Rattle.cose_map.specs.KeySet.{items_in}
use Rattle.cose_msg.specs.declared.verdict.Verdict.TheVariants.{Refused}
use Rattle.cose_msg.specs.Answer.{decided}
use Rattle.cose_msg.specs.Message.{Setting, message}
use Rattle.cose_msg.specs.Shown.{Shown}
use Rattle.cose_msg.specs.Slice.{outcome}
use Rattle.cose_msg.specs.Task.{rules_of, to_verify}
use Rattle.cose_msg.specs.Verifier.{setting_in}
use Rattle.cose_answers.specs.AskedKeys.{headers_found, headers_setting, headers_verdict, is_of_choice}
use Rattle.cose_answers.proofs.lemmas.Keys.AskedKeys.{refused_so, says_listed, says_refused}
use Rattle.cose_answers.proofs.answers.keys.asked.reply_for.Goals as goal

pub returns-in-Refused-clause-says : goal.returns-in-Refused-clause-says
returns-in-Refused-clause-says c =
    let front = c.args.front.now in
    let wanted = c.args.wanted in
    let refusal = c.in-Refused.refusal in
    let same : setting_in c.new-verifier.result ≡ headers_setting wanted = c.new-verifier.ensures.context ∙ c.headers_context-context.ensures.setting c.requires.none in
    let refused : headers_verdict wanted front ≡ decided (Refused refusal) =
    refused_so c.authentication_decides.ensures.authentic wanted front (length front) (setting_in c.new-verifier.result) same (outcome c.verify_slice.result) c.verify_slice.ensures.outcome refusal (ap outcome c.in-Refused.is) in
    let choice : is_of_choice refusal.reason ≡ true = sym c.is_of_choice.ensures ∙ c.if-is_of_choice.true in
    let protected : option_map bucket_pairs c.protected.result ≡ (headers_found wanted front).protected =
    c.protected.ensures ∙ ap (λ (shown : Shown). shown.protected) c.verify_slice.ensures.shows ∙ ap (λ (s : Setting). (message (rules_of 65535 16 (to_verify s)) front).so_far.protected) same in
    let unprotected : option_map bucket_pairs c.unprotected.result ≡ (headers_found wanted front).unprotected =
    c.unprotected.ensures ∙ ap (λ (shown : Shown). shown.unprotected) c.verify_slice.ensures.shows ∙ ap (λ (s : Setting). (message (rules_of 65535 16 (to_verify s)) front).so_far.unprotected) same in
    says_listed wanted front (items_in (placed c.args.set.now)) c.args.usable c.set_reply.result refusal refused choice c.args.kind
    (option_map bucket_pairs c.protected.result) (option_map bucket_pairs c.unprotected.result) (question c.query_of-query.result) c.requires.kind protected unprotected
    c.query_of-query.ensures c.set_reply.ensures.text c.set_reply.ensures.status

pub returns-in-Refused-2-clause-says : goal.returns-in-Refused-2-clause-says
returns-in-Refused-2-clause-says c =
    let front = c.args.front.now in
    let wanted = c.args.wanted in
    let refusal = c.in-Refused.refusal in
    let same : setting_in c.new-verifier.result ≡ headers_setting wanted = c.new-verifier.ensures.context ∙ c.headers_context-context.ensures.setting c.requires.none in
    let refused : headers_verdict wanted front ≡ decided (Refused refusal) =
    refused_so c.authentication_decides.ensures.authentic wanted front (length front) (setting_in c.new-verifier.result) same (outcome c.verify_slice.result) c.verify_slice.ensures.outcome refusal (ap outcome c.in-Refused.is) in
    let choice : is_of_choice refusal.reason ≡ false = sym c.is_of_choice.ensures ∙ c.if-is_of_choice.false in
    says_refused wanted front (items_in (placed c.args.set.now)) c.args.usable c.reply_of.result refusal refused choice c.reply_of.ensures.says
