use Rattle.std.proofs.Common.{◌∙◌}
use Rattle.cose_head.specs.ItemRef.{placed}
use Rattle.cose_map.specs.KeySet.{items_in}
use Rattle.cose_answers.proofs.lemmas.Keys.AskedKeys.{says_of_front}
use Rattle.cose_answers.proofs.answers.keys.asked.asked_reply.Goals as goal

pub returns-in-Ok-clause-says : goal.returns-in-Ok-clause-says
returns-in-Ok-clause-says g c = λ bytes e.
    says_of_front c.messages_are_bounded.ensures.any c.settled_stays.ensures.message c.bare_head_is_spelling.ensures.stays c.bare_head_is_spelling.ensures.short c.bare_head_is_spelling.ensures.fits c.args.wanted c.as_slice-front.result.now bytes (items_in (placed c.args.set.now)) c.args.usable c.reply_for.result
    (c.as_slice-front.ensures.value ∙ c.in_ok-front.ensures.front bytes e) c.reply_for.ensures.says
