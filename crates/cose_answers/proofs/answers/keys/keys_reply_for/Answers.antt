use Rattle.std.proofs.Common.{sym}
use Rattle.cose_head.specs.ItemRef.{placed}
use Rattle.cose_map.specs.KeySet.View.{keys as usable}
use Rattle.cose_answers.specs.AskedKeys.{asked}
use Rattle.cose_answers.specs.Printed.{items_listed_for}
use Rattle.cose_answers.proofs.lemmas.Keys.AskedKeys.{says_of_items}
use Rattle.cose_answers.proofs.lemmas.Keys.Listings.{no_item}
use Rattle.cose_answers.proofs.answers.keys.keys_reply_for.Goals as goal

pub returns-in-Ok-read-clause-says : goal.returns-in-Ok-read-clause-says
returns-in-Ok-read-clause-says g c = λ bytes e.
    says_of_items (items_listed_for (asked c.args.wanted bytes)) c.args.keys.now (usable c.in-Ok.set) (placed c.in-Ok-read.item) c.count.result c.asked_reply.result
    (sym c.in-Ok.ensures.exact) c.in-Ok-read.ensures.same c.count.ensures (c.asked_reply.ensures.says bytes e)

pub returns-in-Err-read-clause-keys : goal.returns-in-Err-read-clause-keys
returns-in-Err-read-clause-keys g c = λ refusal.
    absurd (no_item c.args.keys.now c.in-Err-read.refusal (usable c.in-Ok.set) (sym c.in-Err-read.ensures.exact) (sym c.in-Ok.ensures.exact))
