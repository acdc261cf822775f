use Rattle.std.proofs.Common.{sym}
use Rattle.cose_map.specs.KeySet.View.{keys as usable}
use Rattle.cose_answers.proofs.lemmas.Keys.Listings.{no_item}
use Rattle.cose_answers.proofs.answers.keys.keys_reply.Goals as goal

pub returns-in-Err-read-clause-keys : goal.returns-in-Err-read-clause-keys
returns-in-Err-read-clause-keys c = λ refusal.
    absurd (no_item c.args.keys.now c.in-Err-read.refusal (usable c.in-Ok.set) (sym c.in-Err-read.ensures.exact) (sym c.in-Ok.ensures.exact))
