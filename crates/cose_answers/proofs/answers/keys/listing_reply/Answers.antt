use Rattle.std.proofs.Common.{sym}
use Rattle.cose_answers.proofs.answers.keys.listing_reply.Goals as goal

pub returns-in-Some-clause-says : goal.returns-in-Some-clause-says
returns-in-Some-clause-says g c = λ bytes e. rw (c.in-Some.is, sym c.as_slice-keys.ensures.value) (c.keys_reply_for.ensures.says bytes e)

pub returns-in-None-clause-says : goal.returns-in-None-clause-says
returns-in-None-clause-says g c = λ bytes e. rw (c.in-None.is, sym c.as_slice-keys.ensures.value) c.keys_reply.ensures.says

pub returns-in-Some-clause-keys : goal.returns-in-Some-clause-keys
returns-in-Some-clause-keys g c = λ refusal. rw (sym c.as_slice-keys.ensures.value) (c.keys_reply_for.ensures.keys refusal)

pub returns-in-None-clause-keys : goal.returns-in-None-clause-keys
returns-in-None-clause-keys g c = λ refusal. rw (sym c.as_slice-keys.ensures.value) (c.keys_reply.ensures.keys refusal)
