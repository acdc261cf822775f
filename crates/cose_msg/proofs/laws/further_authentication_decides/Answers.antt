use Rattle.cose_msg.proofs.lemmas.FurtherAnswers.{further_is_message, no_is_refused, refused_unasked}
use Rattle.cose_msg.proofs.laws.further_authentication_decides.Goals as goal

pub returns : goal.returns
returns c = record { authentic = further_is_message c.unrefused_is_message.ensures.whole; no = no_is_refused; unasked = refused_unasked }
