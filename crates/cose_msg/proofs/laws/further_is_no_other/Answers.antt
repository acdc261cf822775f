use Rattle.cose_msg.proofs.lemmas.FurtherNamed.{authentic_nowhere_else}
use Rattle.cose_msg.proofs.laws.further_is_no_other.Goals as goal

pub returns : goal.returns
returns c = authentic_nowhere_else c.authentication_decides.ensures.authentic c.unrefused_is_message.ensures.one
