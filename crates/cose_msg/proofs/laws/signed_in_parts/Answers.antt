use Rattle.cose_msg.proofs.lemmas.Made.Making.{signed_in_parts}
use Rattle.cose_msg.proofs.laws.signed_in_parts.Goals as goal

pub returns : goal.returns
returns c = signed_in_parts
