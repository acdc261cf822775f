use Rattle.cose_msg.proofs.lemmas.Made.Making.{in_parts}
use Rattle.cose_msg.proofs.laws.made_in_parts.Goals as goal

pub returns : goal.returns
returns c = in_parts
