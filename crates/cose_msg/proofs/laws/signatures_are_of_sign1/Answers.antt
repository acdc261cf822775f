use Rattle.cose_msg.proofs.lemmas.Deciding.Signatures.{signatures_of_sign1}
use Rattle.cose_msg.proofs.laws.signatures_are_of_sign1.Goals as goal

pub returns : goal.returns
returns c = signatures_of_sign1 c.chosen_key_fits.ensures.kind c.deciding_goes_last.ensures.comparing
