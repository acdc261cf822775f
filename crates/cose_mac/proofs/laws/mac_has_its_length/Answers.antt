use Rattle.cose_mac.proofs.HmacLemmas.{length_mac}
use Rattle.cose_mac.proofs.laws.mac_has_its_length.Goals as goal

pub returns : goal.returns
returns c = length_mac
