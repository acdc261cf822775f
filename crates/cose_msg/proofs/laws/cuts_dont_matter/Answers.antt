use Rattle.cose_msg.proofs.lemmas.Feeding.Cuts.{cuts_dont_matter, pieces_join}
use Rattle.cose_msg.proofs.laws.cuts_dont_matter.Goals as goal

pub returns-clause-joined : goal.returns-clause-joined
returns-clause-joined c = pieces_join

pub returns-clause-same : goal.returns-clause-same
returns-clause-same c = cuts_dont_matter
