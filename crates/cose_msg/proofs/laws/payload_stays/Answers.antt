use Rattle.cose_msg.proofs.lemmas.Detached.PayloadStays.{open_stays, payload_stays}
use Rattle.cose_msg.proofs.laws.payload_stays.Goals as goal

pub returns-clause-complete : goal.returns-clause-complete
returns-clause-complete c = payload_stays

pub returns-clause-unsettled : goal.returns-clause-unsettled
returns-clause-unsettled c = open_stays
