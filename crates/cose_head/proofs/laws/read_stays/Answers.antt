use Rattle.cose_head.proofs.lemmas.Reading.ReadLaws.{stays, refused_is_no_item}
use Rattle.cose_head.proofs.laws.read_stays.Goals as goal

pub returns-clause-stays : goal.returns-clause-stays
returns-clause-stays c = stays

pub returns-clause-refused : goal.returns-clause-refused
returns-clause-refused c = refused_is_no_item
