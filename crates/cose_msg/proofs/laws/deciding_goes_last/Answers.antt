use Rattle.cose_msg.proofs.lemmas.Reading.LastAnswers.{finish_goes_last, comparing_goes_last, verifying_goes_last}
use Rattle.cose_msg.proofs.laws.deciding_goes_last.Goals as goal

pub returns-clause-any : goal.returns-clause-any
returns-clause-any c = finish_goes_last

pub returns-clause-comparing : goal.returns-clause-comparing
returns-clause-comparing c = comparing_goes_last

pub returns-clause-verifying : goal.returns-clause-verifying
returns-clause-verifying c = verifying_goes_last
