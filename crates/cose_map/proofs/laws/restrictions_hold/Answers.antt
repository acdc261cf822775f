use Rattle.cose_map.proofs.lemmas.Laws.Allowed.{algorithm_allowed, chosen_allowed, secret_long_enough}
use Rattle.cose_map.proofs.laws.restrictions_hold.Goals as goal

pub returns-clause-key : goal.returns-clause-key
returns-clause-key c = chosen_allowed

pub returns-clause-algorithm : goal.returns-clause-algorithm
returns-clause-algorithm c = algorithm_allowed

pub returns-clause-secret : goal.returns-clause-secret
returns-clause-secret c = secret_long_enough
