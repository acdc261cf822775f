use Rattle.cose_map.proofs.lemmas.Laws.Further.{okp_full, okp_keys_full}
use Rattle.cose_map.proofs.laws.okp_keys_are_full.Goals as goal

pub returns-clause-key : goal.returns-clause-key
returns-clause-key c = okp_full

pub returns-clause-keys : goal.returns-clause-keys
returns-clause-keys c = okp_keys_full
