use Rattle.cose_map.proofs.lemmas.Laws.Points.{full_short, point_full, points_full}
use Rattle.cose_map.proofs.laws.points_are_full.Goals as goal

pub returns-clause-key : goal.returns-clause-key
returns-clause-key c = point_full

pub returns-clause-keys : goal.returns-clause-keys
returns-clause-keys c = points_full

pub returns-clause-short : goal.returns-clause-short
returns-clause-short c = full_short
