use Rattle.cose_c.proofs.Members.{none_lies}
use Rattle.cose_c.proofs.claims.y_range.Goals as goal

pub returns : goal.returns
returns c = λ item read. none_lies item c.no_range.result c.no_range.ensures
