use Rattle.cose_answers.proofs.lemmas.Keys.AskedKeys.{read_so}
use Rattle.cose_answers.proofs.answers.keys.asked.no_keys.Goals as goal

pub returns-clause-none : goal.returns-clause-none
returns-clause-none c = (read_so c.read.result c.read.ensures.exact).1

pub returns-clause-read : goal.returns-clause-read
returns-clause-read c = (read_so c.read.result c.read.ensures.exact).0
