use Rattle.cosecmd.proofs.arguments.refused_line.Goals as goal

pub returns-clause-asked : goal.returns-clause-asked
returns-clause-asked c = c.status_of-status.ensures.asked
