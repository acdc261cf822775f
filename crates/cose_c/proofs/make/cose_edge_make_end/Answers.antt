use Rattle.cose_c.proofs.make.cose_edge_make_end.Goals as goal

pub returns-clause-ends : goal.returns-clause-ends
returns-clause-ends c = rw c.lend.ensures.value at c.end.ensures.ends
