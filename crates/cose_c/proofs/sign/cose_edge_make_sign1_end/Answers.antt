use Rattle.cose_c.proofs.sign.cose_edge_make_sign1_end.Goals as goal

pub returns-clause-wrong : goal.returns-clause-wrong
returns-clause-wrong c = rw c.lend.ensures.value at c.end.ensures.wrong

pub returns-clause-making : goal.returns-clause-making
returns-clause-making c = rw c.lend.ensures.value at c.end.ensures.making

pub returns-clause-ends : goal.returns-clause-ends
returns-clause-ends c = rw c.lend.ensures.value at c.end.ensures.ends
