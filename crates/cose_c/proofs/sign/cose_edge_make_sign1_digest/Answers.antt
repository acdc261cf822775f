use Rattle.cose_c.proofs.sign.cose_edge_make_sign1_digest.Goals as goal

pub returns-clause-making : goal.returns-clause-making
returns-clause-making c = rw c.lend.ensures.value at c.ask.ensures.making
