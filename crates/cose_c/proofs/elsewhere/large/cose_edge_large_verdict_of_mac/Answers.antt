use Rattle.cose_c.proofs.elsewhere.large.cose_edge_large_verdict_of_mac.Goals as goal

pub returns-clause-other_length : goal.returns-clause-other_length
returns-clause-other_length c = rw c.lend.ensures.value at c.verdict_of_mac.ensures.other_length

pub returns-clause-verdict : goal.returns-clause-verdict
returns-clause-verdict c = rw c.lend.ensures.value at c.verdict_of_mac.ensures.verdict
