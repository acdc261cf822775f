use Rattle.cose_c.proofs.stream.large.cose_large_wanted.Goals as goal

pub returns-clause-reads : goal.returns-clause-reads
returns-clause-reads c = rw c.lend.ensures.value at c.wanted.ensures.reads
