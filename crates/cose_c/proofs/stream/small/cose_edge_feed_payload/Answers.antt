use Rattle.cose_c.proofs.stream.small.cose_edge_feed_payload.Goals as goal

pub returns-clause-reads : goal.returns-clause-reads
returns-clause-reads c = rw c.lend.ensures.value at c.feed_payload.ensures.reads
