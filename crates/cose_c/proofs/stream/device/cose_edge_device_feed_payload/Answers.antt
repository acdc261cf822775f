use Rattle.cose_c.proofs.stream.device.cose_edge_device_feed_payload.Goals as goal

pub returns-clause-reads : goal.returns-clause-reads
returns-clause-reads c = rw c.lend.ensures.value at c.feed_payload.ensures.reads
