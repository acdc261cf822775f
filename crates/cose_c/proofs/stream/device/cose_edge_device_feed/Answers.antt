use Rattle.cose_c.proofs.stream.device.cose_edge_device_feed.Goals as goal

pub returns-clause-uses : goal.returns-clause-uses
returns-clause-uses c = rw c.lend.ensures.value at c.feed.ensures.uses

pub returns-clause-reads : goal.returns-clause-reads
returns-clause-reads c = rw c.lend.ensures.value at c.feed.ensures.reads

pub returns-clause-status : goal.returns-clause-status
returns-clause-status c = rw c.lend.ensures.value at c.feed.ensures.status

pub returns-clause-same_task : goal.returns-clause-same_task
returns-clause-same_task c = rw c.lend.ensures.value at c.feed.ensures.same_task
