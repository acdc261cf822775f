use Rattle.cose_c.proofs.stream.device.cose_device_end.Goals as goal

pub returns-clause-reads : goal.returns-clause-reads
returns-clause-reads c = rw c.lend.ensures.value at c.end.ensures.reads
