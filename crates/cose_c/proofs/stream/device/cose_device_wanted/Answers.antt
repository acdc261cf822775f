use Rattle.cose_c.proofs.stream.device.cose_device_wanted.Goals as goal

pub returns-clause-reads : goal.returns-clause-reads
returns-clause-reads c = rw c.lend.ensures.value at c.wanted.ensures.reads
