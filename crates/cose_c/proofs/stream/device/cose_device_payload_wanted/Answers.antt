use Rattle.cose_c.proofs.stream.device.cose_device_payload_wanted.Goals as goal

pub returns-clause-reads : goal.returns-clause-reads
returns-clause-reads c = rw c.lend.ensures.value at c.payload_wanted.ensures.reads
