use Rattle.cose_mac.proofs.LongKeys.{mac-digest, FedMac-digest, ends-digest}
use Rattle.cose_mac.proofs.laws.long_key_is_its_digest.Goals as goal

pub returns-clause-macs : goal.returns-clause-macs
returns-clause-macs c = mac-digest

pub returns-clause-running : goal.returns-clause-running
returns-clause-running c = FedMac-digest

pub returns-clause-ends : goal.returns-clause-ends
returns-clause-ends c = ends-digest
