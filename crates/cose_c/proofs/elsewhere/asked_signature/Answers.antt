use Rattle.cose_msg.specs.Task.{to_verify_elsewhere}
use Rattle.cose_c.proofs.Streams.{read_in}
use Rattle.cose_c.proofs.elsewhere.asked_signature.Goals as goal

pub returns-clause-signature : goal.returns-clause-signature
returns-clause-signature g c = λ _ setting taken payload read.
    let h = (read_in (to_verify_elsewhere setting) taken payload _ c.in-Some.verifier c.in-Some.is read).0 in
    (c.in-Some-asked_signature.signature.now, c.copy-length.ensures.gives, c.in-Some-asked_signature.ensures.signature setting taken payload h)
