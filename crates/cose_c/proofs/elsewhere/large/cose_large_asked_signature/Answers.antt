use Rattle.std.proofs.Common.{refl}
use Rattle.cose_c.proofs.elsewhere.large.cose_large_asked_signature.Goals as goal

pub returns-then-asked_signature-clause-signature : goal.returns-then-asked_signature-clause-signature
returns-then-asked_signature-clause-signature c = λ _. (rw c.lend.ensures.value at c.if-asked_signature.ensures.signature) refl
