use Rattle.std.proofs.Common.{◌∙◌}
use Rattle.cose_msg.proofs.lemmas.Deciding.Decisions.{signature_is}
use Rattle.cose_msg.proofs.reader.Reader.asked_signature.Goals as goal

pub returns-else-is_mac-clause-signature : goal.returns-else-is_mac-clause-signature
returns-else-is_mac-clause-signature g c = λ task B n reading h whole is. c.as_slice.ensures.value ∙ signature_is c.in-Signed.signed c.in-Signed.is h whole is
