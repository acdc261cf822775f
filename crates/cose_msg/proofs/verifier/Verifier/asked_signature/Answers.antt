use Rattle.std.proofs.Common.{ap, ◌∙◌}
use Rattle.cose_msg.specs.Reading.{Reading}
use Rattle.cose_msg.specs.Task.{to_verify_elsewhere}
use Rattle.cose_msg.proofs.lemmas.Deciding.Frames.{some_too}
use Rattle.cose_msg.proofs.lemmas.Run.Runs.{without_more}
use Rattle.cose_msg.proofs.verifier.Verifier.asked_signature.Goals as goal

pub returns-clause-signature : goal.returns-clause-signature
returns-clause-signature g c = some_too c.asked_signature.result (λ signature is setting s B h whole e.
    is (to_verify_elsewhere setting) B _ _ h.so_far whole (ap (λ (r : Reading). r.answer) (without_more g.row.H g.row.D (to_verify_elsewhere setting) s) ∙ e)) c.asked_signature.ensures.signature

pub returns-clause-some : goal.returns-clause-some
returns-clause-some g c = c.asked_signature.ensures.some
