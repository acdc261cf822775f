use Rattle.std.proofs.Common.{◌++◌, refl}
use Rattle.cose_msg.specs.Task.{given_to, to_verify_elsewhere}
use Rattle.cose_msg.proofs.lemmas.Deciding.Frames.{some_too}
use Rattle.cose_msg.proofs.verifier.Verifier.asked_key.Goals as goal

pub returns-clause-key : goal.returns-clause-key
returns-clause-key g c = some_too c.asked_key.result (λ found is setting s B h come. is (given_to (B ++ come) (to_verify_elsewhere setting)) B _ _ (h.whatever_comes come) refl) c.asked_key.ensures.key

pub returns-clause-some : goal.returns-clause-some
returns-clause-some g c = λ setting s B h. c.asked_key.ensures.some _ _ _ _ h.so_far refl
