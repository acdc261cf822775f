use Rattle.std.proofs.Common.{◌++◌, refl}
use Rattle.cose_msg.specs.Task.{given_to, to_verify_elsewhere}
use Rattle.cose_msg.proofs.lemmas.Deciding.Frames.{some_too}
use Rattle.cose_msg.proofs.verifier.Verifier.front_pieces.Goals as goal

pub returns-clause-front : goal.returns-clause-front
returns-clause-front g c = some_too c.front_pieces.result (λ found is setting s B h come. is (given_to (B ++ come) (to_verify_elsewhere setting)) B _ _ (h.whatever_comes come) refl) c.front_pieces.ensures.front

pub returns-clause-some : goal.returns-clause-some
returns-clause-some g c = λ setting s B h. c.front_pieces.ensures.some _ _ _ _ h.so_far refl
