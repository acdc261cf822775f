-- Pieces that are appended in turn.
use Rattle.std.proofs.Common.{List, ℕ, ◌++◌, ◌∙◌, append_assoc}
use Rattle.cose_mac.specs.Running.{Appends}
use Rattle.cose_mac.specs.declared.running.Running.{Running}

pub append_both : {first second third : Running} {piece rest : List ℕ} → Appends first second piece → Appends second third rest → Appends first third (piece ++ rest)
append_both one two = record {
  purpose = two.purpose ∙ one.purpose;
  fed_mac = λ alg key message fed. rw append_assoc at (two.fed_mac alg key _ (one.fed_mac alg key message fed));
  fed_digest = λ alg message fed. rw append_assoc at (two.fed_digest alg _ (one.fed_digest alg message fed));
}
