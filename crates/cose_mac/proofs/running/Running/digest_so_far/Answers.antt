use Rattle.std.proofs.Common.{length, append-nil, ◌∙◌, ap}
use Rattle.cose_mac.proofs.HashLemmas.{length_digest}
use Rattle.cose_head.specs.Algorithm.{hash_of}
use Rattle.cose_mac.specs.Hash.{digest_of, function_of}
use Rattle.cose_mac.proofs.running.Running.digest_so_far.Goals as goal

pub returns-clause-value : goal.returns-clause-value
unfolding digest_of
returns-clause-value c alg message fed =
    c.digest_with.ensures (hash_of alg) message fed.held ∙ ap (function_of (hash_of alg)).digest (append-nil message)

pub returns-clause-length : goal.returns-clause-length
unfolding digest_of
returns-clause-length c alg message fed = ap length (returns-clause-value c alg message fed) ∙ length_digest (hash_of alg) message
