use Rattle.std.proofs.Common.{◌≡◌, [], ◌∷◌, IsTrue, nat_abs, to_z, of_z, refl}
use Rattle.std.specs.Str.{bytes_eq}
use Rattle.std.proofs.lemmas.Slice.Eq.{bytes_eq-Decides}
use Rattle.std.specs.Int.{w128}
use Rattle.cose_head.specs.Algorithm.{algorithm_number, is_mac_of}
use Rattle.cose_head.specs.Head.{shortest_head}
use Rattle.cose_head.specs.Shortest.{shortest, shortest_all}
use Rattle.cose_head.specs.declared.algorithm.Alg.{Alg}
use Rattle.cose_head.proofs.lemmas.Algorithms.{each_mac}
use Rattle.cose_msg.specs.Making.{protected_made}
use Rattle.cose_msg.proofs.make.protected_header.Goals as goal

-- A map of one pair, whose value is below 24.
of_number : (alg : Alg) → IsTrue (is_mac_of alg) → 0xa1 ∷ 1 ∷ nat_abs (to_z w128 (of_z w128 (algorithm_number alg))) ∷ [] ≡ protected_made alg
unfolding shortest shortest_all shortest_head
of_number alg is_mac = (bytes_eq-Decides _ _).0 (each_mac (λ a. bytes_eq (0xa1 ∷ 1 ∷ nat_abs (to_z w128 (of_z w128 (algorithm_number a))) ∷ []) (protected_made a)) refl alg is_mac)

pub returns : goal.returns
returns c = rw c.number.ensures.value (of_number c.args.alg c.requires)
