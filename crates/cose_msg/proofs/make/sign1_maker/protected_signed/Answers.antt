use Rattle.std.proofs.Common.{◌≡◌, ◌-ℤ◌, cond, true, List, ℕ, ◌∷◌, IsFalse, nat_abs, negsuc, to_z, of_z, refl, arith}
use Rattle.std.specs.Str.{bytes_eq}
use Rattle.std.proofs.lemmas.Grind.{common_steps}
use Rattle.std.proofs.lemmas.Slice.Eq.{bytes_eq-Decides}
use Rattle.std.specs.Int.{w128}
use Rattle.cose_head.specs.Algorithm.{algorithm_number, is_mac_of}
use Rattle.cose_head.specs.Head.{shortest_head}
use Rattle.cose_head.specs.Shortest.{shortest, shortest_all}
use Rattle.cose_head.specs.declared.algorithm.Alg.{Alg}
use Rattle.cose_head.proofs.lemmas.Algorithms.{each_algorithm}
use Rattle.cose_msg.specs.Making.{protected_made}
use Rattle.cose_msg.proofs.lemmas.Made.MadeHeaders.{protected_length}
use Rattle.cose_msg.proofs.make.sign1_maker.protected_signed.Goals as goal

abbrev header : Alg → List ℕ
header alg = 0xa1 ∷ 1 ∷ shortest_head 1 (nat_abs (to_z w128 (of_z w128 (negsuc 0 -ℤ to_z w128 (of_z w128 (algorithm_number alg))))))

-- A map of one pair, whose value is a negative integer.
of_number : (alg : Alg) → IsFalse (is_mac_of alg) → header alg ≡ protected_made alg
unfolding shortest shortest_all shortest_head
of_number alg signs =
    let here : cond (is_mac_of alg) true (bytes_eq (header alg) (protected_made alg)) ≡ true = each_algorithm (λ a. cond (is_mac_of a) true (bytes_eq (header a) (protected_made a))) refl alg in
    (bytes_eq-Decides _ _).0 (rw signs at here)

pub returns-clause-value : goal.returns-clause-value
returns-clause-value c =
    let e = of_number c.args.alg c.requires in
    let short = protected_length c.args.alg in
    grind (arith, common_steps, e, short)

pub returns-clause-short : goal.returns-clause-short
returns-clause-short c =
    let e = of_number c.args.alg c.requires in
    let short = protected_length c.args.alg in
    grind (arith, common_steps, e, short)
