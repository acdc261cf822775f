-- What a test says of every algorithm of the table: the test is computed over `algorithms`. So a lemma about all algorithms
-- needs no case for each, and none more with a new row.
use Rattle.std.proofs.Common.{◌≡◌, Bool, true, Some, cond, IsTrue, arith}
use Rattle.std.proofs.lemmas.Grind.{common_steps}
use Rattle.std.specs.List.{list_all}
use Rattle.cose_head.specs.Algorithm.{algorithm_number, algorithm_numbered, algorithms, is_mac_of}
use Rattle.cose_head.specs.declared.algorithm.Alg.{Alg}

-- Each algorithm is in the table.
pub each_algorithm : (test : Alg → Bool) → list_all test algorithms ≡ true → (alg : Alg) → test alg ≡ true
each_algorithm test all alg = grind (arith, common_steps)

-- A test of the algorithms that make MACs.
pub each_mac : (test : Alg → Bool) → list_all (λ a. cond (is_mac_of a) (test a) true) algorithms ≡ true → (alg : Alg) → IsTrue (is_mac_of alg) → test alg ≡ true
each_mac test all alg is_mac =
    let here : cond (is_mac_of alg) (test alg) true ≡ true = each_algorithm (λ a. cond (is_mac_of a) (test a) true) all alg in
    rw is_mac at here

pub numbered : (alg : Alg) → algorithm_numbered (algorithm_number alg) ≡ Some alg
numbered alg = grind (arith, common_steps)
