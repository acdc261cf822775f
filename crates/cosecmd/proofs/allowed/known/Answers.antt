use Rattle.std.proofs.Common.{◌≡◌, ◌∙◌, SFits, Some, ap, of_z, option_map, rules, sym, to_z}
use Rattle.std.specs.Int.{w128}
use Rattle.std.proofs.lemmas.Int.{to_z-of_z}
use Rattle.cose_head.specs.Algorithm.{algorithm_number, algorithm_numbered}
use Rattle.cosecmd.proofs.allowed.known.Goals as goal

pub returns : goal.returns
returns c =
    let in_range : SFits w128 c.number.result = search rules in
    let asked : to_z w128 (of_z w128 c.args.number) ≡ c.args.number = to_z-of_z w128 c.args.number c.ranges.number in
    let found : c.from_number.result ≡ algorithm_numbered (to_z w128 (of_z w128 c.args.number)) = c.from_number.ensures in
    let is : c.from_number.result ≡ Some c.in_ok-alg.alg = c.in_ok-alg.was in
    let numbered : algorithm_numbered c.args.number ≡ Some c.in_ok-alg.alg = rw asked at (sym found ∙ is) in
    ap Some (to_z-of_z w128 c.number.result in_range ∙ c.number.ensures.value) ∙ sym (ap (option_map algorithm_number) numbered)
