use Rattle.std.proofs.Common.{rules, tests, ◌∙◌}
use Rattle.std.proofs.lemmas.Iterator.{YieldsList-from_slice}
use Rattle.std.proofs.lemmas.Iterator.Search.{find_from_yields_List}
use Rattle.std.specs.Ordering.{int_eq}
use Rattle.cose_head.specs.Algorithm.{algorithm_number, algorithms}
use Rattle.cose_head.proofs.algorithm.Alg.from_number.Goals as goal

pub returns : goal.returns
returns c =
    c.copied.ensures
    ∙ find_from_yields_List (λ alg. int_eq (algorithm_number alg) c.args.number) _ _ _ c.find.ensures.ran
    (YieldsList-from_slice algorithms cc) (λ x b q k. search (rules, tests))
