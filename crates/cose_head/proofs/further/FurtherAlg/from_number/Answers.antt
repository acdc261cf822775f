use Rattle.std.proofs.Common.{rules, tests, ◌∙◌}
use Rattle.std.proofs.lemmas.Iterator.{YieldsList-from_slice}
use Rattle.std.proofs.lemmas.Iterator.Search.{find_from_yields_List}
use Rattle.std.specs.Ordering.{int_eq}
use Rattle.cose_head.specs.Further.{further_algorithms, further_number}
use Rattle.cose_head.proofs.further.FurtherAlg.from_number.Goals as goal

pub returns : goal.returns
returns c =
    c.copied.ensures
    ∙ find_from_yields_List (λ alg. int_eq (further_number alg) c.args.number) _ _ _ c.find.ensures.ran
    (YieldsList-from_slice further_algorithms cc) (λ x b q k. search (rules, tests))
