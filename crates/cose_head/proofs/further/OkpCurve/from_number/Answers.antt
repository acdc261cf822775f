use Rattle.std.proofs.Common.{rules, tests, ◌∙◌}
use Rattle.std.proofs.lemmas.Iterator.{YieldsList-from_slice}
use Rattle.std.proofs.lemmas.Iterator.Search.{find_from_yields_List}
use Rattle.std.specs.Ordering.{int_eq}
use Rattle.cose_head.specs.Further.{okp_curve_number, okp_curves}
use Rattle.cose_head.proofs.further.OkpCurve.from_number.Goals as goal

pub returns : goal.returns
returns c =
    c.copied.ensures
    ∙ find_from_yields_List (λ curve. int_eq (okp_curve_number curve) c.args.number) _ _ _ c.find.ensures.ran
    (YieldsList-from_slice okp_curves cc) (λ x b q k. search (rules, tests))
