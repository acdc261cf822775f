use Rattle.std.proofs.Common.{◌≡◌, ◌∙◌, ap, arith, get_or}
use mir.Syntax.{w128}
use mir.Val.{of_z, to_z}
use Rattle.std.specs.Prelude.{pos}
use Rattle.std.proofs.lemmas.Grind.{common_steps}
use Rattle.cose_map.specs.declared.label.Label.TheVariants.{Int}
use Rattle.cose_map.specs.Label.{number}
use Rattle.cose_c.proofs.Labels.{labels_more}
use Rattle.cose_c.proofs.stated.labels_of.Goals as goal

pub labels-preserved : goal.labels-preserved
labels-preserved c =
    let e : c.from.result ≡ get_or c.args.numbers.now c.labels.index (pos 0) = grind (arith, common_steps) in
    let read : to_z w128 (of_z w128 c.from.result) ≡ c.from.result = grind (arith, common_steps) in
    (grind (arith, common_steps), labels_more c.labels.labels c.args.numbers.now c.labels.index (Int (to_z w128 (of_z w128 c.from.result))) (pos 0) c.labels.invariant.0 c.told-numbers c.labels-test.true c.labels.invariant.1 (ap number (read ∙ e)))

pub returns : goal.returns
returns c = grind (arith, common_steps)
