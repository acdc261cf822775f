use Rattle.std.proofs.Common.{◌∙◌, ap, sym, arith}
use Rattle.std.specs.Prelude.{◌||◌}
use Rattle.cose_map.specs.Label.{same_label}
use Rattle.cose_map.specs.Label.View.{label_value}
use Rattle.cose_map.specs.Map.View.{pairs_left}
use Rattle.cose_map.proofs.lemmas.Map.Ahead.{more_labels, one_further, not_most}
use Rattle.cose_map.proofs.map.ahead.read_ahead.Goals as goal

pub pairs-preserved : goal.pairs-preserved
pairs-preserved c =
    let step = c.pairs.invariant.left ∙ c.in-Some.ensures.steps in
    record {
      held = λ name. c.add.ensures.added name ∙ ap (λ b. same_label name (label_value c.in-Some.name) || b) (c.pairs.invariant.held name) ∙ sym (more_labels name c.pairs.count (pairs_left c.args.pairs) _ _ step);
      left = one_further c.pairs.count (pairs_left c.args.pairs) _ _ step;
      few = not_most c.pairs.count c.pairs.invariant.few c.if-count-eq-MOST.false;
      room = λ e. absurd (omega (arith, e));
    }
