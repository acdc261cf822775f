use Rattle.std.proofs.Common.{◌∙◌, ap, sym, arith}
use Rattle.std.specs.Prelude.{◌||◌}
use Rattle.cose_head.specs.Items.{items_left}
use Rattle.cose_map.specs.Label.{same_label}
use Rattle.cose_map.specs.Label.View.{label_value}
use Rattle.cose_map.specs.Map.Names.{element_names, with_name}
use Rattle.cose_map.proofs.lemmas.Map.Ahead.{not_most}
use Rattle.cose_map.proofs.lemmas.Map.Lookup.{more_names, one_further_name}
use Rattle.cose_map.proofs.map.ahead.read_elements.Goals as goal

pub elements-preserved-in-Some-of : goal.elements-preserved-in-Some-of
elements-preserved-in-Some-of c =
    let all = element_names (items_left c.args.elements) in
    let others = element_names (items_left c.next.new.self) in
    let next = label_value c.in-Some-of.name in
    let step = c.elements.invariant.left ∙ ap element_names c.in-Some.ensures.steps ∙ ap (λ o. with_name o others) (sym c.in-Some-of.ensures) in
    record {
      held = λ name. c.add.ensures.added name ∙ ap (λ b. same_label name next || b) (c.elements.invariant.held name) ∙ sym (more_names name next c.elements.count all others step);
      left = one_further_name c.elements.count all next others step;
      few = not_most c.elements.count c.elements.invariant.few c.if-count-eq-MOST.false;
      room = λ e. absurd (omega (arith, e));
    }
