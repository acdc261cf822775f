use Rattle.std.proofs.Common.{sym, ap, ◌∙◌}
use Rattle.cose_head.specs.ItemRef.{placed}
use Rattle.cose_head.specs.Items.{items_left}
use Rattle.cose_map.specs.Choice.View.{question}
use Rattle.cose_c.specs.KeyChoice.{first_fitting}
use Rattle.cose_c.specs.PermittedView.{permission_value}
use Rattle.cose_c.proofs.KeysChosen.{a_later_one, no_more, this_one}
use Rattle.cose_c.proofs.key_choice.first_among.Goals as goal

pub elements-init : goal.elements-init
elements-init c =
    ap (first_fitting (question c.args.query.now) (permission_value c.args.permission.now))
    (ap items_left c.into_iter-element-iterator.ensures.into_iter_gives ∙ c.of-element-items.ensures)

pub elements-preserved : goal.elements-preserved
elements-preserved c =
    a_later_one (question c.args.query.now) (permission_value c.args.permission.now) (placed c.in-Some.element) _ _ _
    c.in-Some.ensures.steps (sym c.is_fitting.ensures ∙ c.if-is_fitting.false) c.elements.invariant

pub returns-then-is_fitting : goal.returns-then-is_fitting
returns-then-is_fitting c =
    this_one (question c.args.query.now) (permission_value c.args.permission.now) (placed c.in-Some.element) _ _ _
    c.in-Some.ensures.steps (sym c.is_fitting.ensures ∙ c.if-is_fitting.true) c.elements.invariant

pub returns : goal.returns
returns c =
    no_more (question c.args.query.now) (permission_value c.args.permission.now) _ _ c.in-None.ensures.steps.0 c.elements.invariant
