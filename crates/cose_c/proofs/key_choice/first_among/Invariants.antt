-- The first fitting key among those that are left is the first one of all.
use Rattle.std.proofs.Common.{◌≡◌}
use Rattle.cose_head.specs.ItemRef.{placed}
use Rattle.cose_head.specs.Items.{items_left}
use Rattle.cose_head.specs.Placed.{children_of}
use Rattle.cose_map.specs.Choice.View.{question}
use Rattle.cose_c.specs.KeyChoice.{first_fitting}
use Rattle.cose_c.specs.PermittedView.{permission_value}
use Rattle.cose_c.proofs.key_choice.first_among.Given as goal

abbrev pub invariant-elements : goal.invariant-elements
invariant-elements l =
    first_fitting (question l.query) (permission_value l.permission) (items_left l.element-iterator)
    ≡ first_fitting (question l.query) (permission_value l.permission) (children_of (placed l.array))
