use Rattle.std.proofs.Common.{ap, ◌∙◌}
use Rattle.cose_head.specs.ItemRef.{placed}
use Rattle.cose_head.specs.Whole.{is_one_item}
use Rattle.cose_head.proofs.lemmas.Placed.Whole.{enclosed_is_one_item}
use Rattle.cose_head.proofs.item_ref.ItemRef.as_tag.Goals as goal

pub invariant_of-item-clause-is_item : goal.invariant_of-item-clause-is_item
invariant_of-item-clause-is_item c =
    ap is_one_item c.bytes_after.ensures
    ∙ enclosed_is_one_item (placed c.args.self.now) c.head-head.result c.args.self.now.is_item c.head-head.ensures.exact c.if-head-ne6.false
