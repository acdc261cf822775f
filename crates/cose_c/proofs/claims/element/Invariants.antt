-- The element found among those that are left is the one found among all.
use Rattle.std.proofs.Common.{◌≡◌}
use Rattle.cose_head.specs.ItemRef.{placed}
use Rattle.cose_head.specs.Items.{items_left}
use Rattle.cose_head.specs.Placed.{children_of}
use Rattle.cose_c.specs.CoseClaims.{element_numbered}
use Rattle.cose_c.proofs.claims.element.Given as goal

abbrev pub invariant-elements : goal.invariant-elements
invariant-elements l = element_numbered l.left (items_left l.element-iterator) ≡ element_numbered l.index (children_of (placed l.array))
