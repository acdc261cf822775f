-- The count so far and the text strings that are left are as many as all of them.
use Rattle.std.proofs.Common.{◌≡◌, ◌+◌, ◌≤◌, length}
use Rattle.std.specs.Prelude.{◌-◌, ◌^◌, min}
use Rattle.cose_head.specs.ItemRef.{placed}
use Rattle.cose_head.specs.Items.{items_left}
use Rattle.cose_head.specs.Placed.{children_of}
use Rattle.cose_cwt.specs.Claims.{texts_from}
use Rattle.cose_c.proofs.claims.texts_in.Given as goal

abbrev pub invariant-elements : goal.invariant-elements
invariant-elements l = (min (l.count + length (texts_from (items_left l.element-iterator))) (2 ^ 64 - 1) ≡ min (length (texts_from (children_of (placed l.array)))) (2 ^ 64 - 1)) × (l.count ≤ 2 ^ 64 - 1)
