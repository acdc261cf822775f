use Rattle.std.proofs.Common.{◌≡◌, ◌++◌, ◌+◌, ◌*◌, [], codes, map, string_bytes}
use denote.Shadow.{shadow}
use denote.Text.{Utf8}
use Rattle.cose_head.specs.ItemRef.{placed}
use Rattle.cose_head.specs.Items.{items_left}
use Rattle.cose_head.specs.Placed.{children_of}
use Rattle.cose_text.specs.Diagnostic.{joined}
use Rattle.cose_text.specs.Shown.{item_text}
use Rattle.cose_text.proofs.diagnostic.+diagnostic.Given as goal

-- an item has one level more than its children
abbrev pub decreases-push_item : goal.decreases-push_item
decreases-push_item l = 3 * l.depth

abbrev pub decreases-push_tag : goal.decreases-push_tag
decreases-push_tag l = 3 * l.depth + 1

abbrev pub decreases-push_children : goal.decreases-push_children
decreases-push_children l = 3 * l.depth + 1

abbrev pub decreases-push_list : goal.decreases-push_list
decreases-push_list l = 3 * l.depth + 2

-- the text so far and the children that are left are all of it
abbrev pub invariant-push_children-children : goal.invariant-push_children-children
invariant-push_children-children l =
    shadow (Utf8 l.before) × shadow (Utf8 l.next) × shadow (Utf8 l.other) ×
    (string_bytes l.text ++ joined l.before l.next l.other (map (item_text l.depth) (items_left l.child-iterator))
    ≡ string_bytes l.fn.text ++ joined [] l.fn.after_first (codes ", ") (map (item_text l.depth) (children_of (placed l.fn.item))))
