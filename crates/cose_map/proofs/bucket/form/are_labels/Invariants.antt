use Rattle.std.proofs.Common.{◌≡◌, ◌==◌, ◌&&◌, ◌||◌, not, length}
use Rattle.std.specs.List.{list_all}
use Rattle.cose_head.specs.Items.{items_left}
use Rattle.cose_map.specs.Map.Form.{is_label}
use Rattle.cose_map.specs.Bucket.Form.{are_labels}
use Rattle.cose_map.proofs.bucket.form.are_labels.Given as goal

-- the elements left are labels, and there is at least one, if there was none so far
abbrev pub invariant-elements : goal.invariant-elements
invariant-elements l = ((l.any || not (length (items_left l.element-iterator) == 0)) && list_all is_label (items_left l.element-iterator)) ≡ are_labels (items_left l.initial.items)
