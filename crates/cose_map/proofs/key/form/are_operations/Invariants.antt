-- Those that are left have the form, and there is at least one, if there was none so far.
use Rattle.std.proofs.Common.{◌≡◌, ◌==◌, ◌&&◌, ◌||◌, not, length}
use Rattle.std.specs.List.{list_all}
use Rattle.cose_head.specs.Items.{items_left}
use Rattle.cose_map.specs.Key.Form.{is_number_or_text, are_operations}
use Rattle.cose_map.proofs.key.form.are_operations.Given as goal

abbrev pub invariant-elements : goal.invariant-elements
invariant-elements l =
    ((l.any || not (length (items_left l.element-iterator) == 0)) && list_all is_number_or_text (items_left l.element-iterator))
    ≡ are_operations (items_left l.initial.items)
