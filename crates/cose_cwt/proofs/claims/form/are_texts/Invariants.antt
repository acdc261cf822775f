use Rattle.std.proofs.Common.{◌≡◌, ◌==◌, ◌&&◌, ◌||◌, not, length}
use Rattle.std.specs.List.{list_all}
use Rattle.cose_head.specs.Items.{items_left}
use Rattle.cose_cwt.specs.Claims.Form.{is_text, are_texts}
use Rattle.cose_cwt.proofs.claims.form.are_texts.Given as goal

-- the elements left are text strings, and there is at least one, if there was none so far
abbrev pub invariant-elements : goal.invariant-elements
invariant-elements l = ((l.any || not (length (items_left l.element-iterator) == 0)) && list_all is_text (items_left l.element-iterator)) ≡ are_texts (items_left l.initial.items)
