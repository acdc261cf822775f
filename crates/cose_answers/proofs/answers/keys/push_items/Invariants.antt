-- The lines so far and those of the items that are left are all lines, and so are their numbers.
use Rattle.std.proofs.Common.{◌≡◌, ◌+◌, ◌<◌, ◌^◌, ◌++◌, length, map, option_map, string_bytes}
use Rattle.std.specs.List.{concat}
use Rattle.cose_head.specs.Items.{items_left}
use Rattle.cose_answers.specs.AskedKeys.{question_at}
use Rattle.cose_answers.specs.KeysListed.{item_line}
use Rattle.cose_answers.proofs.answers.keys.push_items.Given as goal

abbrev pub invariant-items : goal.invariant-items
invariant-items l =
    (string_bytes l.text ++ concat (map (item_line (option_map question_at l.query)) (items_left l.item-iterator)) ≡ string_bytes l.fn.text ++ concat (map (item_line (option_map question_at l.query)) (items_left l.fn.items)))
    × (l.count + length (items_left l.item-iterator) ≡ length (items_left l.fn.items))
    × (length (items_left l.fn.items) < 2 ^ 128)
