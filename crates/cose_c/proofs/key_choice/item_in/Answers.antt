use Rattle.std.proofs.Common.{sym, ◌∙◌}
use Rattle.cose_c.proofs.Items.{no_item_at}
use Rattle.cose_c.proofs.Strings.{nothing_left}
use Rattle.cose_c.proofs.key_choice.item_in.Goals as goal

pub returns-then-is_empty : goal.returns-then-is_empty
returns-then-is_empty c =
    let none = nothing_left c.bytes_from-bytes.result.now (sym c.is_empty.ensures ∙ c.if-is_empty.true) in
    sym (no_item_at c.args.keys.now c.args.place (sym c.bytes_from-bytes.ensures ∙ none))
