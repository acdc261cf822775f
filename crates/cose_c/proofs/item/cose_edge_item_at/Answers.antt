use Rattle.std.proofs.Common.{Option, ap, subst, sym, ◌∙◌}
use Rattle.cose_head.specs.Placed.{Placed}
use Rattle.cose_c.specs.Item.{HoldsItem, item_numbers}
use Rattle.cose_c.proofs.Items.{no_item_at}
use Rattle.cose_c.proofs.Strings.{nothing_left}
use Rattle.cose_c.proofs.item.cose_edge_item_at.Goals as goal

pub returns-then-is_empty-clause-value : goal.returns-then-is_empty-clause-value
returns-then-is_empty-clause-value c =
    let none = nothing_left c.bytes_from-bytes.result.now (sym c.is_empty.ensures ∙ c.if-is_empty.true) in
    c.no_item.ensures ∙ ap item_numbers (sym (no_item_at c.args.payload.now c.args.place (sym c.bytes_from-bytes.ensures ∙ none)))

pub returns-then-is_empty-clause-holds : goal.returns-then-is_empty-clause-holds
returns-then-is_empty-clause-holds c =
    let none = nothing_left c.bytes_from-bytes.result.now (sym c.is_empty.ensures ∙ c.if-is_empty.true) in
    subst (λ (found : Option Placed). HoldsItem c.args.payload.now found c.no_item.result) (sym (no_item_at c.args.payload.now c.args.place (sym c.bytes_from-bytes.ensures ∙ none)))
    c.no_item.ensures
