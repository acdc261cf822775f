use Rattle.std.proofs.Common.{◌≡◌, ℕ, List, length, sym, ap, ◌∙◌}
use Rattle.std.specs.Prelude.{◌-◌}
use Rattle.std.proofs.lemmas.List.{length-drop}
use Rattle.cose_c.specs.CoseClaims.{first_in}
use Rattle.cose_c.proofs.Strings.{none_at, not_past, nothing_left, ranges_at}
use Rattle.cose_c.proofs.claims.cose_edge_next_audience.Goals as goal

pub returns-then-is_empty : goal.returns-then-is_empty
returns-then-is_empty c =
    let none = nothing_left c.bytes_from-bytes.result.now (sym c.is_empty.ensures ∙ c.if-is_empty.true) in
    rw (none_at c.args.payload.now c.args.place (sym c.bytes_from-bytes.ensures ∙ none)) c.no_range.ensures

pub returns : goal.returns
returns c =
    let payload = c.args.payload.now in
    let place = c.args.place in
    let left : length c.bytes_from-bytes.result.now ≡ length payload - place = ap length c.bytes_from-bytes.ensures ∙ length-drop place payload in
    let here = not_past (length payload) place (length c.bytes_from-bytes.result.now) left (sym c.is_empty.ensures ∙ c.if-is_empty.false) in
    ranges_at payload place _ _ here (c.first_item.ensures.item ∙ ap (λ (l : List ℕ). first_in (record { bytes = l; place = place })) c.bytes_from-bytes.ensures) c.text_range.ensures.value
    c.text_range.ensures.inside
