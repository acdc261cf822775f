use Rattle.std.proofs.Common.{ap, ◌∙◌, sym}
use Rattle.cose_head.specs.ItemRef.{placed}
use Rattle.cose_text.proofs.Levels.{appended, array_level, leaf_level, map_level, no_level, not_major, tag_level}
use Rattle.cose_text.proofs.diagnostic.+diagnostic.Goals as goal

pub push_item-returns-then-depth-eq0 : goal.push_item-returns-then-depth-eq0
push_item-returns-then-depth-eq0 t c = no_level _ c.args.depth (placed c.args.item.now) c.if-depth-eq0.true

pub push_item-returns-then-major-eq4 : goal.push_item-returns-then-major-eq4
push_item-returns-then-major-eq4 t c =
    appended _ _ _ _ _ (array_level c.args.depth (placed c.args.item.now) c.if-depth-eq0.false (ap (λ h. h.major) (sym c.head-major.ensures.exact) ∙ c.if-major-eq4.true)) c.push_list.ensures

pub push_item-returns-then-major-eq5 : goal.push_item-returns-then-major-eq5
push_item-returns-then-major-eq5 t c =
    appended _ _ _ _ _ (map_level c.args.depth (placed c.args.item.now) c.if-depth-eq0.false (ap (λ h. h.major) (sym c.head-major.ensures.exact) ∙ c.if-major-eq5.true)) c.push_list-then-major-eq5.ensures

pub push_item-returns-in-Some : goal.push_item-returns-in-Some
push_item-returns-in-Some t c =
    appended _ _ _ _ _ (tag_level c.args.depth (placed c.args.item.now) c.in-Some.number (placed c.in-Some.enclosed) c.if-depth-eq0.false (not_major _ _ 4 c.head-major.ensures.exact c.if-major-eq4.false) (not_major _ _ 5 c.head-major.ensures.exact c.if-major-eq5.false) c.in-Some.ensures) c.push_tag.ensures

pub push_item-returns-in-None : goal.push_item-returns-in-None
push_item-returns-in-None t c =
    appended _ _ _ _ _ (leaf_level c.args.depth (placed c.args.item.now) c.if-depth-eq0.false (not_major _ _ 4 c.head-major.ensures.exact c.if-major-eq4.false) (not_major _ _ 5 c.head-major.ensures.exact c.if-major-eq5.false) c.in-None.ensures) c.push_leaf.ensures
