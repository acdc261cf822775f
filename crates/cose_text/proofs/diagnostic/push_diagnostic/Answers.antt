use Rattle.cose_head.specs.ItemRef.{placed}
use Rattle.cose_text.proofs.Levels.{appended}
use Rattle.cose_text.proofs.Trees.{is_diagnostic}
use Rattle.cose_text.proofs.diagnostic.push_diagnostic.Goals as goal

pub returns : goal.returns
returns c =
    let laws = c.children_are_of_tree.ensures in
    appended _ _ _ _ _
    (is_diagnostic c.bare_head_is_spelling.ensures.spelled c.read_is_spelling.ensures.spelled laws.array laws.map laws.enclosed
    c.whole_is_one_item.ensures.test c.whole_is_one_item.ensures.tree (placed c.args.item.now) c.args.item.now.is_item)
    c.push_item.ensures
