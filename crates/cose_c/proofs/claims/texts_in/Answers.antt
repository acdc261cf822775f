use Rattle.std.proofs.Common.{◌≡◌, true, false, arith}
use Rattle.std.proofs.lemmas.Grind.{common_steps}
use Rattle.std.specs.Prelude.{is_some}
use Rattle.cose_head.specs.ItemRef.{placed}
use Rattle.cose_head.specs.Placed.{look, text_in}
use Rattle.cose_c.proofs.Strings.{counts_all, counts_end, counts_on}
use Rattle.cose_c.proofs.claims.texts_in.Goals as goal

pub returns-then-is_none : goal.returns-then-is_none
returns-then-is_none c =
    let none : is_some (text_in (look (placed c.in-Some.element))) ≡ false = grind (arith, common_steps) in
    counts_end _ _ _ _ _ c.in-Some.ensures.steps c.elements.invariant.0 none c.elements.invariant.1

pub elements-preserved : goal.elements-preserved
elements-preserved c =
    let some : is_some (text_in (look (placed c.in-Some.element))) ≡ true = grind (arith, common_steps) in
    (counts_on _ _ _ _ _ c.in-Some.ensures.steps c.elements.invariant.0 _ some c.saturating_add-count.ensures, grind arith)

pub returns : goal.returns
returns c = counts_all _ _ _ c.in-None.ensures.steps.0 c.elements.invariant.0 c.elements.invariant.1
