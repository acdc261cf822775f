use Rattle.std.proofs.Common.{◌∙◌, sym}
use Rattle.cose_map.proofs.lemmas.KeySet.Items.{array_items, map_items, no_items}
use Rattle.cose_answers.proofs.lemmas.Keys.Listings.{all_counted, all_listed, none_counted, none_listed, one_counted, one_listed}
use Rattle.cose_answers.proofs.answers.keys.push_set.Goals as goal

pub returns-then-major-eq4-clause-lines : goal.returns-then-major-eq4-clause-lines
returns-then-major-eq4-clause-lines c =
    all_listed _ _ _ _ _ _ (array_items _ _ c.head-major.ensures.exact c.if-major-eq4.true ∙ sym c.of.ensures) c.push_items.ensures.lines

pub returns-then-major-eq4-clause-count : goal.returns-then-major-eq4-clause-count
returns-then-major-eq4-clause-count c =
    all_counted _ _ _ (array_items _ _ c.head-major.ensures.exact c.if-major-eq4.true ∙ sym c.of.ensures) c.push_items.ensures.count

pub returns-then-major-eq5-clause-lines : goal.returns-then-major-eq5-clause-lines
returns-then-major-eq5-clause-lines c =
    one_listed _ _ _ _ _ _ (map_items _ _ c.head-major.ensures.exact c.if-major-eq5.true) c.push_only.ensures.line

pub returns-then-major-eq5-clause-count : goal.returns-then-major-eq5-clause-count
returns-then-major-eq5-clause-count c =
    one_counted _ _ _ (map_items _ _ c.head-major.ensures.exact c.if-major-eq5.true) c.push_only.ensures.count

pub returns-clause-lines : goal.returns-clause-lines
returns-clause-lines c = none_listed _ _ _ (no_items _ _ c.head-major.ensures.exact c.if-major-eq5.false c.if-major-eq4.false)

pub returns-clause-count : goal.returns-clause-count
returns-clause-count c = none_counted _ (no_items _ _ c.head-major.ensures.exact c.if-major-eq5.false c.if-major-eq4.false)
