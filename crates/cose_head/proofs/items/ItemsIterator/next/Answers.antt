use Rattle.std.proofs.Common.{arith}
use Rattle.cose_head.proofs.lemmas.Placed.AllThere.{is_next}
use Rattle.cose_head.proofs.items.ItemsIterator.next.Goals as goal

pub invariant_of-self-clause-all : goal.invariant_of-self-clause-all
invariant_of-self-clause-all c =
    (is_next _ _ _ _ _ c.split_at.ensures.front c.split_at.ensures.back c.item_length.ensures.exact _ c.args.self.now.all
    (omega (arith, c.if-self-eq0.false))).others

pub invariant_of-result-clause-is_item : goal.invariant_of-result-clause-is_item
invariant_of-result-clause-is_item c =
    (is_next _ _ _ _ _ c.split_at.ensures.front c.split_at.ensures.back c.item_length.ensures.exact _ c.args.self.now.all
    (omega (arith, c.if-self-eq0.false))).is_one

pub returns-clause-steps : goal.returns-clause-steps
returns-clause-steps c =
    (is_next _ _ _ _ _ c.split_at.ensures.front c.split_at.ensures.back c.item_length.ensures.exact _ c.args.self.now.all
    (omega (arith, c.if-self-eq0.false))).goes_on
