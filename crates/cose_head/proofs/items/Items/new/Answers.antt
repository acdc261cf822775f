use Rattle.cose_head.proofs.lemmas.Placed.Placed.{children_found}
use Rattle.cose_head.proofs.lemmas.Placed.AllThere.{children_are_there}
use Rattle.cose_head.proofs.items.Items.new.Goals as goal

pub returns : goal.returns
returns c = children_found _ _ _ _ _ _ c.in-Got.ensures.answer c.split_at.ensures.back c.in_ok-left-in-Got.ensures

pub invariant_of-result-clause-all : goal.invariant_of-result-clause-all
invariant_of-result-clause-all c =
    children_are_there _ _ _ _ _ _ c.requires.one_item c.in-Got.ensures.answer c.split_at.ensures.back c.in_ok-left-in-Got.ensures
