use Rattle.std.proofs.Common.{subst, drop}
use Rattle.cose_head.specs.Items.{items_left}
use Rattle.cose_map.specs.Map.Lookup.{IsSettled}
use Rattle.cose_map.specs.Map.Names.{element_names}
use Rattle.cose_map.specs.Map.Pairs.{has_label}
use Rattle.cose_map.specs.Map.View.{pairs_left}
use Rattle.cose_map.proofs.lemmas.Map.Lookup.{settled_of}
use Rattle.cose_map.proofs.map.lookup.Lookup.has_element.Goals as goal

pub returns-clause-answer : goal.returns-clause-answer
returns-clause-answer c =
    c.take-2.ensures.answer (element_names (drop 1 (items_left c.args.ahead)))
    (subst (λ l. IsSettled l (record { pairs = c.args.self.now.pairs; absent = c.remove_all.new.labels; settled = c.read_elements-self.result })) c.requires.here
    (λ name among. settled_of _ _ _ (has_label name (pairs_left c.args.self.now.pairs)) (c.read_elements-self.ensures.held name) (c.remove_all.ensures name) among))

pub returns-clause-settled : goal.returns-clause-settled
returns-clause-settled c =
    c.take-2.ensures.settled (element_names (drop 1 (items_left c.args.ahead)))
    (subst (λ l. IsSettled l (record { pairs = c.args.self.now.pairs; absent = c.remove_all.new.labels; settled = c.read_elements-self.result })) c.requires.here
    (λ name among. settled_of _ _ _ (has_label name (pairs_left c.args.self.now.pairs)) (c.read_elements-self.ensures.held name) (c.remove_all.ensures name) among))
