use Rattle.std.proofs.Common.{◌∙◌, ap, not}
use Rattle.cose_map.specs.Label.View.{label_value}
use Rattle.cose_map.specs.Map.Pairs.{has_label}
use Rattle.cose_map.specs.Map.View.{pairs_left}
use Rattle.cose_map.proofs.lemmas.Map.Lookup.{next_known, later_known, twice}
use Rattle.cose_map.proofs.map.lookup.Lookup.take.Goals as goal

pub returns-clause-answer : goal.returns-clause-answer
returns-clause-answer c = λ names settled.
    let name = label_value c.args.name.now in
    ap not (c.has.ensures ∙ settled name (next_known name names c.args.self.now.settled c.requires.some)) ∙ twice (has_label name (pairs_left c.args.self.now.pairs))

pub returns-clause-settled : goal.returns-clause-settled
returns-clause-settled c = λ names settled name among. settled name (later_known (label_value c.args.name.now) name names c.args.self.now.settled c.requires.some among)
