use Rattle.std.proofs.Common.{◌∙◌, ap, take}
use Rattle.std.specs.Prelude.{option_map}
use Rattle.cose_map.specs.Label.View.{label_value}
use Rattle.cose_map.specs.Map.Labels.View.{holds}
use Rattle.cose_map.specs.Map.Pairs.{has_label}
use Rattle.cose_map.specs.Map.View.{pairs_left}
use Rattle.cose_map.proofs.lemmas.Map.Ahead.{first_known, greatest_next, still_settled}
use Rattle.cose_map.proofs.map.unordered.Unordered.push_settled.Goals as goal

pub push-requires-clause-greatest : goal.push-requires-clause-greatest
push-requires-clause-greatest c =
    let earlier = c.args.self.now.earlier in
    greatest_next (option_map label_value earlier.greatest) (label_value c.args.name) earlier.count (pairs_left earlier.pairs) (pairs_left c.args.ahead) earlier.greatest_of_them c.requires.ahead c.requires.here

pub returns-clause-new : goal.returns-clause-new
returns-clause-new c =
    let name = label_value c.args.name in
    c.remove-is_new.ensures.was ∙ c.requires.settled name (ap (λ l. has_label name (take c.args.self.now.settled l)) c.requires.ahead ∙ first_known name c.args.self.now.settled (pairs_left c.args.ahead) c.requires.some c.requires.here)

pub returns-clause-settled : goal.returns-clause-settled
returns-clause-settled c =
    let earlier = c.args.self.now.earlier in
    still_settled (holds c.args.self.now.absent) (holds c.remove-is_new.new.self) (label_value c.args.name) c.args.self.now.settled earlier.count c.push.new.self.count (pairs_left earlier.pairs) (pairs_left c.push.new.self.pairs) (pairs_left c.args.ahead)
    c.push.ensures.pairs c.push.ensures.count c.requires.some c.requires.ahead c.requires.here c.requires.settled c.remove-is_new.ensures.removed
