use Rattle.std.proofs.Common.{◌∙◌, ap, sym, not}
use Rattle.std.specs.Prelude.{option_map}
use Rattle.cose_map.specs.Label.View.{label_value}
use Rattle.cose_map.specs.Map.Earlier.{earlier_pairs}
use Rattle.cose_map.specs.Map.View.{pairs_left}
use Rattle.cose_map.proofs.lemmas.Label.Order.{none_passed}
use Rattle.cose_map.proofs.lemmas.Map.Ahead.{greatest_next}
use Rattle.cose_map.proofs.map.unordered.Unordered.push.Goals as goal

pub push-requires-clause-greatest : goal.push-requires-clause-greatest
push-requires-clause-greatest c =
    let earlier = c.args.self.now.earlier in
    greatest_next (option_map label_value earlier.greatest) (label_value c.args.name) earlier.count (pairs_left earlier.pairs) (pairs_left c.args.ahead) earlier.greatest_of_them c.requires.ahead c.requires.here

pub returns-then-passes-clause-new : goal.returns-then-passes-clause-new
returns-then-passes-clause-new c =
    let earlier = c.args.self.now.earlier in
    sym (ap not (none_passed (option_map label_value earlier.greatest) (label_value c.args.name) (earlier_pairs earlier) earlier.greatest_of_them (sym c.passes.ensures ∙ c.if-passes.true)))
