use Rattle.std.specs.Prelude.{option_map}
use Rattle.cose_map.specs.Map.View.{pairs_left}
use Rattle.cose_map.specs.Label.View.{label_value}
use Rattle.cose_map.proofs.lemmas.Map.Search.{still_rising, from_ahead}
use Rattle.cose_map.proofs.map.search.Search.onward.Goals as goal

pub invariant_of-result : goal.invariant_of-result
invariant_of-result c =
    let search = c.args.self in
    let name = label_value c.args.name in
    record {
      rising = rw c.from.ensures (still_rising name search.is_rising (pairs_left search.ahead) search.rising);
      others_passed = rw c.from.ensures (from_ahead (option_map label_value search.last) name (pairs_left search.ahead) (pairs_left search.pairs) c.requires search.others_passed);
    }
