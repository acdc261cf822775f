use Rattle.std.proofs.Common.{◌≡◌, map}
use Rattle.std.specs.Prelude.{fold, flat_map}
use Rattle.cose_head.specs.Items.{items_left}
use Rattle.cose_map.specs.Bucket.View.{bucket_pairs}
use Rattle.cose_map.specs.Bucket.Both.{lesser, least, element_faults}
use Rattle.cose_map.specs.Map.Lookup.{IsSettled}
use Rattle.cose_map.specs.Map.Names.{element_names}
use Rattle.cose_map.specs.Map.View.{pairs_left}
use Rattle.cose_map.specs.Label.View.{label_value}
use Rattle.cose_map.proofs.bucket.both.least_of_elements_in_any_order.Given as goal

-- the least so far, with the elements left, is the least of all
abbrev pub invariant-elements : goal.invariant-elements
invariant-elements l = record {
  least :
      fold lesser l.least (flat_map (element_faults (bucket_pairs l.protected) (map label_value l.understood)) (items_left l.element-iterator)) ≡
      least (flat_map (element_faults (bucket_pairs l.protected) (map label_value l.understood)) (items_left l.fn.elements));
  searched : pairs_left l.lookup.pairs ≡ bucket_pairs l.protected;
  ahead : items_left l.ahead ≡ items_left l.element-iterator;
  settled : IsSettled (element_names (items_left l.element-iterator)) l.lookup;
}
