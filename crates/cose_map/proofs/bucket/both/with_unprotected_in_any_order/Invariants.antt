use Rattle.std.proofs.Common.{◌≡◌}
use Rattle.std.specs.Prelude.{fold, flat_map}
use Rattle.cose_map.specs.Bucket.View.{bucket_pairs}
use Rattle.cose_map.specs.Map.Lookup.{IsSettled}
use Rattle.cose_map.specs.Map.Names.{names_of}
use Rattle.cose_map.specs.Map.View.{pairs_left}
use Rattle.cose_map.specs.Bucket.Both.{lesser, unprotected_faults}
use Rattle.cose_map.proofs.bucket.both.with_unprotected_in_any_order.Given as goal

-- the least so far, with the pairs left, is the least of all
abbrev pub invariant-pairs : goal.invariant-pairs
invariant-pairs l = record {
  least :
      fold lesser l.least (flat_map (unprotected_faults (bucket_pairs l.protected)) (pairs_left l.name-iterator)) ≡
      fold lesser l.fn.so_far (flat_map (unprotected_faults (bucket_pairs l.protected)) (bucket_pairs l.unprotected));
  searched : pairs_left l.lookup.pairs ≡ bucket_pairs l.protected;
  ahead : pairs_left l.ahead ≡ pairs_left l.name-iterator;
  settled : IsSettled (names_of (pairs_left l.name-iterator)) l.lookup;
}
