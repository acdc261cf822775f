use Rattle.std.proofs.Common.{◌≡◌}
use Rattle.std.specs.Prelude.{option_map}
use Rattle.std.specs.Option.{option_or}
use Rattle.cose_head.specs.ItemRef.{placed}
use Rattle.cose_map.specs.Bucket.Header as names
use Rattle.cose_map.specs.Map.Pairs.{value_of}
use Rattle.cose_map.specs.Map.View.{pairs_left}
use Rattle.cose_map.proofs.bucket.common.Common.of.Given as goal

-- what was found so far, or else in the pairs left, is what is in all
abbrev pub invariant-pairs : goal.invariant-pairs
invariant-pairs l = record {
  alg : option_or (option_map placed l.alg) (value_of names.alg (pairs_left l.name-iterator)) ≡ value_of names.alg (pairs_left l.fn.pairs);
  crit : option_or (option_map placed l.crit) (value_of names.crit (pairs_left l.name-iterator)) ≡ value_of names.crit (pairs_left l.fn.pairs);
  kid : option_or (option_map placed l.kid) (value_of names.kid (pairs_left l.name-iterator)) ≡ value_of names.kid (pairs_left l.fn.pairs);
  iv : option_or (option_map placed l.iv) (value_of names.iv (pairs_left l.name-iterator)) ≡ value_of names.iv (pairs_left l.fn.pairs);
  partial_iv : option_or (option_map placed l.partial_iv) (value_of names.partial_iv (pairs_left l.name-iterator)) ≡ value_of names.partial_iv (pairs_left l.fn.pairs);
}
