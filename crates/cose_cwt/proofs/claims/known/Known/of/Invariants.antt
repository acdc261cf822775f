-- What was found so far, and else the first in the pairs that are left, is the first in all.
use Rattle.std.proofs.Common.{◌≡◌}
use Rattle.cose_map.specs.Map.View.{pairs_left}
use Rattle.cose_cwt.specs.Claims.Known.{first_values, kept_or_first}
use Rattle.cose_cwt.specs.Claims.Known.View.{known_value}
use Rattle.cose_cwt.proofs.claims.known.Known.of.Given as goal

abbrev pub invariant-pairs : goal.invariant-pairs
invariant-pairs l = kept_or_first (known_value l.known) (pairs_left l.pair-iterator) ≡ first_values (pairs_left l.fn.pairs)
