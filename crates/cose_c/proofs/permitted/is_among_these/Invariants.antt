-- It is among those that are left exactly where it is among all.
use Rattle.std.proofs.Common.{◌≡◌, drop}
use Rattle.std.specs.List.{list_any}
use Rattle.std.specs.Ordering.{int_eq}
use Rattle.cose_c.proofs.permitted.is_among_these.Given as goal

abbrev pub invariant-algorithms : goal.invariant-algorithms
invariant-algorithms l = list_any (int_eq l.own) (drop l.number-index l.algorithms) ≡ list_any (int_eq l.own) l.algorithms
