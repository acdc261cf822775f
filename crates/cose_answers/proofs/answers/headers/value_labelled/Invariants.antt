-- The value found among the pairs that are left is the one found among all.
use Rattle.std.proofs.Common.{◌≡◌}
use Rattle.cose_map.specs.Map.View.{pairs_left}
use Rattle.cose_answers.specs.Headers.{value_labelled}
use Rattle.cose_answers.proofs.answers.headers.value_labelled.Given as goal

abbrev pub invariant-pairs : goal.invariant-pairs
invariant-pairs l = value_labelled l.notation (pairs_left l.label-iterator) ≡ value_labelled l.notation (pairs_left l.fn.pairs)
