-- The lines so far and those of the claims that are left are all lines.
use Rattle.std.proofs.Common.{◌≡◌, ◌++◌, string_bytes}
use Rattle.cose_map.specs.Map.View.{pairs_left}
use Rattle.cose_answers.specs.Admitted.{other_lines}
use Rattle.cose_answers.proofs.answers.cwt.push_each_other.Given as goal

abbrev pub invariant-claims : goal.invariant-claims
invariant-claims l = string_bytes l.lines ++ other_lines (pairs_left l.label-iterator) ≡ string_bytes l.fn.lines ++ other_lines (pairs_left l.fn.claims)
