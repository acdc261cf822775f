-- The lines so far and those of the pairs that are left are all lines.
use Rattle.std.proofs.Common.{◌≡◌, ◌++◌, option_map, string_bytes}
use Rattle.cose_map.specs.Bucket.View.{bucket_pairs}
use Rattle.cose_map.specs.Map.View.{pairs_left}
use Rattle.std.specs.Prelude.{Some}
use Rattle.cose_answers.specs.Printed.{bucket_lines}
use Rattle.cose_answers.proofs.answers.show.push_pairs.Given as goal

abbrev pub invariant-pairs : goal.invariant-pairs
invariant-pairs l = string_bytes l.text ++ bucket_lines l.diagnostic l.name (Some (pairs_left l._label-iterator)) ≡ string_bytes l.fn.text ++ bucket_lines l.diagnostic l.name (option_map bucket_pairs l.fn.bucket)
