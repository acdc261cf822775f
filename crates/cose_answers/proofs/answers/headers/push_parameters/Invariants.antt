-- The lines so far and those of the labels that are left are all lines.
use Rattle.std.proofs.Common.{◌≡◌, ◌++◌, drop, map, option_map, string_bytes}
use Rattle.cose_map.specs.Bucket.View.{bucket_pairs}
use Rattle.cose_answers.specs.Headers.{parameter_lines}
use Rattle.cose_answers.proofs.answers.headers.push_parameters.Given as goal

abbrev pub invariant-labels : goal.invariant-labels
invariant-labels l =
    string_bytes l.text ++ parameter_lines (map string_bytes (drop l.label-index l.labels)) (option_map bucket_pairs l.buckets.protected) (option_map bucket_pairs l.buckets.unprotected)
    ≡ string_bytes l.fn.text ++ parameter_lines (map string_bytes l.labels) (option_map bucket_pairs l.buckets.protected) (option_map bucket_pairs l.buckets.unprotected)
