use Rattle.std.proofs.Common.{◌∙◌, ◌++◌, ap, codes, option_map, string_bytes}
use Rattle.std.proofs.lemmas.List.{append_assoc}
use Rattle.std.proofs.lemmas.Result.{IfOk-weaker}
use Rattle.cose_map.specs.Bucket.View.{bucket_pairs}
use Rattle.cose_answers.specs.Printed.{bucket_lines}
use Rattle.cose_answers.proofs.answers.show.push_headers.Goals as goal

pub returns-clause-lines : goal.returns-clause-lines
returns-clause-lines g c =
    let protected = bucket_lines c.args.diagnostic (codes "protected") (option_map bucket_pairs c.protected.result) in
    let unprotected = bucket_lines c.args.diagnostic (codes "unprotected") (option_map bucket_pairs c.unprotected.result) in
    rw (← c.protected.ensures, ← c.unprotected.ensures)
    (IfOk-weaker c.push_pairs-2.result _ _ (λ done lines. lines ∙ ap (λ it. it ++ unprotected) c.in_ok-push_pairs.ensures.lines ∙ append_assoc (string_bytes c.args.text.now) protected unprotected) c.push_pairs-2.ensures.lines)
