use Rattle.std.proofs.Common.{map, option_map, string_bytes}
use Rattle.cose_map.specs.Bucket.View.{bucket_pairs}
use Rattle.cose_answers.proofs.lemmas.Messages.HeaderLabels.{says_more}
use Rattle.cose_answers.proofs.answers.headers.headed_reply.Goals as goal

pub returns-in-Authentic-clause-says : goal.returns-in-Authentic-clause-says
returns-in-Authentic-clause-says c =
    rw c.in-Authentic.is (says_more (map string_bytes c.args.labels.now) (option_map bucket_pairs c.args.buckets.now.protected) (option_map bucket_pairs c.args.buckets.now.unprotected) _ _ _ _ c.in_ok-reply.reply c.with_parameters.result
    (rw c.in-Authentic.is at c.in_ok-reply.ensures.says) c.with_parameters.ensures.text c.with_parameters.ensures.status)
