use Rattle.std.proofs.Common.{◌∙◌}
use Rattle.cose_map.specs.Bucket.View.{bucket_pairs}
use Rattle.cose_map.specs.Label.View.{label_value}
use Rattle.cose_map.proofs.lemmas.Bucket.{is_there}
use Rattle.cose_map.proofs.bucket.Bucket.has.Goals as goal

pub returns : goal.returns
returns c = c.is_some.ensures ∙ is_there _ c.get.result (label_value c.args.label.now) (bucket_pairs c.args.self.now) c.get.ensures
