use Rattle.std.proofs.Common.{◌∙◌}
use Rattle.cose_map.specs.Bucket.Header as names
use Rattle.cose_map.specs.Bucket.View.{bucket_pairs}
use Rattle.cose_map.proofs.lemmas.Bucket.{is_there}
use Rattle.cose_map.proofs.bucket.Bucket.has_iv.Goals as goal

pub returns : goal.returns
returns c = c.is_some.ensures ∙ is_there _ c.args.self.now.common.iv names.iv (bucket_pairs c.args.self.now) c.args.self.now.iv_found
