use Rattle.std.proofs.Common.{refl}
use Rattle.cose_map.specs.Map.Pairs.{value_of}
use Rattle.cose_cwt.specs.Claims.Labels as names
use Rattle.cose_cwt.specs.Claims.View.{claims_value}
use Rattle.cose_c.proofs.Strings.{audience_range}
use Rattle.cose_c.proofs.claims.audience_for_c.Goals as goal

pub returns : goal.returns
returns c = λ depth shallow read.
    let value = claims_value c.args.claims.now in
    audience_range c.claims_are_of_a_tree.ensures c.children_are_of_tree.ensures.inside depth c.args.payload.now value shallow read c.args.index (value_of names.aud value.pairs) c.audience_at.result refl c.audience_at.ensures.value
    c.audience_at.ensures.inside
