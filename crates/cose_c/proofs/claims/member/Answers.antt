use Rattle.std.specs.Prelude.{option_map}
use Rattle.cose_head.specs.ItemRef.{placed}
use Rattle.cose_map.specs.Label.View.{label_value}
use Rattle.cose_map.specs.Map.View.{pairs_left}
use Rattle.cose_c.proofs.Members.{member_inside}
use Rattle.cose_c.proofs.claims.member.Goals as goal

pub returns : goal.returns
returns c = λ item read. member_inside c.refusals_stand_inside.ensures.found item (pairs_left c.args.members.now) (label_value c.args.label.now) (option_map placed c.get.result) read c.get.ensures
