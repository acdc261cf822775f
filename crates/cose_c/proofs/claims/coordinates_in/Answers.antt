use Rattle.std.proofs.Common.{sym, ap, ◌∙◌}
use Rattle.cose_head.specs.ItemRef.{placed}
use Rattle.cose_map.specs.Map.View.{pairs_left, seen_by}
use Rattle.cose_c.proofs.Members.{none_lies}
use Rattle.cose_c.proofs.claims.coordinates_in.Goals as goal

pub returns-in-Ok-clause-x : goal.returns-in-Ok-clause-x
returns-in-Ok-clause-x c = c.member_range.ensures (placed c.args.key.now) (sym c.check_map.ensures.exact ∙ ap (seen_by pairs_left) c.in-Ok.is)

pub returns-in-Ok-clause-y : goal.returns-in-Ok-clause-y
returns-in-Ok-clause-y c = c.y_range.ensures (placed c.args.key.now) (sym c.check_map.ensures.exact ∙ ap (seen_by pairs_left) c.in-Ok.is)

pub returns-in-Err-clause-x : goal.returns-in-Err-clause-x
returns-in-Err-clause-x c = none_lies (placed c.args.key.now) _ c.no_coordinates.ensures.x

pub returns-in-Err-clause-y : goal.returns-in-Err-clause-y
returns-in-Err-clause-y c = none_lies (placed c.args.key.now) _ c.no_coordinates.ensures.y
