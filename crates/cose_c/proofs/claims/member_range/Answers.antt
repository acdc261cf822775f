use Rattle.std.specs.Prelude.{option_map}
use Rattle.cose_head.specs.ItemRef.{placed}
use Rattle.cose_c.proofs.Members.{member_lies}
use Rattle.cose_c.proofs.claims.member_range.Goals as goal

pub returns : goal.returns
returns c = λ item read. member_lies item (option_map placed c.member.result) c.bytes_range.result (c.member.ensures item read) c.bytes_range.ensures.value c.bytes_range.ensures.inside
