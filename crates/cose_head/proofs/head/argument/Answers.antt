use Rattle.std.proofs.Common.{◌≡◌, ◌∙◌, length, arith}
use Rattle.cose_head.proofs.lemmas.Head.Arguments.{eight_byte_argument}
use Rattle.cose_head.proofs.head.argument.Goals as goal

pub returns-in-len8 : goal.returns-in-len8
returns-in-len8 c =
    let eight : length c.args.bytes.now ≡ 8 = omega arith in
    c.from_be_bytes-in-len8.ensures ∙ eight_byte_argument c.args.low c.args.bytes.now eight c.requires
