use Rattle.std.proofs.Common.{◌+◌, ◌≤◌, ◌<◌, ◌%◌, slice_index_or, length, arith}
use Rattle.cose_head.proofs.lemmas.Reading.ItemSteps.{short_integer, short_string}
use Rattle.cose_head.proofs.item.short_item.Goals as goal

pub returns-then-initial-lt64-clause-exact : goal.returns-then-initial-lt64-clause-exact
returns-then-initial-lt64-clause-exact c depth place some =
    let roomy : 0 < c.args.room = omega (arith, c.if-room-eq0.false) in
    short_integer c.args.bytes.now depth c.args.room place c.in-len1-up.len_at_least c.if-initial-lt64.true c.if-initial-lt24.true roomy

pub returns-then-length-bytes-clause-exact : goal.returns-then-length-bytes-clause-exact
returns-then-length-bytes-clause-exact c depth place some =
    let low = slice_index_or c.args.bytes.now 0 0 % 32 in
    let fits : 1 + low ≤ c.args.room = omega (arith, c.from-length.ensures, c.if-length-room.true) in
    let whole : 1 + low ≤ length c.args.bytes.now = omega (arith, c.from-length.ensures, c.if-length-bytes.true) in
    rw (c.from-length.ensures)
    (short_string c.args.bytes.now depth c.args.room place c.in-len1-up.len_at_least c.if-initial-lt64.false c.if-initial-lt128.true
    c.if-initial-lt24.true fits whole)
