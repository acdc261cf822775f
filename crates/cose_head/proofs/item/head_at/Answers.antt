use Rattle.std.proofs.Common.{◌≡◌, arith, length-take}
use Rattle.cose_head.proofs.lemmas.Head.Heads.{head_got, head_past, head_short, head_fault, got_width}
use Rattle.cose_head.proofs.item.head_at.Goals as goal

pub returns-in-Got-clause-exact : goal.returns-in-Got-clause-exact
returns-in-Got-clause-exact c =
    head_got c.args.bytes.now c.args.room c.args.place c.min.result c.in-Got.found c.in-Got.field-1 c.min.ensures c.in-Got.ensures.answer

pub returns-in-Got-clause-some : goal.returns-in-Got-clause-some
returns-in-Got-clause-some c =
    let wide : c.in-Got.field-1 ≡ c.in-Got.found.width = got_width _ _ _ c.in-Got.ensures.answer in
    omega (arith, c.in-Got.ensures.some_used)

pub returns-in-Got-clause-there : goal.returns-in-Got-clause-there
returns-in-Got-clause-there c =
    let seen = length-take c.min.result c.args.bytes.now in
    let wide : c.in-Got.field-1 ≡ c.in-Got.found.width = got_width _ _ _ c.in-Got.ensures.answer in
    omega (arith, c.in-Got.ensures.used_there)

pub returns-in-Got-clause-fits : goal.returns-in-Got-clause-fits
returns-in-Got-clause-fits c =
    let seen = length-take c.min.result c.args.bytes.now in
    let wide : c.in-Got.field-1 ≡ c.in-Got.found.width = got_width _ _ _ c.in-Got.ensures.answer in
    omega (arith, c.in-Got.ensures.used_there)

pub returns-in-More-clause-exact : goal.returns-in-More-clause-exact
returns-in-More-clause-exact c =
    rw c.refused.ensures (head_past c.args.bytes.now c.args.room c.args.place c.min.result c.in-More.wanted c.min.ensures
    c.in-More.ensures.answer c.if-wanted-room.true)

pub returns-in-More-2-clause-exact : goal.returns-in-More-2-clause-exact
returns-in-More-2-clause-exact c =
    rw c.refused-in-More-2.ensures (head_short c.args.bytes.now c.args.room c.args.place c.min.result c.in-More.wanted c.min.ensures
    c.in-More.ensures.answer c.if-wanted-room.false)

pub returns-in-Fault-clause-exact : goal.returns-in-Fault-clause-exact
returns-in-Fault-clause-exact c =
    rw c.refused-in-Fault.ensures (head_fault c.args.bytes.now c.args.room c.args.place c.min.result c.in-Fault.reason c.min.ensures
    c.in-Fault.ensures.answer)
