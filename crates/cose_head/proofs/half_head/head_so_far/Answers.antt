use Rattle.std.proofs.Common.{◌≡◌, ◌<◌, [], ◌∷◌, ◌++◌, length, sym, ap, arith}
use Rattle.std.proofs.lemmas.List.{length-append}
use Rattle.cose_head.proofs.lemmas.Head.HalfHead.{head-got, head-more, head-past_room, head-one_more, head-fault, more_is_half, half_wants}
use Rattle.cose_head.proofs.half_head.head_so_far.Goals as goal

pub returns-then-room-first : goal.returns-then-room-first
returns-then-room-first c =
    let past : c.args.room < length (c.requires.0 ++ c.requires.1 ∷ []) = rw c.requires.2 at c.if-room-first.true in
    (λ t. cc, λ place bytes. rw c.requires.2 (head-one_more c.requires.0 c.requires.1 c.args.room c.requires.3 c.requires.4 past place bytes))

pub returns-then-room-first-2 : goal.returns-then-room-first-2
returns-then-room-first-2 c =
    (λ t. cc, head-past_room c.args.first.now c.args.room c.in-More.wanted (sym c.in-More.ensures.answer) c.if-room-first.false c.if-room-first-2.true)

pub returns-in-Got : goal.returns-in-Got
returns-in-Got c =
    let all : c.in-Got.field-1 ≡ length c.args.first.now = c.in-Got.ensures.last c.requires.0 c.requires.1 c.requires.2 (half_wants c.requires.0 c.requires.3) in
    let is = head-got c.args.first.now c.args.room c.in-Got.head c.in-Got.field-1 (sym c.in-Got.ensures.answer) all c.if-room-first.false in
    (is.0, omega arith, is.1)

pub returns-else-room-first-2 : goal.returns-else-room-first-2
returns-else-room-first-2 c =
    let wanted = c.in-More.ensures.some_wanted in
    let some : length c.args.first.now < c.args.room = omega arith in
    (more_is_half c.args.first.now c.in-More.wanted (sym c.in-More.ensures.answer), some, head-more c.args.first.now c.args.room c.in-More.wanted (sym c.in-More.ensures.answer) (omega arith))

pub returns-in-Fault : goal.returns-in-Fault
returns-in-Fault c =
    let total = ap length c.requires.2 in
    let sum = length-append c.requires.0 (c.requires.1 ∷ []) in
    head-fault c.args.first.now c.args.room c.in-Fault.reason (omega arith) (sym c.in-Fault.ensures.answer) c.if-room-first.false
