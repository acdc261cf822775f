use Rattle.std.proofs.Common.{◌≡◌, ◌∙◌, arith}
use Rattle.cose_head.proofs.lemmas.Reading.ByHeads.{one_to_come, none_to_come, head_taken, head_fits, has_head, item_taken}
use Rattle.cose_head.proofs.item_length.item_length.Goals as goal

pub heads-init : goal.heads-init
heads-init c = record { there = omega arith; exact = one_to_come c.args.bytes.now }

pub split_at-requires : goal.split_at-requires
split_at-requires c = c.heads.invariant.there

pub heads-preserved-then-short-gt0 : goal.heads-preserved-then-short-gt0
heads-preserved-then-short-gt0 c = record {
  there = omega (arith, c.heads.invariant.there, c.split_at.ensures.back_len, c.short_item-short.ensures.there);
  exact = λ content n there s.
      item_taken c.args.bytes.now c.split_at.result.1.now c.heads.used c.heads.left c.split_at.ensures.back c.heads-test.true c.short_item-short.result n
      (λ depth place. c.short_item-short.ensures.exact depth place c.if-short-gt0.true) (c.heads.invariant.exact content n there s);
}

pub returns-then-own-items-clause-exact : goal.returns-then-own-items-clause-exact
returns-then-own-items-clause-exact c content n there s =
    let fits = head_fits c.args.bytes.now c.split_at.result.1.now c.heads.used c.heads.left c.split_at.ensures.back c.heads-test.true c.in-Got.head
    c.in-Got.width c.from.result c.children_after.result n c.in-Got.ensures.answer (c.from.ensures ∙ c.string_length.ensures) c.children_after.ensures
    (c.heads.invariant.exact content n there s) there in
    absurd (omega (arith, c.if-own-items.true))

pub heads-smaller : goal.heads-smaller
heads-smaller c = omega (arith, c.split_at.ensures.back_len, c.if-own-items.false, c.in-Got.ensures.some_used)

pub heads-preserved : goal.heads-preserved
heads-preserved c = record {
  there = omega (arith, c.heads.invariant.there, c.split_at.ensures.back_len, c.if-own-items.false);
  exact = λ content n there s.
      head_taken c.args.bytes.now c.split_at.result.1.now c.heads.used c.heads.left c.split_at.ensures.back c.heads-test.true c.in-Got.head
      c.in-Got.width c.from.result c.children_after.result n c.in-Got.ensures.answer (c.from.ensures ∙ c.string_length.ensures) c.children_after.ensures
      (c.heads.invariant.exact content n there s);
}

pub returns-in-More : goal.returns-in-More
returns-in-More c = record {
  there = c.heads.invariant.there;
  exact = λ content n there s.
      absurd (has_head c.args.bytes.now c.split_at.result.1.now c.heads.used c.heads.left c.split_at.ensures.back c.heads-test.true
      c.parse_head.result n c.parse_head.ensures.answer c.in-More.is (c.heads.invariant.exact content n there s));
}

pub returns-clause-there : goal.returns-clause-there
returns-clause-there c = c.heads.invariant.there

pub returns-clause-exact : goal.returns-clause-exact
returns-clause-exact c content n there s =
    let none : c.heads.left ≡ 0 = omega (arith, c.heads-test.false) in
    none_to_come c.args.bytes.now c.heads.used n (rw none at (c.heads.invariant.exact content n there s))
