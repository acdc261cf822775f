use Rattle.std.proofs.Common.{◌≡◌, ◌∙◌, ap, ◌∷◌, ◌++◌, [], length, arith}
use Rattle.std.proofs.lemmas.List.{length-append}
use Rattle.cose_head.proofs.lemmas.Walker.Walking.{finish-taken_last, finish-taken_next, finish-taken_all}
use Rattle.cose_head.proofs.walker.next_child.Goals as goal

pub returns-then-left-gt0 : goal.returns-then-left-gt0
returns-then-left-gt0 g c = λ l. c.ended.invariant.1 l
    ∙ finish-taken_next g.row.D c.ended.counts.items c.pop.new.self.items c.push.new.self.items c.in-Some.left l c.in-Some.ensures.items c.if-left-gt0.true c.push.ensures.items

pub ended-preserved : goal.ended-preserved
ended-preserved g c =
    let none : c.in-Some.left ≡ 0 = omega arith in
    let last : c.ended.counts.items ≡ c.pop.new.self.items ++ 0 ∷ [] = rw none at c.in-Some.ensures.items in
    (let total = ap length last in let sum = length-append c.pop.new.self.items (0 ∷ []) in omega arith, λ l. c.ended.invariant.1 l ∙ finish-taken_last g.row.D c.ended.counts.items c.pop.new.self.items l last)

pub returns : goal.returns
returns g c = λ l. c.ended.invariant.1 l
    ∙ finish-taken_all g.row.D c.ended.counts.items l (λ some. let no_item = c.in_default.ensures.variant.1 some in cc)
