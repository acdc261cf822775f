use Rattle.std.proofs.Common.{◌-◌, ◌<◌, ◌≤◌, List, ℕ, length, ap, ◌∙◌, arith}
use Rattle.std.proofs.lemmas.Bool.Decides.{nat_tests}
use Rattle.cose_head.specs.Reading.{Left, child_count}
use Rattle.cose_head.specs.Walking.{ends, walk_all, walk_content, finish}
use Rattle.cose_head.specs.Walker.{left_at, Passes}
use Rattle.cose_head.proofs.lemmas.Walker.WalkSteps.{head-leaf, head-content, head-content_past, head-deep, head-children_past, head-children}
use Rattle.cose_head.proofs.lemmas.Walker.WalkerSteps.{leads_same, passed}
use Rattle.cose_head.proofs.walker.Walker.begin.Goals as goal

pub returns-then-length-room-clause-leads : goal.returns-then-length-room-clause-leads
returns-then-length-room-clause-leads g c = λ first is.
    let now = c.args.self.now in
    let past : now.room - c.args.head.width < c.args.head.arg = omega (arith, c.in-Content.ensures.1) in
    (λ t. cc, head-content_past g.row.D now.counts.items first now.room now.place c.args.head is c.in-Content.ensures.0 past)

pub returns-then-is_full-clause-leads : goal.returns-then-is_full-clause-leads
returns-then-is_full-clause-leads g c = λ first is.
    let now = c.args.self.now in
    let full : g.row.D ≤ length now.counts.items = grind (arith, nat_tests, c.if-is_full.ensures.value) in
    (λ t. cc, head-deep g.row.D now.counts.items first now.room now.place c.args.head is c.in-Children.ensures.0 c.in-Children.ensures.1 full)

pub returns-then-count-room-clause-leads : goal.returns-then-count-room-clause-leads
returns-then-count-room-clause-leads g c = λ first is.
    let now = c.args.self.now in
    let nests : length now.counts.items < g.row.D = grind (arith, nat_tests, c.if-is_full.ensures.value, c.if-is_full.ensures.fits) in
    let past : now.room - c.args.head.width < child_count c.args.head = omega (arith, c.in-Children.ensures.2) in
    (λ t. cc, head-children_past g.row.D now.counts.items first now.room now.place c.args.head is c.in-Children.ensures.0 c.in-Children.ensures.1 nests past)

pub returns-in-Nothing-clause-leads : goal.returns-in-Nothing-clause-leads
returns-in-Nothing-clause-leads g c = λ first is.
    let now = c.args.self.now in
    let then = c.pass_over.new.self in
    let moved : Passes now then c.args.head.width = rw c.from-width.ensures at c.pass_over.ensures in
    leads_same _ (λ bytes. finish g.row.D then.counts.items (ends (left_at then bytes))) c.end_item.result c.end_item.new.self
    (λ bytes. head-leaf g.row.D now.counts.items first now.room now.place c.args.head is c.in-Nothing.ensures.0 c.in-Nothing.ensures.1 bytes
    ∙ passed (λ counts l. finish g.row.D counts (ends l)) now then c.args.head.width moved bytes)
    c.end_item.ensures.leads

pub returns-else-length-room-clause-leads : goal.returns-else-length-room-clause-leads
returns-else-length-room-clause-leads g c = λ first is.
    let now = c.args.self.now in
    let fits : c.args.head.arg ≤ now.room - c.args.head.width = omega (arith, c.in-Content.ensures.1) in
    let then = c.pass_over-in-Content.new.self in
    let moved : Passes now then c.args.head.width = rw c.from-width.ensures at c.pass_over-in-Content.ensures in
    leads_same _ (λ bytes. finish g.row.D then.counts.items (walk_content c.in-Content.length (left_at then bytes)))
    c.begin_content.result c.begin_content.new.self
    (λ bytes. head-content g.row.D now.counts.items first now.room now.place c.args.head is c.in-Content.ensures.0 fits bytes
    ∙ passed (λ counts l. finish g.row.D counts (walk_content c.args.head.arg l)) now then c.args.head.width moved bytes
    ∙ ap (λ n. finish g.row.D then.counts.items (walk_content n (left_at then bytes))) c.in-Content.ensures.1)
    c.begin_content.ensures.leads

pub returns-else-count-room-clause-leads : goal.returns-else-count-room-clause-leads
returns-else-count-room-clause-leads g c = λ first is.
    let now = c.args.self.now in
    let nests : length now.counts.items < g.row.D = grind (arith, nat_tests, c.if-is_full.ensures.value, c.if-is_full.ensures.fits) in
    let fits : child_count c.args.head ≤ now.room - c.args.head.width = omega (arith, c.in-Children.ensures.2) in
    let then = c.pass_over-in-Children.new.self in
    let moved : Passes now then c.args.head.width = rw c.from-width.ensures at c.pass_over-in-Children.ensures in
    let children = λ (n : ℕ) (counts : List ℕ) (l : Left). finish g.row.D counts (walk_all (g.row.D - length counts - 1) n l) in
    leads_same _ (λ bytes. children c.in-Children.count then.counts.items (left_at then bytes))
    c.begin_children.result c.begin_children.new.self
    (λ bytes. head-children g.row.D now.counts.items first now.room now.place c.args.head is c.in-Children.ensures.0 c.in-Children.ensures.1 nests fits bytes
    ∙ passed (children (child_count c.args.head)) now then c.args.head.width moved bytes
    ∙ ap (λ n. children n then.counts.items (left_at then bytes)) c.in-Children.ensures.2)
    c.begin_children.ensures.leads
