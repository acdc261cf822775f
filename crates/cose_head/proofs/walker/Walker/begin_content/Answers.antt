use Rattle.std.proofs.Common.{◌<◌, sym, ap, arith}
use Rattle.cose_head.specs.Walking.{ends, finish}
use Rattle.cose_head.specs.Walker.{left_at, resume}
use Rattle.cose_head.proofs.lemmas.Walker.WalkerSteps.{leads_same}
use Rattle.cose_head.proofs.lemmas.Walker.WalkSteps.{walk_content-none, go_on-content, waits-content}
use Rattle.cose_head.proofs.walker.Walker.begin_content.Goals as goal

pub returns-then-count-eq0-clause-leads : goal.returns-then-count-eq0-clause-leads
returns-then-count-eq0-clause-leads g c =
    let now = c.args.self.now in
    leads_same _ (λ bytes. finish g.row.D now.counts.items (ends (left_at now bytes))) c.end_item.result c.end_item.new.self
    (λ bytes. ap (finish g.row.D now.counts.items) (walk_content-none c.args.count (left_at now bytes) c.if-count-eq0.true))
    c.end_item.ensures.leads

pub returns-clause-leads : goal.returns-clause-leads
unfolding resume
returns-clause-leads g c =
    let now = c.args.self.now in
    let some : 0 < c.args.count = omega arith in (
      λ bytes. sym (go_on-content g.row.D now.counts.items now.half.items c.args.count (left_at now bytes) some),
      (
        waits-content g.row.D now.counts.items now.half.items c.args.count now.room now.place some c.requires.half,
        omega arith,
      ),
    )
