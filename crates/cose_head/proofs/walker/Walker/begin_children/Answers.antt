use Rattle.std.proofs.Common.{sym, ◌∙◌, ap}
use Rattle.cose_head.specs.Walking.{ends, finish}
use Rattle.cose_head.specs.Walker.{left_at}
use Rattle.cose_head.proofs.lemmas.Walker.WalkerSteps.{leads_same}
use Rattle.cose_head.proofs.lemmas.Walker.Walking.{finish-parent}
use Rattle.cose_head.proofs.walker.Walker.begin_children.Goals as goal

pub returns-clause-leads : goal.returns-clause-leads
returns-clause-leads g c =
    leads_same _ (λ bytes. finish g.row.D c.push.new.self.items (ends (left_at c.args.self.now bytes))) c.end_item.result c.end_item.new.self
    (λ bytes. sym (finish-parent g.row.D c.args.self.now.counts.items c.args.count (left_at c.args.self.now bytes))
    ∙ ap (λ counts. finish g.row.D counts (ends (left_at c.args.self.now bytes))) (sym c.push.ensures.items))
    c.end_item.ensures.leads
