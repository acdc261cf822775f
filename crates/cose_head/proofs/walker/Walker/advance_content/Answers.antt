use Rattle.std.proofs.Common.{◌≡◌, ◌-◌, length, sym, ap, ◌∙◌, arith}
use Rattle.cose_head.specs.Walking.{ends, walk_content, finish}
use Rattle.cose_head.specs.Walker.{left_at, resume}
use Rattle.cose_head.proofs.lemmas.Walker.WalkSteps.{walk_content-none, go_on-content, waits-content, piece_taken}
use Rattle.cose_head.proofs.lemmas.Walker.WalkerSteps.{leads_same, passed}
use Rattle.cose_head.proofs.walker.Walker.advance_content.Goals as goal

pub returns-then-self-gt0-clause-leads : goal.returns-then-self-gt0-clause-leads
unfolding resume
returns-then-self-gt0-clause-leads g c =
    let now = c.args.self.now in
    let then = c.pass_over.new.self in
    let no_half : length then.half.items ≡ 0 = then.one_part c.if-self-gt0.true in
    λ piece is. (
      λ bytes. piece_taken g.row.D c.args.count now.counts.items now.half.items now.string now.room now.place piece bytes is c.requires.some c.requires.fits
          ∙ passed (λ counts l. finish g.row.D counts (walk_content (now.string - c.args.count) l)) _ then c.args.count c.pass_over.ensures bytes
          ∙ ap (λ n. finish g.row.D then.counts.items (walk_content n (left_at then bytes))) (sym c.pass_over.ensures.string)
          ∙ sym (go_on-content g.row.D then.counts.items then.half.items then.string (left_at then bytes) c.if-self-gt0.true),
      (
        waits-content g.row.D then.counts.items then.half.items then.string then.room then.place c.if-self-gt0.true no_half,
        omega (arith, then.fits),
      ),
    )

pub returns-clause-leads : goal.returns-clause-leads
unfolding resume
returns-clause-leads g c =
    let now = c.args.self.now in
    let then = c.pass_over.new.self in
    let last : now.string - c.args.count ≡ 0 = omega (arith, c.pass_over.ensures.string) in
    λ piece is. leads_same _ (λ bytes. finish g.row.D then.counts.items (ends (left_at then bytes))) c.end_item.result c.end_item.new.self
    (λ bytes. piece_taken g.row.D c.args.count now.counts.items now.half.items now.string now.room now.place piece bytes is c.requires.some c.requires.fits
    ∙ passed (λ counts l. finish g.row.D counts (walk_content (now.string - c.args.count) l)) _ then c.args.count c.pass_over.ensures bytes
    ∙ ap (finish g.row.D then.counts.items) (walk_content-none (now.string - c.args.count) (left_at then bytes) last))
    c.end_item.ensures.leads
