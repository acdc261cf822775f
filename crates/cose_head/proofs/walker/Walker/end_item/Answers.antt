use Rattle.std.proofs.Common.{arith, ◌∙◌, sym, ap}
use Rattle.cose_head.specs.Walking.{Walk}
use Rattle.cose_head.specs.Walker.{left_at, resume}
use Rattle.cose_head.proofs.lemmas.Walker.WalkSteps.{head-no_room, refused_head, go_on-begins, waits-begins}
use Rattle.cose_head.proofs.walker.Walker.end_item.Goals as goal

pub returns-clause-leads : goal.returns-clause-leads
returns-clause-leads g c = let now = c.args.self.now in (
  λ t. cc,
  λ bytes. ap (λ (w : Walk). w.end) (c.if-not-next_child.ensures (left_at now bytes))
      ∙ refused_head g.row.D _ c.next_child.new.counts.items (left_at now bytes) _ (head-no_room (left_at now bytes) (omega arith)),
)

pub returns-then-self-gt0-clause-leads : goal.returns-then-self-gt0-clause-leads
unfolding resume
returns-then-self-gt0-clause-leads g c = let now = c.args.self.now in (
  λ bytes. c.if-not-next_child.ensures (left_at now bytes)
      ∙ sym (go_on-begins g.row.D c.next_child.new.counts.items now.half.items now.string (left_at now bytes) c.requires.string c.requires.half),
  (
    waits-begins g.row.D c.next_child.new.counts.items now.half.items now.string now.room now.place c.requires.string c.requires.half (λ none. omega arith),
    omega arith,
  ),
)
