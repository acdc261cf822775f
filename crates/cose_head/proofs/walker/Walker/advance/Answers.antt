use Rattle.std.proofs.Common.{◌≡◌, ◌∷◌, ◌++◌, [], List, ℕ, refl, ap, ◌∙◌, arith}
use Rattle.cose_head.specs.Walking.{Walk}
use Rattle.cose_head.specs.Walker.{left_at, go_on, resume}
use Rattle.std.proofs.lemmas.Result.{err_from_is_err_and}
use Rattle.cose_head.proofs.lemmas.Walker.WalkSteps.{go_on-half, waits-half, refused-half}
use Rattle.cose_head.proofs.lemmas.Walker.WalkerSteps.{leads_same}
use Rattle.cose_head.proofs.walker.Walker.advance.Goals as goal

pub returns-in_err-head-clause-leads : goal.returns-in_err-head-clause-leads
unfolding resume
returns-in_err-head-clause-leads g c =
    let now = c.args.self.now in
    let none : now.string ≡ 0 = omega arith in
    let fault = c.in_err-head.ensures.head in
    let p = err_from_is_err_and c.from_residual.result c.from_residual.ensures.1 in
    rw (p.1, p.2) (
      fault.0,
      λ bytes. ap (λ (w : Walk). w.end) (go_on-half g.row.D now.counts.items now.half.items now.string c.args.byte now.room now.place bytes none)
          ∙ refused-half g.row.D now.counts.items (now.half.items ++ c.args.byte ∷ []) now.string now.room now.place c.in_err-head.field-0.0 none fault.1 bytes,
    )

pub returns-in-Some-clause-leads : goal.returns-in-Some-clause-leads
unfolding resume
returns-in-Some-clause-leads g c =
    let now = c.args.self.now in
    let none : now.string ≡ 0 = omega arith in
    let first = now.half.items ++ c.args.byte ∷ [] in
    let whole = rw c.in-Some.is at c.in_ok-head.ensures.head in
    leads_same _ (λ bytes. go_on g.row.D now.counts.items first 0 (left_at now bytes)) c.begin.result c.begin.new.self
    (λ bytes. go_on-half g.row.D now.counts.items now.half.items now.string c.args.byte now.room now.place bytes none
    ∙ ap (λ n. go_on g.row.D now.counts.items first n (left_at now bytes)) none)
    (c.begin.ensures.leads first (whole.2 now.place))

pub returns-in-None-clause-leads : goal.returns-in-None-clause-leads
unfolding resume
returns-in-None-clause-leads g c =
    let now = c.args.self.now in
    let then : List ℕ = c.take_head_byte.new.half.items in
    let none : now.string ≡ 0 = omega arith in
    let waits = rw c.in-None.is at c.in_ok-head.ensures.head in
    let half : then ≡ now.half.items ++ c.args.byte ∷ [] = rw c.in-None.is at c.in_ok-head.ensures.kept in
    rw half (
      λ bytes. go_on-half g.row.D now.counts.items now.half.items now.string c.args.byte now.room now.place bytes none,
      (waits-half g.row.D now.counts.items (now.half.items ++ c.args.byte ∷ []) now.string now.room now.place none waits.2, waits.1),
    )

pub returns-then-self-gt0-clause-leads : goal.returns-then-self-gt0-clause-leads
returns-then-self-gt0-clause-leads g c = c.advance_content.ensures.leads (c.args.byte ∷ []) refl
