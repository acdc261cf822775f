use Rattle.std.proofs.Common.{subst, sym, Ok, Err}
use Rattle.cose_map.specs.Map.Labels as spec
use Rattle.cose_map.proofs.lemmas.Map.Labels.Keys.{rises_without, removed, not_in, placed_in}
use Rattle.cose_map.proofs.map.labels.keys.Keys.remove.Goals as goal

pub invariant_of-self : goal.invariant_of-self
invariant_of-self c = record { rising = rw c.remove.ensures.items (rises_without c.args.self.now.sorted.items c.in-Ok.index c.args.self.now.rising) }

pub returns-in-Ok-clause-removed : goal.returns-in-Ok-clause-removed
returns-in-Ok-clause-removed c = λ other.
    let keys = c.args.self.now.sorted.items in
    let place : spec.IsPlace c.args.key keys (Ok c.in-Ok.index) = subst (λ l. spec.IsPlace c.args.key l (Ok c.in-Ok.index)) c.as_slice.ensures.value c.in-Ok.ensures in
    rw c.remove.ensures.items (removed c.args.key other keys c.in-Ok.index c.args.self.now.rising place.0 place.1)

pub returns-in-Err-clause-was : goal.returns-in-Err-clause-was
returns-in-Err-clause-was c =
    let keys = c.args.self.now.sorted.items in
    placed_in c.args.key keys (Err c.in-Err.field-0) (subst (λ l. spec.IsPlace c.args.key l (Err c.in-Err.field-0)) c.as_slice.ensures.value c.in-Err.ensures)

pub returns-in-Err-clause-removed : goal.returns-in-Err-clause-removed
returns-in-Err-clause-removed c =
    let keys = c.args.self.now.sorted.items in
    not_in c.args.key keys (sym (placed_in c.args.key keys (Err c.in-Err.field-0) (subst (λ l. spec.IsPlace c.args.key l (Err c.in-Err.field-0)) c.as_slice.ensures.value c.in-Err.ensures)))
