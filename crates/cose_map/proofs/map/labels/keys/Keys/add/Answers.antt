use Rattle.std.proofs.Common.{subst, Err}
use Rattle.cose_map.specs.Map.Labels as spec
use Rattle.cose_map.proofs.lemmas.Map.Labels.Keys.{inserted, still_rises}
use Rattle.cose_map.proofs.map.labels.keys.Keys.add.Goals as goal

pub invariant_of-self : goal.invariant_of-self
invariant_of-self c =
    let keys = c.args.self.now.sorted.items in
    let place : spec.IsPlace c.args.key keys (Err c.in-Err.index) = subst (λ l. spec.IsPlace c.args.key l (Err c.in-Err.index)) c.as_slice.ensures.value c.in-Err.ensures in
    record { rising = rw c.insert.ensures.items (still_rises c.args.key keys c.in-Err.index c.args.self.now.rising place.0 place.1 place.2) }

pub returns-in-Err : goal.returns-in-Err
returns-in-Err c = record { added = λ other. rw c.insert.ensures.items (inserted c.args.key c.args.self.now.sorted.items c.in-Err.index other) }
