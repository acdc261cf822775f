use Rattle.cose_map.specs.Map.Labels as spec
use Rattle.std.proofs.Common.{subst, map, Some}
use Rattle.cose_map.specs.Label.View.{label_value}
use Rattle.cose_map.proofs.lemmas.Map.Labels.Others.{removed_at}
use Rattle.cose_map.proofs.map.labels.others.Others.remove.Goals as goal

pub invariant_of-self : goal.invariant_of-self
invariant_of-self c =
    let labels = c.args.self.now.labels.items in
    let name = label_value c.args.name.now in
    let place : spec.IsFirst name (map (λ other. label_value other.label) labels) (Some c.in-Some.index) = subst (λ l. spec.IsFirst name (map (λ other. label_value other.label) l) (Some c.in-Some.index)) c.as_slice.ensures.value c.in-Some.ensures in
    record { distinct = (removed_at (λ other. label_value other.label) name labels _ c.in-Some.index place c.args.self.now.distinct c.remove.ensures.items).0 }

pub returns-in-Some-clause-removed : goal.returns-in-Some-clause-removed
returns-in-Some-clause-removed c =
    let labels = c.args.self.now.labels.items in
    let name = label_value c.args.name.now in
    let place : spec.IsFirst name (map (λ other. label_value other.label) labels) (Some c.in-Some.index) = subst (λ l. spec.IsFirst name (map (λ other. label_value other.label) l) (Some c.in-Some.index)) c.as_slice.ensures.value c.in-Some.ensures in
    (removed_at (λ other. label_value other.label) name labels _ c.in-Some.index place c.args.self.now.distinct c.remove.ensures.items).1
