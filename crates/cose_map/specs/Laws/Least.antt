-- The properties of the least of several faults, by the order of precedence.
use Rattle.std.specs.Prelude.{◌≡◌, ◌↔◌, false, List, [], Some, None}
use Rattle.std.specs.List.{AllByRecursion, Contains}
use Rattle.cose_head.specs.declared.refusal.Refusal.{Refusal}
use Rattle.cose_map.specs.Bucket.Both.{goes_before, least}

-- There is none exactly where there is no fault.
abbrev pub NoLeastOfNone : Type 0
NoLeastOfNone = (faults : List Refusal) → least faults ≡ None ↔ faults ≡ []

-- It is one of them.
abbrev pub LeastIsAmong : Type 0
LeastIsAmong = (faults : List Refusal) (fault : Refusal) → least faults ≡ Some fault → Contains faults fault

-- None of them has precedence over it.
abbrev pub NoneBeforeLeast : Type 0
NoneBeforeLeast = (faults : List Refusal) (fault : Refusal) → least faults ≡ Some fault →
    AllByRecursion (λ other. goes_before other fault ≡ false) faults
