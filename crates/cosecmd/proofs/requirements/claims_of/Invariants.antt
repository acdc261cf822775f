-- The claims so far, and those of the names that are left, are those of all names.
use Rattle.std.proofs.Common.{◌≡◌, ◌++◌, drop, option_map}
use Rattle.std.specs.Prelude.{map}
use Rattle.cosecmd.specs.Requirements.{claims_named}
use Rattle.cosecmd.proofs.requirements.claims_of.Given as goal

abbrev pub invariant-names : goal.invariant-names
invariant-names l =
    option_map (λ others. l.claims.items ++ others) (claims_named (map (λ name. name.now) (drop l.name-index l.names))) ≡ claims_named (map (λ name. name.now) l.names)
