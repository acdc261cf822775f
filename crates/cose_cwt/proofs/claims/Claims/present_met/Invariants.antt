-- The first that is absent of those that are left is the first of all.
use Rattle.std.proofs.Common.{◌≡◌, drop}
use Rattle.cose_cwt.specs.Claims.View.{claims_value}
use Rattle.cose_cwt.specs.Requirements.{absent_of, first_of}
use Rattle.cose_cwt.proofs.claims.Claims.present_met.Given as goal

abbrev pub invariant-present : goal.invariant-present
invariant-present l =
    first_of (absent_of (drop l.claim-index l.present) (claims_value l.self)) ≡ first_of (absent_of l.present (claims_value l.self))
