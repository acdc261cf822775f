-- What is absent of the claims that are left is what is absent of all: none was before.
use Rattle.std.proofs.Common.{◌≡◌, drop}
use Rattle.std.specs.Prelude.{filter}
use Rattle.cose_cwt.specs.Claims.View.{claims_value}
use Rattle.cose_cwt.specs.Requirements.{absent_of, first_of, registered}
use Rattle.cose_c.specs.Required.{is_required, present_of}
use Rattle.cose_c.proofs.required.Required.present_met.Given as goal

abbrev pub invariant-claims : goal.invariant-claims
invariant-claims l =
    first_of (absent_of (filter (is_required l.self.present l.self.permitted) (drop l.claim-index registered)) (claims_value l.claims))
    ≡ first_of (absent_of (present_of l.self.present l.self.permitted) (claims_value l.claims))
