-- What a test says of every registered claim: it is computed over `registered`, and a lemma about all claims needs no case for each.
use Rattle.std.proofs.Common.{◌≡◌, Bool, true, Some, arith}
use Rattle.std.proofs.lemmas.Grind.{common_steps}
use Rattle.std.specs.List.{list_all}
use Rattle.cose_cwt.specs.declared.requirements.Claim.{Claim}
use Rattle.cose_cwt.specs.Requirements.{claim_named, name_of, registered}

pub each_claim : (test : Claim → Bool) → list_all test registered ≡ true → (claim : Claim) → test claim ≡ true
each_claim test all claim = grind (arith, common_steps)

pub named : (claim : Claim) → claim_named (name_of claim) ≡ Some claim
named claim = grind (arith, common_steps)
