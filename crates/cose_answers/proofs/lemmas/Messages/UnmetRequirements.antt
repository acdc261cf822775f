-- The line of a claim that is absent.
use Rattle.std.proofs.Common.{◌≡◌, ℕ, List, arith, length, nat_lt, refl}
use Rattle.std.proofs.lemmas.Grind.{common_steps}
use Rattle.std.specs.Prelude.{Bool, true, ◌&&◌, slice_index}
use Rattle.std.specs.Str.{IsCharBoundary}
use Rattle.cose_cwt.specs.declared.requirements.Claim.{Claim}
use Rattle.cose_cwt.proofs.ClaimNames.{each_claim}
use Rattle.cose_cwt.specs.Requirements.{name_of}

-- The name of a claim is longer than a letter, and a character begins after its first byte.
abbrev begins_with_letter : Claim → Bool
begins_with_letter claim = nat_lt 1 (length (name_of claim)) && nat_lt (slice_index (name_of claim) 1) 128

boundary : (name : List ℕ) → (nat_lt 1 (length name) && nat_lt (slice_index name 1) 128) ≡ true → IsCharBoundary name 1
boundary name e = grind (arith, common_steps)

pub first_letter : (claim : Claim) (name : List ℕ) → name ≡ name_of claim → IsCharBoundary name 1
first_letter claim name is = rw is (boundary (name_of claim) (each_claim begins_with_letter refl claim))
