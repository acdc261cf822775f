-- The places of the faults of claims, never after the payload's bytes, and the tree of claims.
use Rattle.std.specs.Prelude.{◌≡◌, ◌≤◌, ℕ, List, length, Ok}
use Rattle.cose_head.specs.Placed.{Placed}
use Rattle.cose_head.specs.PlacedLaws.{end_of}
use Rattle.cose_map.specs.Laws.Inside.{RefusedBy}
use Rattle.cose_map.specs.Laws.Tree.{HasPairs}
use Rattle.cose_cwt.specs.Admission.{PolicyValue, admitted_claims}
use Rattle.cose_cwt.specs.Claims.{ClaimsValue, claims_of}
use Rattle.cose_cwt.specs.Confirmation.{confirmation_of}

abbrev pub ConfirmationIsRefusedInside : Type 0
ConfirmationIsRefusedInside = (p : Placed) → RefusedBy (end_of p) (confirmation_of p)

abbrev pub ClaimsAreRefusedInside : Type 0
ClaimsAreRefusedInside = (depth : ℕ) (p : Placed) → RefusedBy (end_of p) (claims_of depth p)

-- The same of admission.
abbrev pub AdmissionIsRefusedInside : Type 0
AdmissionIsRefusedInside = (depth : ℕ) (policy : PolicyValue) (payload : List ℕ) → RefusedBy (length payload) (admitted_claims depth policy payload)

-- The pairs of claims are the labels and values of the map that the payload spells (RFC 8949 section 3), in their order and none
-- left out.
abbrev pub ClaimsAreOfTree : Type 0
ClaimsAreOfTree = (depth : ℕ) (p : Placed) (claims : ClaimsValue) → depth ≤ 32 → claims_of depth p ≡ Ok claims → HasPairs depth p claims.pairs
