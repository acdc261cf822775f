-- Claims are the pairs of the map that the payload spells.
use Rattle.std.proofs.Common.{◌≡◌, ◌≤◌, ℕ, Bool, true, false, List, Option, Ok, Err, ap, if◌then◌else◌}
use Rattle.cose_head.specs.declared.reason.Reason.TheVariants.{NestedCwt}
use Rattle.cose_head.specs.Placed.{Placed, tag_in}
use Rattle.cose_head.specs.Whole.{whole}
use Rattle.cose_map.specs.Laws.Tree.{HasPairs, MapIsOfTree}
use Rattle.cose_map.specs.Map.Pairs.{Pair, value_of}
use Rattle.cose_map.specs.Map.Read.{Read, check_map, refuse, ◌>>=◌}
use Rattle.cose_cwt.specs.Claims.{ClaimsValue, claims_at, claims_of, claims_with, confirmation_at, is_token}
use Rattle.cose_cwt.specs.Claims.Form.{claims_table}
use Rattle.cose_cwt.specs.Claims.Labels.{cnf}
use Rattle.cose_cwt.specs.Confirmation.{CnfValue}

with_confirmation : (pairs : List Pair) (claims : ClaimsValue) (answer : Read (Option CnfValue)) → (answer >>= (λ confirmation. Ok (claims_with pairs confirmation))) ≡ Ok claims →
    pairs ≡ claims.pairs
with_confirmation pairs claims (Err refusal) e = absurd cc
with_confirmation pairs claims (Ok confirmation) e = let same : claims_with pairs confirmation ≡ claims = cc in ap (λ (c : ClaimsValue). c.pairs) same

of_pairs : (claims : ClaimsValue) (answer : Read (List Pair)) →
    (answer >>= (λ pairs. confirmation_at (value_of cnf pairs) >>= (λ confirmation. Ok (claims_with pairs confirmation)))) ≡ Ok claims → answer ≡ Ok claims.pairs
of_pairs claims (Err refusal) e = absurd cc
of_pairs claims (Ok pairs) e = ap Ok (with_confirmation pairs claims (confirmation_at (value_of cnf pairs)) e)

no_token : (claims : ClaimsValue) (item : Placed) (b : Bool) →
    ((if b then refuse NestedCwt item else Ok item) >>= (λ q. check_map claims_table q >>= (λ pairs. confirmation_at (value_of cnf pairs) >>= (λ confirmation. Ok (claims_with pairs confirmation))))) ≡ Ok claims →
    check_map claims_table item ≡ Ok claims.pairs
no_token claims item true e = absurd cc
no_token claims item false e = of_pairs claims (check_map claims_table item) e

of_item : (claims : ClaimsValue) (found : Read Placed) → (found >>= claims_at) ≡ Ok claims → (found >>= check_map claims_table) ≡ Ok claims.pairs
of_item claims (Err refusal) e = absurd cc
of_item claims (Ok item) e = no_token claims item (is_token (tag_in item)) e

pub claims_of_tree : MapIsOfTree → (depth : ℕ) (p : Placed) (claims : ClaimsValue) → depth ≤ 32 → claims_of depth p ≡ Ok claims → HasPairs depth p claims.pairs
unfolding claims_of
claims_of_tree maps depth p claims shallow e = maps claims_table depth p claims.pairs shallow (of_item claims (whole depth p) e)
