-- The message that is made, piece by piece.
use Rattle.std.proofs.Common.{◌≡◌, ◌==◌, ℕ, List, ◌++◌, length, Option, None, Some, refl, ap, append_assoc, append-nil, IsTrue}
use Rattle.std.proofs.lemmas.Bool.{eqb-true}
use Rattle.cose_head.specs.Algorithm.{is_mac_of}
use Rattle.cose_head.specs.Head.{shortest_head}
use Rattle.cose_head.specs.Shortest.{shortest, shortest_all}
use Rattle.cose_head.specs.declared.algorithm.Alg.{Alg}
use Rattle.cose_head.specs.declared.kind.Kind.TheVariants.{Sign1}
use Rattle.cose_head.proofs.lemmas.Algorithms.{each_mac}
use Rattle.cose_mac.specs.Structure.{encoded_string}
use Rattle.cose_msg.specs.Signing.{signed}
use Rattle.cose_msg.specs.Writes.{front_of, front_under}
use Rattle.cose_msg.specs.Making.{auth_made, made, protected_made, unprotected_made}

-- The unprotected header: an empty map, or one pair.
pub unprotected_none : shortest (unprotected_made None) ≡ shortest_head 5 0
unfolding shortest shortest_all
unprotected_none = append-nil (shortest_head 5 0)

pub unprotected_some : (kid : List ℕ) → shortest (unprotected_made (Some kid)) ≡ shortest_head 5 1 ++ (shortest_head 0 4 ++ encoded_string 2 kid)
unfolding shortest shortest_all
unprotected_some kid = ap (λ (t : List ℕ). shortest_head 5 1 ++ (shortest_head 0 4 ++ t)) (append-nil (encoded_string 2 kid))

-- The protected header has three bytes.
pub protected_bytes : (alg : Alg) → IsTrue (is_mac_of alg) → length (protected_made alg) ≡ 3
unfolding shortest shortest_all shortest_head
protected_bytes alg is_mac = eqb-true _ _ (each_mac (λ a. length (protected_made a) == 3) refl alg is_mac)

-- What precedes the payload's content, the payload, and the tag.
pub in_parts : (alg : Alg) (secret : List ℕ) (kid : Option (List ℕ)) (aad payload : List ℕ) →
    made alg secret kid aad payload ≡ front_of (protected_made alg) kid (length payload) ++ (payload ++ encoded_string 2 (auth_made alg secret aad payload))
unfolding made shortest shortest_all
in_parts alg secret kid aad payload = simp (append_assoc, append-nil)

pub signed_in_parts : (alg : Alg) (kid : Option (List ℕ)) (payload signature : List ℕ) →
    signed alg kid payload signature ≡ front_under Sign1 (protected_made alg) kid (length payload) ++ (payload ++ encoded_string 2 signature)
unfolding signed shortest shortest_all
signed_in_parts alg kid payload signature = simp (append_assoc, append-nil)
