-- The pieces before a payload, joined.
use Rattle.std.proofs.Common.{◌≡◌, ◌≤◌, arith, ℕ, List, [], ◌∷◌, ◌++◌, length, ap, ◌∙◌, append_assoc, append-nil}
use Rattle.std.specs.List.{concat}
use Rattle.cose_head.specs.Head.{shortest_head}
use Rattle.cose_head.specs.declared.kind.Kind.{Kind}
use Rattle.cose_head.specs.declared.kind.Kind.TheVariants.{Mac0, Sign1}
use Rattle.cose_head.specs.Shortest.{shortest, shortest_all}
use Rattle.cose_mac.specs.Structure.{mac_structure, sig_structure, structure_front, structure_of}
use Rattle.cose_msg.specs.FrontPieces.{context_front}

pub pieces_joined : (kind : Kind) (protected aad : List ℕ) (n : ℕ) →
    concat (context_front kind ∷ shortest_head 2 (length protected) ∷ protected ∷ shortest_head 2 (length aad) ∷ aad ∷ shortest_head 2 n ∷ []) ≡ structure_front kind protected aad n
unfolding structure_front
pieces_joined kind protected aad n = simp (append_assoc, append-nil)

with_payload : (kind : Kind) (protected aad payload : List ℕ) → structure_front kind protected aad (length payload) ++ payload ≡ structure_of kind protected aad payload
unfolding structure_front mac_structure sig_structure shortest shortest_all
with_payload Mac0 protected aad payload = simp (append_assoc, append-nil)
with_payload Sign1 protected aad payload = simp (append_assoc, append-nil)

-- Any payload of that length completes them.
pub front_completed : (kind : Kind) (protected aad payload : List ℕ) (n : ℕ) → length payload ≡ n → structure_front kind protected aad n ++ payload ≡ structure_of kind protected aad payload
front_completed kind protected aad payload n count = rw (← count) (with_payload kind protected aad payload)

pub pieces_completed : (kind : Kind) (protected aad payload : List ℕ) (n : ℕ) → length payload ≡ n →
    concat (context_front kind ∷ shortest_head 2 (length protected) ∷ protected ∷ shortest_head 2 (length aad) ∷ aad ∷ shortest_head 2 n ∷ []) ++ payload ≡ structure_of kind protected aad payload
pieces_completed kind protected aad payload n count = ap (λ (front : List ℕ). front ++ payload) (pieces_joined kind protected aad n) ∙ front_completed kind protected aad payload n count

-- The context and the head of the array have 7 or 12 bytes.
pub short_context : (kind : Kind) → length (context_front kind) ≤ 12
unfolding shortest_head
short_context Mac0 = omega arith
short_context Sign1 = omega arith
