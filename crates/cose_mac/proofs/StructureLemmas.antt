-- The bytes of a structure before its payload, and the whole structure.
use Rattle.std.proofs.Common.{◌≡◌, List, ℕ, ◌++◌, length, append_assoc, append-nil}
use Rattle.cose_head.specs.Shortest.{shortest, shortest_all}
use Rattle.cose_head.specs.declared.kind.Kind.{Kind}
use Rattle.cose_head.specs.declared.kind.Kind.TheVariants.{Mac0, Sign1}
use Rattle.cose_mac.specs.Structure.{mac_structure, sig_structure, structure_of, structure_front}

pub front_with_payload : (kind : Kind) (protected aad payload : List ℕ) → structure_front kind protected aad (length payload) ++ payload ≡ structure_of kind protected aad payload
unfolding structure_front mac_structure sig_structure shortest shortest_all
front_with_payload Mac0 protected aad payload = simp (append_assoc, append-nil)
front_with_payload Sign1 protected aad payload = simp (append_assoc, append-nil)
