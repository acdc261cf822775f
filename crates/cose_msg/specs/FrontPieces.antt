-- What precedes the payload's content in the structure that is authenticated (RFC 9052 sections 6.3 and 4.4), in pieces.
use Rattle.std.specs.Prelude.{ℕ, zero, suc, List, [], ◌∷◌, ◌++◌}
use Rattle.cose_head.specs.Head.{shortest_head}
use Rattle.cose_head.specs.declared.kind.Kind.{Kind}
use Rattle.cose_mac.specs.Structure.{context_of, encoded_string}
use Rattle.cose_msg.specs.declared.front_pieces.FrontPieces.{FrontPieces}

-- In this order: the head of the array with the context; the protected header and the external data, each after its head; and the
-- payload's head.
abbrev pub pieces_of : FrontPieces → List (List ℕ)
pieces_of front = front.context.now ∷ front.protected_head.items ∷ front.protected.now ∷ front.aad_head.items ∷ front.aad.now ∷ front.payload_head.items ∷ []

-- The piece of this number, and no bytes where there is none.
abbrev pub piece_at : ℕ → List (List ℕ) → List ℕ
piece_at n [] = []
piece_at zero (piece ∷ pieces) = piece
piece_at (suc n) (piece ∷ pieces) = piece_at n pieces

-- The head of the array of four, and the context.
abbrev pub context_front : Kind → List ℕ
context_front kind = shortest_head 4 4 ++ encoded_string 3 (context_of kind)
