-- The bytes that are authenticated (RFC 9052 sections 6.3, 4.4 and 9).
use Rattle.std.specs.Prelude.{ℕ, List, ◌++◌, length, codes}
use Rattle.cose_head.specs.Head.{shortest_head}
use Rattle.cose_head.specs.Item.{Item, byte_string, text_string, array, no_items, item}
use Rattle.cose_head.specs.Shortest.{shortest}
use Rattle.cose_head.specs.declared.kind.Kind.{Kind}
use Rattle.cose_head.specs.declared.kind.Kind.TheVariants.{Mac0, Sign1}

-- an array of four: the context, the protected header parameters, the external data and the payload
abbrev pub array_of_four : List ℕ → List ℕ → List ℕ → List ℕ → Item
array_of_four context protected aad payload = array (
    item (text_string context) (
    item (byte_string protected) (
    item (byte_string aad) (
    item (byte_string payload) no_items))))

-- MAC_structure (section 6.3)
unfoldable pub mac_structure : List ℕ → List ℕ → List ℕ → List ℕ
mac_structure protected aad payload = shortest (array_of_four (codes "MAC0") protected aad payload)

-- Sig_structure (section 4.4)
unfoldable pub sig_structure : List ℕ → List ℕ → List ℕ → List ℕ
sig_structure protected aad payload = shortest (array_of_four (codes "Signature1") protected aad payload)

-- the structure of a message of this kind
abbrev pub structure_of : Kind → List ℕ → List ℕ → List ℕ → List ℕ
structure_of Mac0 = mac_structure
structure_of Sign1 = sig_structure

abbrev pub context_of : Kind → List ℕ
context_of Mac0 = codes "MAC0"
context_of Sign1 = codes "Signature1"

-- a string of this major type: its shortest head, and its content
abbrev pub encoded_string : ℕ → List ℕ → List ℕ
encoded_string major content = shortest_head major (length content) ++ content

-- all bytes of the structure before those of a payload of this length
unfoldable pub structure_front : Kind → List ℕ → List ℕ → ℕ → List ℕ
structure_front kind protected aad payload_length =
    shortest_head 4 4
    ++ (encoded_string 3 (context_of kind)
    ++ (encoded_string 2 protected
    ++ (encoded_string 2 aad
    ++ shortest_head 2 payload_length)))
