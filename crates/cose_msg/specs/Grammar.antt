-- A message by the grammar of items (RFC 9052 sections 2, 4.2 and 6.2, RFC 8392 section 6): its parts, each with its spelling.
use Rattle.std.specs.Prelude.{◌≡◌, ℕ, ◌+◌, ◌-◌, ◌≤◌, List, ◌++◌, length, take, Bool, true, false, None, Ok, ⊤}
use Rattle.cose_head.specs.declared.kind.Kind.{Kind}
use Rattle.cose_head.specs.declared.kind.Kind.TheVariants as kinds
use Rattle.cose_head.specs.Item.{Item, byte_string, simple, array, tag, no_items, item, depth_of, Spells, IsHead, Begins}
use Rattle.cose_map.specs.Bucket.{bucket_of}
use Rattle.cose_map.specs.Bucket.Both.{pair_fault}
use Rattle.cose_msg.specs.declared.context.Wanted.{Wanted}
use Rattle.cose_msg.specs.declared.context.Wanted.TheVariants as wants
use Rattle.cose_msg.specs.Answer.{Whole}
use Rattle.cose_msg.specs.Front.{wants_kind}
use Rattle.cose_msg.specs.Phases.{is_too_long, placed_at}
use Rattle.cose_msg.specs.Rules.{Rules}
use Rattle.cose_msg.specs.Source.{Source, attached, detached}

-- The tag of a kind (RFC 9052 section 2, table 1).
abbrev pub tag_number : Kind → ℕ
tag_number kinds.Mac0 = 17
tag_number kinds.Sign1 = 18

-- The kind that a message without a tag is of.
abbrev pub is_untagged : Wanted → Kind → Bool
is_untagged wants.Mac0 kinds.Mac0 = true
is_untagged wants.Sign1 kinds.Sign1 = true
is_untagged wanted kind = false

-- What precedes the four elements: the head of their array, without a tag, or after the message's own, or after that of
-- a CWT and the message's own.
abbrev pub IsArrayOfFour : List ℕ → Type 0
IsArrayOfFour bytes = IsHead bytes 4 4

pub data IsFront (rules : Rules) (kind : Kind) (front : List ℕ) : Type 0 where
  untagged : is_untagged rules.wanted kind ≡ true → IsArrayOfFour front → IsFront rules kind front
  tagged : wants_kind rules.wanted kind ≡ true → Begins front 6 (tag_number kind) IsArrayOfFour → IsFront rules kind front
  in_cwt : rules.cwt ≡ true → wants_kind rules.wanted kind ≡ true →
      Begins front 6 61 (λ rest. Begins rest 6 (tag_number kind) IsArrayOfFour) → IsFront rules kind front

-- The spellings of a message's front and of its four elements.
pub record Spellings : Type 0 where
  pub front : List ℕ
  pub protected : List ℕ
  pub unprotected : List ℕ
  pub payload : List ℕ
  pub auth : List ℕ

abbrev pub spelling : Spellings → List ℕ
spelling s = s.front ++ (s.protected ++ (s.unprotected ++ (s.payload ++ s.auth)))

-- Where the elements begin. The content of the protected bucket ends where the unprotected bucket begins.
abbrev pub protected_at : Spellings → ℕ
protected_at s = length s.front

abbrev pub unprotected_at : Spellings → ℕ
unprotected_at s = protected_at s + length s.protected

abbrev pub payload_at : Spellings → ℕ
payload_at s = unprotected_at s + length s.unprotected

abbrev pub auth_at : Spellings → ℕ
auth_at s = payload_at s + length s.payload

-- The payload's element: its bytes, or nil where the payload is detached.
abbrev pub payload_element : Source → List ℕ → Item
payload_element attached payload = byte_string payload
payload_element (detached came detached_length) payload = simple 22

-- A detached payload is the first bytes that have come, as many as are stated.
abbrev pub HasCome : Source → List ℕ → Type 0
HasCome attached payload = ⊤
HasCome (detached came detached_length) payload = (detached_length ≤ length came) × (payload ≡ take detached_length came)

-- The bytes are a message by these rules, and it has these parts: an array of two header buckets, a payload, and a tag or
-- signature, each within its limits; both buckets are good, alone and together, and there is the key that is asked for.
pub record IsMessage (rules : Rules) (bytes : List ℕ) (whole : Whole) : Type 0 where
  pub spelled : Spellings
  pub is : bytes ≡ spelling spelled
  pub front : IsFront rules whole.headers.kind spelled.front
  pub protected : Spells spelled.protected (byte_string whole.headers.protected)
  pub protected_fits : length whole.headers.protected ≤ rules.room
  pub protected_read : bucket_of rules.nesting (placed_at (unprotected_at spelled - length whole.headers.protected) whole.headers.protected) ≡ Ok whole.headers.protected_pairs
  pub bucket : Item
  pub unprotected : Spells spelled.unprotected bucket
  pub unprotected_fits : length spelled.unprotected ≤ rules.room
  pub unprotected_nests : depth_of bucket ≤ rules.nesting
  pub unprotected_read : bucket_of rules.nesting (placed_at (unprotected_at spelled) spelled.unprotected) ≡ Ok whole.headers.unprotected_pairs
  pub together : pair_fault whole.headers.protected_pairs whole.headers.unprotected_pairs rules.understood (payload_at spelled) ≡ None
  pub chosen : rules.choice whole.headers ≡ Ok whole.chosen
  pub payload : Spells spelled.payload (payload_element rules.source whole.payload)
  pub payload_comes : HasCome rules.source whole.payload
  pub payload_fits : is_too_long rules.payload_limit (length whole.payload) ≡ false
  pub auth : Spells spelled.auth (byte_string whole.auth)
  pub auth_fits : rules.auth_fits whole.chosen (length whole.auth) ≡ true
  pub auth_place : whole.auth_at ≡ auth_at spelled
  pub ends : whole.taken ≡ length bytes

-- As one item of the grammar: an array of four, perhaps in the message's tag, and that perhaps in the tag of a CWT. Bytes are
-- at most one such array (GrammarLaws.antt).
abbrev pub four_elements : List ℕ → Item → Item → List ℕ → Item
four_elements protected unprotected payload auth =
    array (item (byte_string protected) (item unprotected (item payload (item (byte_string auth) no_items))))

pub data SpellsMessage (bytes : List ℕ) (kind : Kind) (elements : Item) : Type 0 where
  bare : Spells bytes elements → SpellsMessage bytes kind elements
  in_tag : Spells bytes (tag (tag_number kind) elements) → SpellsMessage bytes kind elements
  in_cwt_tag : Spells bytes (tag 61 (tag (tag_number kind) elements)) → SpellsMessage bytes kind elements
