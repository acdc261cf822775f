-- Laws of a message that the grammar spells: it is read as what it is, and is authentic where its authentication holds.
use Rattle.std.specs.Prelude.{◌≡◌, ◌↔◌, ℕ, ◌-◌, ◌≤◌, true, false, List, ◌++◌, length, None, Ok}
use Rattle.cose_head.specs.declared.kind.Kind.{Kind}
use Rattle.cose_head.specs.Item.{Item, byte_string, depth_of, Spells}
use Rattle.cose_head.specs.declared.algorithm.Alg.{Alg}
use Rattle.cose_map.specs.Bucket.{bucket_of}
use Rattle.cose_map.specs.Bucket.Both.{pair_fault}
use Rattle.cose_msg.specs.declared.verdict.Verdict.TheVariants.{Authentic}
use Rattle.cose_msg.specs.Answer.{Whole, decided}
use Rattle.cose_msg.specs.Authentic.{IsAuthentic}
use Rattle.cose_msg.specs.Front.{wants_kind}
use Rattle.cose_msg.specs.Grammar.{IsFront, IsMessage, Spellings, SpellsMessage, bare, in_tag, in_cwt_tag, is_untagged, payload_element, HasCome, four_elements, spelling, unprotected_at, payload_at, auth_at}
use Rattle.cose_msg.specs.Message.{Decides, Setting, message, verdict_of}
use Rattle.cose_msg.specs.Phases.{headers_so_far, is_too_long, placed_at}
use Rattle.cose_msg.specs.Reading.{settled}
use Rattle.cose_msg.specs.Rules.{Rules}

-- Whatever follows it, a message is read as its parts say, and settled.
abbrev pub MessageIsRead : Type 0
MessageIsRead = (rules : Rules) (bytes more : List ℕ) (whole : Whole) → IsMessage rules bytes whole →
    message rules (bytes ++ more) ≡ settled (headers_so_far whole.headers whole.payload) (rules.finish whole)

-- It is one item of the grammar: an array of these four elements, perhaps in its tags.
abbrev pub MessageIsArrayOfFour : Type 0
MessageIsArrayOfFour = (rules : Rules) (bytes : List ℕ) (whole : Whole) (m : IsMessage rules bytes whole) →
    SpellsMessage bytes whole.headers.kind (four_elements whole.headers.protected m.bucket (payload_element rules.source whole.payload) whole.auth)

-- Conversely: the tags of such an array are those that the rules allow ..
abbrev pub IsAllowed : {bytes : List ℕ} {kind : Kind} {elements : Item} → Rules → SpellsMessage bytes kind elements → Type 0
IsAllowed {bytes} {kind} {elements} rules (bare spelled) = is_untagged rules.wanted kind ≡ true
IsAllowed {bytes} {kind} {elements} rules (in_tag spelled) = wants_kind rules.wanted kind ≡ true
IsAllowed {bytes} {kind} {elements} rules (in_cwt_tag spelled) = (rules.cwt ≡ true) × (wants_kind rules.wanted kind ≡ true)

-- .. so the bytes are a front that is allowed and a spelling of each element ..
pub record AreParts (rules : Rules) (bytes : List ℕ) (whole : Whole) (bucket : Item) (spelled : Spellings) : Type 0 where
  pub is : bytes ≡ spelling spelled
  pub front : IsFront rules whole.headers.kind spelled.front
  pub protected : Spells spelled.protected (byte_string whole.headers.protected)
  pub unprotected : Spells spelled.unprotected bucket
  pub payload : Spells spelled.payload (payload_element rules.source whole.payload)
  pub auth : Spells spelled.auth (byte_string whole.auth)

-- .. and where each element is within its limits, both buckets are good, alone and together, and there is the key that is asked
-- for ..
pub record AreGood (rules : Rules) (bytes : List ℕ) (whole : Whole) (bucket : Item) (spelled : Spellings) : Type 0 where
  pub protected_fits : length whole.headers.protected ≤ rules.room
  pub protected_read : bucket_of rules.nesting (placed_at (unprotected_at spelled - length whole.headers.protected) whole.headers.protected) ≡ Ok whole.headers.protected_pairs
  pub unprotected_fits : length spelled.unprotected ≤ rules.room
  pub unprotected_nests : depth_of bucket ≤ rules.nesting
  pub unprotected_read : bucket_of rules.nesting (placed_at (unprotected_at spelled) spelled.unprotected) ≡ Ok whole.headers.unprotected_pairs
  pub together : pair_fault whole.headers.protected_pairs whole.headers.unprotected_pairs rules.understood (payload_at spelled) ≡ None
  pub chosen : rules.choice whole.headers ≡ Ok whole.chosen
  pub payload_comes : HasCome rules.source whole.payload
  pub payload_fits : is_too_long rules.payload_limit (length whole.payload) ≡ false
  pub auth_fits : rules.auth_fits whole.chosen (length whole.auth) ≡ true
  pub auth_place : whole.auth_at ≡ auth_at spelled
  pub ends : whole.taken ≡ length bytes

-- .. the bytes are a message.
abbrev pub ArrayOfFourIsMessage : Type 0
ArrayOfFourIsMessage = (rules : Rules) (bytes : List ℕ) (whole : Whole) (bucket : Item) →
    (array : SpellsMessage bytes whole.headers.kind (four_elements whole.headers.protected bucket (payload_element rules.source whole.payload) whole.auth)) → IsAllowed rules array →
    (spelled : Spellings) × AreParts rules bytes whole bucket spelled × (AreGood rules bytes whole bucket spelled → IsMessage rules bytes whole)

-- Bytes are at most one such array: what its elements are is determined.
abbrev pub OneArrayOfFour : Type 0
OneArrayOfFour = (bytes : List ℕ) (kind other : Kind) (protected auth other_protected other_auth : List ℕ) (bucket payload other_bucket other_payload : Item) →
    SpellsMessage bytes kind (four_elements protected bucket payload auth) → SpellsMessage bytes other (four_elements other_protected other_bucket other_payload other_auth) →
    four_elements protected bucket payload auth ≡ four_elements other_protected other_bucket other_payload other_auth

-- Where the authentication of a message holds, the verdict is that it is authentic.
abbrev pub MessageIsAuthentic : Type 0
MessageIsAuthentic = (room nesting : ℕ) (setting : Setting) (decides : Decides) (bytes : List ℕ) (kind : Kind) (alg : Alg) (payload taken : ℕ) →
    IsAuthentic room nesting setting decides bytes kind alg payload taken →
    verdict_of room nesting setting decides bytes ≡ decided (Authentic kind alg payload taken)

-- And it is so exactly there.
abbrev pub AuthenticIsMessage : Type 0
AuthenticIsMessage = (room nesting : ℕ) (setting : Setting) (decides : Decides) (bytes : List ℕ) (kind : Kind) (alg : Alg) (payload taken : ℕ) →
    (verdict_of room nesting setting decides bytes ≡ decided (Authentic kind alg payload taken)) ↔
    IsAuthentic room nesting setting decides bytes kind alg payload taken
