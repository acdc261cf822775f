-- A verifier in a block whose message the caller authenticates: what it is asked, and what it gets for what it states.
use Rattle.std.specs.Prelude.{◌≡◌, ℕ, Bool, true, false, ◌&&◌, ◌==◌, if◌then◌else◌, List, [], ◌∷◌, take, Option, Some, None, is_some, Result, Ok, Err}
use Rattle.std.specs.List.{concat}
use Rattle.cose_head.specs.Algorithm.{algorithm_number, auth_length_of, is_mac_of}
use Rattle.cose_map.specs.Key.Value.{MaterialValue, YValue, symmetric, elliptic, coordinate, sign}
use Rattle.cose_msg.specs.Answer.{Answer, Chosen, Whole}
use Rattle.cose_msg.specs.Elsewhere.{AsksKey, HasSignature, HoweverItGoesOn, IsFrontOf, IsWhole}
use Rattle.cose_msg.specs.Message.{Setting}
use Rattle.cose_msg.specs.Status.{is_complete, status_in}
use Rattle.cose_msg.specs.Task.{to_verify_elsewhere}
use Rattle.cose_msg.specs.Verifier.{asks_about_signature, is_elsewhere as is_asking, is_framed}
use Rattle.cose_c.specs.declared.elsewhere.CoseAskedKey.{CoseAskedKey}
use Rattle.cose_c.specs.declared.elsewhere.CoseAskedSignature.{CoseAskedSignature}
use Rattle.cose_c.specs.declared.elsewhere.CoseFrontPieces.{CoseFrontPieces}
use Rattle.cose_c.specs.declared.numbers.CoseStatus.{CoseStatus}
use Rattle.cose_c.specs.Input.{Gives}
use Rattle.cose_c.specs.Numbers.{plain_status}
use Rattle.cose_c.specs.Stream.{Content, HasRead, block_status}

-- It is opened in this setting for a caller that authenticates, and has taken nothing; or it isn't opened, whatever it was before.
abbrev pub IsOpenedElsewhere : {H D : ℕ} {S : Type 0} {K : _} → Result Setting CoseStatus → Content H D S K → Type 0
IsOpenedElsewhere (Ok setting) content = HasRead (to_verify_elsewhere setting) [] [] content
IsOpenedElsewhere (Err status) content = content ≡ None

-- Of a block whose message the caller authenticates: whatever its setting is, and whatever bytes it has taken, with the payload so far.
abbrev pub WhateverRead : {H D : ℕ} {S : Type 0} {K : _} → Content H D S K → (Setting → List ℕ → List ℕ → Type 0) → Type 0
WhateverRead content fact = (setting : Setting) (taken payload : List ℕ) → HasRead (to_verify_elsewhere setting) taken payload content → fact setting taken payload

-- Whether the block's message is authenticated elsewhere, and what was read of it suffices to begin with that.
abbrev pub is_asked : {H D : ℕ} {S : Type 0} {K : _} → Content H D S K → Bool
is_asked None = false
is_asked (Some v) = is_asking v && is_framed v

-- Whether all bytes are there of such a message.
abbrev pub is_ready : {H D : ℕ} {S : Type 0} {K : _} → Content H D S K → Bool
is_ready None = false
is_ready (Some v) = is_complete (status_in v) && is_asking v

-- Whether the caller's answer about a signature is wanted too, and no verdict is known.
abbrev pub wants_answer : {H D : ℕ} {S : Type 0} {K : _} → Content H D S K → Bool
wants_answer None = false
wants_answer (Some v) = is_complete (status_in v) && is_asking v && asks_about_signature v

-- ---- the pieces

-- In this order, of which the content of the protected header and the external data are the caller's own bytes.
abbrev pub pieces_given : List ℕ → List ℕ → CoseFrontPieces → List (List ℕ)
pieces_given protected aad p = take p.context_length p.context ∷ take p.protected_head_length p.protected_head ∷ take p.protected_length protected
    ∷ take p.aad_head_length p.aad_head ∷ aad ∷ take p.payload_head_length p.payload_head ∷ []

-- Joined, and with the payload after them, they are the structure that is authenticated (RFC 9052 sections 4.4 and 6.3): however the
-- message goes on.
abbrev pub GivesFront : {H D : ℕ} {S : Type 0} {K : _} → Content H D S K → List ℕ → CoseFrontPieces → Type 0
GivesFront {H} {D} content protected pieces =
    WhateverRead content (λ setting taken payload.
    HoweverItGoesOn H D setting taken payload (λ reading. IsFrontOf setting.aad reading (concat (pieces_given protected setting.aad pieces))))

-- ---- the key

-- An identifier, if the key has one.
abbrev pub octets_of : Option (List ℕ) → List ℕ
octets_of (Some octets) = octets
octets_of None = []

-- The coordinate y has its bytes (0), or its sign alone: 1 where it is even, 2 where it is odd.
abbrev pub sign_number : YValue → ℕ
sign_number (coordinate y) = 0
sign_number (sign odd) = if odd then 2 else 1

abbrev pub y_octets : YValue → List ℕ
y_octets (coordinate y) = y
y_octets (sign odd) = []

-- The bytes of a symmetric key, which may be any handle; or a point, and the number of its curve.
abbrev pub GivesMaterial : MaterialValue → CoseAskedKey → Type 0
GivesMaterial (symmetric k) asked = (asked.crv ≡ 0) × (asked.y_sign ≡ 0) × (asked.k.now ≡ k) × (asked.x.now ≡ []) × (asked.y.now ≡ [])
GivesMaterial (elliptic crv x y) asked = (asked.crv ≡ crv) × (asked.y_sign ≡ sign_number y) × (asked.k.now ≡ []) × (asked.x.now ≡ x) × (asked.y.now ≡ y_octets y)

pub record GivesKey (found : Chosen) (asked : CoseAskedKey) : Type 0 where
  pub alg : asked.alg ≡ algorithm_number found.alg
  pub has_kid : asked.has_kid ≡ (if is_some found.key.kid then 1 else 0)
  pub kid : asked.kid.now ≡ octets_of found.key.kid
  pub material : GivesMaterial found.key.material asked

-- It is the key that is chosen, however the message goes on.
abbrev pub GivesChosen : {H D : ℕ} {S : Type 0} {K : _} → Content H D S K → CoseAskedKey → Type 0
GivesChosen {H} {D} content asked =
    (found : Chosen) × GivesKey found asked × WhateverRead content (λ setting taken payload. HoweverItGoesOn H D setting taken payload (λ reading. AsksKey reading found))

-- ---- the signature

-- It is that of a message all of whose bytes are there. (None that an algorithm knows has more than 132 bytes.)
abbrev pub GivesSignature : Answer → CoseAskedSignature → Type 0
GivesSignature answer asked = (signature : List ℕ) × Gives signature asked.signature 132 asked.length × HasSignature answer signature

-- ---- what is stated

-- What a caller gets that states something too early, or of a message that isn't authenticated elsewhere: the block's status, and 12
-- where all bytes are there.
abbrev pub status_unasked : {H D : ℕ} {S : Type 0} {K : _} → Content H D S K → CoseStatus
status_unasked None = plain_status 10
status_unasked (Some v) = if is_complete (status_in v) then plain_status 12 else block_status (Some v)

-- Of a block that has read a whole message, about which no verdict is known: whatever its setting and its bytes are, and the key.
abbrev pub WhateverWhole : {H D : ℕ} {S : Type 0} {K : _} → Content H D S K → (Setting → List ℕ → Chosen → Type 0) → Type 0
WhateverWhole {H} {D} content fact =
    (setting : Setting) (taken payload : List ℕ) (found : Chosen) (whole : Whole) → HasRead (to_verify_elsewhere setting) taken payload content →
    IsWhole H D setting taken found whole → is_ready content ≡ true → is_asked content ≡ true → fact setting taken found

-- Whether the algorithm makes MACs of so many bytes.
abbrev pub makes_macs_of : ℕ → Chosen → Bool
makes_macs_of count found = is_mac_of found.alg && (count == auth_length_of found.alg)
