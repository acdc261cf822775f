-- What is known of a phase of the code by its counts alone.
use Rattle.std.specs.Prelude.{ℕ, Bool, true, false, not, List, ◌++◌, Option, Some, None, is_some}
use Rattle.cose_head.specs.Algorithm.{is_mac_of}
use Rattle.cose_head.specs.declared.kind.Kind.{Kind}
use Rattle.cose_msg.specs.declared.phase.Frame.{Frame}
use Rattle.cose_msg.specs.declared.phase.Phase.{Phase}
use Rattle.cose_msg.specs.declared.phase.Phase.TheVariants as phases

-- Whether the next byte is one of the payload.
abbrev pub in_payload : Phase → Bool
in_payload (phases.Payload p) = true
in_payload _ = false

-- Whether no further byte of the message is wanted, or none before bytes of a detached payload.
abbrev pub is_settled : Phase → Bool
is_settled (phases.Detached p) = true
is_settled (phases.Signed p) = true
is_settled (phases.Decided verdict) = true
is_settled (phases.Settled verdict) = true
is_settled (phases.Shaped p) = true
is_settled _ = false

-- Whether a signature is to be decided on.
abbrev pub awaits_decision : Phase → Bool
awaits_decision (phases.Signed p) = true
awaits_decision _ = false

-- What is known of the structure that is authenticated, after the payload's head and before the verdict: the kind of the message
-- and the number of the payload's bytes.
abbrev pub framed : Kind → ℕ → Option Frame
framed kind payload = Some (record { kind = kind; payload = payload })

abbrev pub frame_of : Phase → Option Frame
frame_of (phases.Payload p) = framed p.kind p.length
frame_of (phases.Detached p) = framed p.kind p.length
frame_of (phases.AuthHead p) = framed p.kind p.payload
frame_of (phases.Auth p) = framed p.kind p.payload
frame_of (phases.Signed p) = framed p.kind p.payload
frame_of _ = None

-- The place of the head of the tag or signature, where all bytes are there and it is left to the caller.
abbrev pub auth_place_of : Phase → Option ℕ
auth_place_of (phases.Signed p) = Some p.head_at
auth_place_of (phases.Decided p) = Some p.head_at
auth_place_of _ = None

-- Whether it is there.
abbrev pub has_signature : Phase → Bool
has_signature phase = is_some (auth_place_of phase)

-- Whether the caller is asked about a signature.
abbrev pub asks_signature : Phase → Bool
asks_signature (phases.Signed p) = not (is_mac_of p.alg)
asks_signature _ = false

-- How many bytes are to come for certain: those of a string that are left, and one of a head.
abbrev pub want_of : Phase → ℕ
want_of (phases.Protected p) = p.left
want_of (phases.Unprotected p) = p.wanted
want_of (phases.Payload p) = p.left
want_of (phases.Auth p) = p.left
want_of (phases.Detached p) = 0
want_of (phases.Signed p) = 0
want_of (phases.Decided verdict) = 0
want_of (phases.Settled verdict) = 0
want_of (phases.Shaped p) = 0
want_of _ = 1

-- How many bytes of a detached payload are wanted.
abbrev pub payload_want_of : Phase → ℕ
payload_want_of (phases.Detached p) = p.left
payload_want_of _ = 0

-- Whether bytes are taken one by one: in a head.
abbrev pub takes_bytes : Phase → Bool
takes_bytes (phases.Protected p) = false
takes_bytes (phases.Unprotected p) = false
takes_bytes (phases.Payload p) = false
takes_bytes (phases.Detached p) = false
takes_bytes (phases.Auth p) = false
takes_bytes (phases.Signed p) = false
takes_bytes (phases.Decided verdict) = false
takes_bytes (phases.Settled verdict) = false
takes_bytes (phases.Shaped p) = false
takes_bytes _ = true

-- Where a message is Truncated that ends after n bytes: there, or at its nil where bytes of a detached payload are missing.
abbrev pub ends_at : Phase → ℕ → ℕ
ends_at (phases.Detached p) n = p.at
ends_at _ n = n

-- The payload so far, after some bytes of a phase.
abbrev pub grown : Phase → List ℕ → List ℕ → List ℕ
grown (phases.Payload p) payload part = payload ++ part
grown _ payload part = payload
