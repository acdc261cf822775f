-- A message whose authentication holds (RFC 9052 sections 4.4 and 6.3), in the terms of the grammar.
use Rattle.std.specs.Prelude.{◌≡◌, ℕ, ◌≤◌, Bool, true, List, length, take, Some, if◌then◌else◌}
use Rattle.std.specs.Str.{bytes_eq}
use Rattle.cose_head.specs.Algorithm.{is_mac_of}
use Rattle.cose_head.specs.declared.algorithm.Alg.{Alg}
use Rattle.cose_head.specs.declared.kind.Kind.{Kind}
use Rattle.cose_msg.specs.Answer.{Chosen, Whole}
use Rattle.cose_msg.specs.Grammar.{IsMessage}
use Rattle.cose_msg.specs.Message.{Decides, Setting, digest_signed, tag_of, uncompared}

-- Under the key that was chosen the tag is the MAC of the structure (section 6.3), or the signature is good for the
-- digest of the structure, as the `EcVerifier` decides (section 4.4).
abbrev pub authentication_holds : List ℕ → Decides → Chosen → Whole → Bool
authentication_holds aad decides found whole =
    if is_mac_of found.alg then bytes_eq whole.auth (tag_of aad found whole) else
    decides found.key (digest_signed aad found whole) whole.auth

-- The first bytes, as many as are taken, are a message by the grammar, with the one key that fits, and its
-- authentication holds under that key. So no bytes satisfy it that are cut short or spell anything else. Where the tag
-- is a MAC, exactly one byte string of its length satisfies it.
pub record IsAuthentic (room nesting : ℕ) (setting : Setting) (decides : Decides) (bytes : List ℕ) (kind : Kind) (alg : Alg) (payload taken : ℕ) : Type 0 where
  pub whole : Whole
  pub found : Chosen
  pub within : taken ≤ length bytes
  pub message : IsMessage (uncompared room nesting setting) (take taken bytes) whole
  pub chosen : whole.chosen ≡ Some found
  pub holds : authentication_holds setting.aad decides found whole ≡ true
  pub kind_is : kind ≡ whole.headers.kind
  pub alg_is : alg ≡ found.alg
  pub payload_is : payload ≡ length whole.payload
  pub taken_is : taken ≡ whole.taken
