-- What a caller gets of a message in memory whose signature it verifies by EdDSA (RFC 9053 section 2.2, RFC 9864 section 2.2).
use Rattle.std.specs.Prelude.{◌≡◌, ℕ, pos, ◌++◌, List, Option, Some, None, is_some, Result, Ok, Err, if◌then◌else◌}
use Rattle.std.specs.List.{concat}
use Rattle.cose_head.specs.declared.reason.Reason.TheVariants.{Trailing}
use Rattle.cose_head.specs.declared.refusal.Refusal.{Refusal}
use Rattle.cose_head.specs.Further.{further_number, okp_curve_number}
use Rattle.cose_map.specs.Key.Okp.{OkpValue}
use Rattle.cose_msg.specs.Further.{Asked, asked_of}
use Rattle.cose_msg.specs.Message.{Setting}
use Rattle.cose_c.specs.declared.eddsa.CoseEddsaInput.{CoseEddsaInput}
use Rattle.cose_c.specs.declared.elsewhere.CoseFrontPieces.{CoseFrontPieces}
use Rattle.cose_c.specs.declared.numbers.CoseStatus.{CoseStatus}
use Rattle.cose_c.specs.Elsewhere.{octets_of, pieces_given}
use Rattle.cose_c.specs.Numbers.{plain_status, refused_status}

-- In a setting, or in none: what is asked of the bytes, or the status of a call that asks nothing.
abbrev pub unless_refused : Option (Result Asked Refusal) → Result Asked CoseStatus
unless_refused (Some (Ok asked)) = Ok asked
unless_refused (Some (Err refusal)) = Err (refused_status 3 refusal)
unless_refused None = Err (plain_status 0)

abbrev pub asked_given : ℕ → ℕ → Result Setting CoseStatus → List OkpValue → List ℕ → Result Asked CoseStatus
asked_given room nesting (Ok setting) keys bytes = unless_refused (asked_of room nesting setting keys bytes)
asked_given room nesting (Err status) keys bytes = Err status

-- The signature is the caller's to verify (2), and its head stands here; or a byte follows the message, which is Trailing (3).
abbrev pub status_before : ℕ → Option ℕ → CoseStatus
status_before place None = record { status = 2; reason = 0; place = place }
status_before place (Some after) = refused_status 3 (record { reason = Trailing; place = after })

abbrev pub eddsa_status : Result Asked CoseStatus → CoseStatus
eddsa_status (Ok asked) = status_before asked.auth_at asked.trailing
eddsa_status (Err status) = status

abbrev pub input_status : CoseEddsaInput → CoseStatus
input_status input = record { status = input.status; reason = input.reason; place = input.place }

-- The key, the algorithm and the signature; and the pieces, joined, are with the payload after them the structure that is signed.
pub record GivesAsked (aad : List ℕ) (asked : Asked) (pieces : CoseFrontPieces) (input : CoseEddsaInput) : Type 0 where
  pub alg : input.alg ≡ further_number asked.alg
  pub crv : pos input.crv ≡ okp_curve_number asked.key.curve
  pub has_kid : input.has_kid ≡ (if is_some asked.key.kid then 1 else 0)
  pub kid : input.kid.now ≡ octets_of asked.key.kid
  pub x : input.x.now ≡ asked.key.x
  pub payload : input.payload.now ≡ asked.payload
  pub signature : input.signature.now ≡ asked.signature
  pub front : concat (pieces_given input.header.now aad pieces) ++ asked.payload ≡ asked.structure

abbrev pub GivesEddsa : List ℕ → Result Asked CoseStatus → CoseFrontPieces → CoseEddsaInput → Type 0
GivesEddsa aad (Ok asked) pieces input = GivesAsked aad asked pieces input
GivesEddsa aad (Err status) pieces input = ⊥
