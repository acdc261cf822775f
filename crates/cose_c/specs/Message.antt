-- The result of one call over memory.
use Rattle.std.specs.Prelude.{◌≡◌, ℕ, ◌+◌, ◌≤◌, Bool, List, [], length, take, drop, Option, None, Result, Ok, Err, ◌==◌, ◌&&◌, ◌||◌}
use Rattle.cose_msg.specs.Message.{Setting, given, message as reading, verdict_of}
use Rattle.cose_msg.specs.Shown.{SignInput, sign_input_in}
use Rattle.cose_msg.specs.Task.{rules_of, to_verify}
use Rattle.cose_msg.specs.Verifier.{detaching}
use Rattle.cose_c.specs.declared.numbers.CoseStatus.{CoseStatus}
use Rattle.cose_c.specs.declared.numbers.CoseVerdict.{CoseVerdict}
use Rattle.cose_c.specs.Deciding.{always}
use Rattle.cose_c.specs.Numbers.{no_message, one_message, unless_signed, verdict_numbers}

-- A range of bytes has this content.
pub record Covers (bytes content : List ℕ) (at count : ℕ) : Type 0 where
  pub inside : at + count ≤ length bytes
  pub has : take count (drop at bytes) ≡ content

-- The message is authentic (1), or it is where its signature is good (2).
abbrev pub is_accepted : CoseVerdict → Bool
is_accepted verdict = (verdict.status == 1) || (verdict.status == 2)

-- A limit on the headers refuses the message: TooDeep (5) or PastRoom (6).
abbrev pub is_past_limits : CoseVerdict → Bool
is_past_limits verdict = verdict.status == 3 && (verdict.reason == 5 || verdict.reason == 6)

-- ---- in a setting

-- The numbers for bytes that should be one message, wherever its payload is. Buckets have at most so many bytes, and nest at most so
-- deep.
abbrev pub verdict_read : ℕ → ℕ → Setting → ℕ → List ℕ → CoseVerdict
verdict_read room nesting setting at bytes =
    verdict_numbers unless_signed at (one_message (length bytes) (verdict_of room nesting setting always bytes))

-- The payload, and what the signature is verified with, if there is one.
abbrev pub payload_read : ℕ → ℕ → Setting → List ℕ → List ℕ
payload_read room nesting setting bytes = (reading (rules_of room nesting (to_verify setting)) bytes).so_far.payload

abbrev pub input_read : ℕ → ℕ → Setting → List ℕ → Option SignInput
input_read room nesting setting bytes = sign_input_in setting.aad (reading (rules_of room nesting (to_verify setting)) bytes).answer

-- ---- in the setting that the arguments say, if they say one

abbrev pub verdict_given : ℕ → ℕ → Result Setting CoseStatus → ℕ → List ℕ → CoseVerdict
verdict_given room nesting (Err status) at bytes = no_message status
verdict_given room nesting (Ok setting) at bytes = verdict_read room nesting setting at bytes

abbrev pub payload_given : ℕ → ℕ → Result Setting CoseStatus → List ℕ → List ℕ
payload_given room nesting (Err status) bytes = []
payload_given room nesting (Ok setting) bytes = payload_read room nesting setting bytes

abbrev pub input_given : ℕ → ℕ → Result Setting CoseStatus → List ℕ → Option SignInput
input_given room nesting (Err status) bytes = None
input_given room nesting (Ok setting) bytes = input_read room nesting setting bytes

-- The setting of a message whose payload is detached, and these bytes.
abbrev pub beside : List ℕ → Result Setting CoseStatus → Result Setting CoseStatus
beside payload (Err status) = Err status
beside payload (Ok setting) = Ok (given payload (detaching (length payload) setting))
