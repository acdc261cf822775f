-- The verdict within the smaller limits is that within the larger ones, unless one of the smaller limits refuses the message.
use Rattle.std.proofs.Common.{◌≡◌, ℕ, false, List, length, Result, Ok, Err, refl, sym, ap, ◌∙◌}
use Rattle.cose_msg.specs.declared.verdict.Verdict.TheVariants.{Authentic, Refused}
use Rattle.cose_msg.specs.Answer.{Answer, decided, complete, shaped}
use Rattle.cose_msg.specs.Laws.{VerifyingGoesLast, then_verified}
use Rattle.cose_msg.specs.Message.{Setting, comparing, message, verdict_of, verifying}
use Rattle.cose_msg.specs.Reading.{Reading}
use Rattle.cose_msg.specs.Shown.{sign_input_in}
use Rattle.cose_c.specs.declared.numbers.CoseStatus.{CoseStatus}
use Rattle.cose_c.specs.declared.numbers.CoseVerdict.{CoseVerdict}
use Rattle.cose_c.specs.Deciding.{always}
use Rattle.cose_c.specs.Message.{input_given, input_read, is_past_limits, payload_given, payload_read, verdict_given, verdict_read}
use Rattle.cose_c.specs.Numbers.{one_message, unless_signed, verdict_numbers}
use Rattle.cose_c.proofs.Limits.{is_limited, message_within}

-- What the numbers of a verdict say of its answer.
free_answer : (count at : ℕ) (answer : Answer) (v : CoseVerdict) → v ≡ verdict_numbers unless_signed at (one_message count answer) → is_past_limits v ≡ false → is_limited answer ≡ false
free_answer count at (decided (Refused refusal)) v is free = rw is at free
free_answer count at (decided (Authentic kind alg payload taken)) v is free = refl
free_answer count at (complete whole) v is free = refl
free_answer count at (shaped kind payload auth taken) v is free = refl

-- A signature is decided on after the limits.
free_before : (aad : List ℕ) (answer : Answer) → is_limited (then_verified aad always answer) ≡ false → is_limited answer ≡ false
free_before aad (decided verdict) free = free
free_before aad (complete whole) free = refl
free_before aad (shaped kind payload auth taken) free = refl

module _ (setting : Setting) (at : ℕ) (bytes : List ℕ) (v : CoseVerdict) (is : v ≡ verdict_read 1024 8 setting at bytes) (free : is_past_limits v ≡ false) where
  answered_free : is_limited (verdict_of 1024 8 setting always bytes) ≡ false
  answered_free = free_answer (length bytes) at (verdict_of 1024 8 setting always bytes) v is free

  verdict_same : v ≡ verdict_read 65535 16 setting at bytes
  verdict_same = is ∙ ap (λ (a : Answer). verdict_numbers unless_signed at (one_message (length bytes) a)) (sym (message_within (verifying 1024 8 setting always) 64511 8 bytes answered_free).0)

  module _ (last : VerifyingGoesLast) where
    compared_free : is_limited (message (comparing 1024 8 setting) bytes).answer ≡ false
    compared_free = free_before setting.aad (message (comparing 1024 8 setting) bytes).answer (rw (ap (λ (r : Reading). r.answer) (last 1024 8 setting always bytes)) at answered_free)

    payload_same : payload_read 65535 16 setting bytes ≡ payload_read 1024 8 setting bytes
    payload_same = (message_within (comparing 1024 8 setting) 64511 8 bytes compared_free).1

    input_same : input_read 65535 16 setting bytes ≡ input_read 1024 8 setting bytes
    input_same = ap (sign_input_in setting.aad) (message_within (comparing 1024 8 setting) 64511 8 bytes compared_free).0

-- The same, in the setting that the arguments say.
module _ (at : ℕ) (bytes : List ℕ) (v : CoseVerdict) where
  pub verdict_within : (given : Result Setting CoseStatus) → v ≡ verdict_given 1024 8 given at bytes → is_past_limits v ≡ false → v ≡ verdict_given 65535 16 given at bytes
  verdict_within (Ok setting) is free = verdict_same setting at bytes v is free
  verdict_within (Err status) is free = is

  pub payload_within : VerifyingGoesLast → (given : Result Setting CoseStatus) → v ≡ verdict_given 1024 8 given at bytes → is_past_limits v ≡ false → payload_given 65535 16 given bytes ≡ payload_given 1024 8 given bytes
  payload_within last (Ok setting) is free = payload_same setting at bytes v is free last
  payload_within last (Err status) is free = refl

  pub input_within : VerifyingGoesLast → (given : Result Setting CoseStatus) → v ≡ verdict_given 1024 8 given at bytes → is_past_limits v ≡ false → input_given 65535 16 given bytes ≡ input_given 1024 8 given bytes
  input_within last (Ok setting) is free = input_same setting at bytes v is free last
  input_within last (Err status) is free = refl
