-- The shape of a message.
use Rattle.std.specs.Prelude.{ℕ, List, [], ◌∷◌, length, Result, Ok, Err}
use Rattle.cose_msg.specs.declared.verdict.Verdict.TheVariants.{Authentic, Refused}
use Rattle.cose_msg.specs.Answer.{Answer, decided, complete, shaped}
use Rattle.cose_msg.specs.Message.{Setting, inspecting, message as reading}
use Rattle.cose_c.specs.declared.numbers.CoseStatus.{CoseStatus}
use Rattle.cose_c.specs.declared.shape.CoseShape.{CoseShape}
use Rattle.cose_c.specs.Numbers.{kind_number, one_message, plain_status, refused_status}

-- The empty map: a key set without a usable key. A message that is only inspected needs none.
abbrev pub no_keys : List ℕ
no_keys = 160 ∷ []

abbrev pub no_shape : CoseStatus → CoseShape
no_shape s = record {
  status = s.status;
  reason = s.reason;
  kind = 0;
  place = s.place;
  payload_length = 0;
  auth_length = 0;
  taken = 0;
}

-- The numbers of an answer. (An answer of an inspection is a shape or a refusal.)
abbrev pub shape_numbers : Answer → CoseShape
shape_numbers (shaped kind payload auth taken) = record {
  status = 7;
  reason = 0;
  kind = kind_number kind;
  place = 0;
  payload_length = payload;
  auth_length = auth;
  taken = taken;
}
shape_numbers (decided (Refused refusal)) = no_shape (refused_status 3 refusal)
shape_numbers (decided (Authentic kind alg payload taken)) = no_shape (plain_status 0)
shape_numbers (complete whole) = no_shape (plain_status 0)

-- Of bytes that should be one message, in a setting, and in the setting that the arguments say, if they say one.
abbrev pub shape_read : ℕ → ℕ → Setting → List ℕ → CoseShape
shape_read room nesting setting bytes = shape_numbers (one_message (length bytes) (reading (inspecting room nesting setting) bytes).answer)

abbrev pub shape_given : ℕ → ℕ → Result Setting CoseStatus → List ℕ → CoseShape
shape_given room nesting (Err status) bytes = no_shape status
shape_given room nesting (Ok setting) bytes = shape_read room nesting setting bytes
