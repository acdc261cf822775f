-- The numbers that a caller gets.
use Rattle.std.specs.Prelude.{ℕ, pos, nat_lt, if◌then◌else◌}
use Rattle.cose_head.specs.declared.algorithm.Alg.{Alg}
use Rattle.cose_head.specs.declared.kind.Kind.{Kind}
use Rattle.cose_head.specs.declared.kind.Kind.TheVariants.{Mac0, Sign1}
use Rattle.cose_head.specs.declared.reason.Reason.TheVariants.{Trailing}
use Rattle.cose_head.specs.declared.refusal.Refusal.{Refusal}
use Rattle.cose_head.specs.Algorithm.{algorithm_number}
use Rattle.cose_head.specs.Reason.{number_of}
use Rattle.cose_msg.specs.declared.verdict.Verdict.TheVariants.{Authentic, Refused}
use Rattle.cose_msg.specs.Answer.{Answer, decided, complete, shaped, refused}
use Rattle.cose_c.specs.declared.numbers.CoseStatus.{CoseStatus}
use Rattle.cose_c.specs.declared.numbers.CoseVerdict.{CoseVerdict}

-- A status that isn't a refusal, and one that is.
abbrev pub plain_status : ℕ → CoseStatus
plain_status status = record { status = status; reason = 0; place = 0 }

abbrev pub refused_status : ℕ → Refusal → CoseStatus
refused_status status refusal = record { status = status; reason = number_of refusal.reason; place = refusal.place }

-- The number of the tag of a kind (RFC 9052 section 2).
abbrev pub kind_number : Kind → ℕ
kind_number Mac0 = 17
kind_number Sign1 = 18

-- A verdict that is a status alone.
abbrev pub no_message : CoseStatus → CoseVerdict
no_message s = record {
  status = s.status;
  reason = s.reason;
  kind = 0;
  alg = pos 0;
  place = s.place;
  payload_at = 0;
  payload_length = 0;
  taken = 0;
}

-- The verdict on a message that nothing refuses, with its status and the place of its payload.
abbrev pub accepted_as : ℕ → ℕ → Kind → Alg → ℕ → ℕ → CoseVerdict
accepted_as status at kind alg payload taken = record {
  status = status;
  reason = 0;
  kind = kind_number kind;
  alg = algorithm_number alg;
  place = 0;
  payload_at = at;
  payload_length = payload;
  taken = taken;
}

-- The numbers of an answer: the status of an accepted message is that of its kind. (An answer of a verification is a verdict.)
abbrev pub verdict_numbers : (Kind → ℕ) → ℕ → Answer → CoseVerdict
verdict_numbers status at (decided (Authentic kind alg payload taken)) = accepted_as (status kind) at kind alg payload taken
verdict_numbers status at (decided (Refused refusal)) = no_message (refused_status 3 refusal)
verdict_numbers status at (complete whole) = no_message (plain_status 0)
verdict_numbers status at (shaped kind payload auth taken) = no_message (plain_status 0)

-- In one call over memory a COSE_Mac0 is authentic, and the signature of a COSE_Sign1 is left to the caller. To a verifier that is
-- fed the caller passes its decision on the signature, and so either is authentic.
abbrev pub unless_signed : Kind → ℕ
unless_signed Mac0 = 1
unless_signed Sign1 = 2

abbrev pub always_authentic : Kind → ℕ
always_authentic kind = 1

-- The answer for so many bytes that should be one message: a byte after it is Trailing, at its place.
abbrev pub one_message : ℕ → Answer → Answer
one_message count (decided (Authentic kind alg payload taken)) =
    if nat_lt taken count then refused Trailing taken else decided (Authentic kind alg payload taken)
one_message count (decided (Refused refusal)) = decided (Refused refusal)
one_message count (complete whole) = complete whole
one_message count (shaped kind payload auth taken) = if nat_lt taken count then refused Trailing taken else shaped kind payload auth taken
