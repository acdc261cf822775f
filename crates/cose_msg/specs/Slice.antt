-- What bytes are that should be one message, and nothing after it.
use Rattle.std.specs.Prelude.{ℕ, List, Option, Some, None, Result, Ok, Err, nat_lt, if◌then◌else◌, ⊤}
use Rattle.cose_head.specs.declared.algorithm.Alg.{Alg}
use Rattle.cose_head.specs.declared.kind.Kind.{Kind}
use Rattle.cose_head.specs.declared.reason.Reason.TheVariants.{Trailing}
use Rattle.cose_head.specs.declared.refusal.Refusal.{Refusal}
use Rattle.cose_msg.specs.declared.slice.Verified.{Verified}
use Rattle.cose_msg.specs.declared.slice.Verified.TheVariants as said
use Rattle.cose_msg.specs.declared.verdict.Verdict.TheVariants.{Authentic, Refused}
use Rattle.cose_msg.specs.Answer.{Answer, decided, complete, shaped}

-- Of so many bytes, by their verdict: the kind and the algorithm of the message, which is authentic and ends where they end, or
-- the refusal. A byte after an authentic message is Trailing, at its place.
abbrev pub outcome_of : ℕ → Answer → Option (Result (Kind × Alg) Refusal)
outcome_of count (decided (Authentic kind alg payload taken)) =
    Some (if nat_lt taken count then Err (record { reason = Trailing; place = taken }) else Ok (kind, alg))
outcome_of count (decided (Refused refusal)) = Some (Err refusal)
outcome_of count (complete whole) = None
outcome_of count (shaped kind payload auth taken) = None

-- The same, as it is returned.
abbrev pub outcome : Verified → Option (Result (Kind × Alg) Refusal)
outcome (said.Authentic kind alg payload) = Some (Ok (kind, alg))
outcome (said.Refused refusal) = Some (Err refusal)

-- What holds of the payload's bytes, where any are returned.
abbrev pub IfPayload : Verified → (List ℕ → Type 0) → Type 0
IfPayload (said.Authentic kind alg payload) holds = holds payload.now
IfPayload (said.Refused refusal) holds = ⊤
