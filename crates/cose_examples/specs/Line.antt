-- A message from a line: what is known where the verdict is that it is authentic.
use Rattle.std.specs.Prelude.{◌≡◌, ℕ, List, Option}
use Rattle.std.specs.Io.KnownBytes.{Appends}
use Rattle.cose_head.specs.declared.algorithm.Alg.{Alg}
use Rattle.cose_head.specs.declared.kind.Kind.{Kind}
use Rattle.cose_msg.specs.declared.verdict.Verdict.TheVariants.{Authentic}
use Rattle.cose_msg.specs.declared.verifier.Verifier.{Verifier}
use Rattle.cose_msg.specs.Answer.{decided}
use Rattle.cose_msg.specs.Kept.{HasTaken}
use Rattle.cose_msg.specs.Message.{Decides, Setting, message as reading, verdict_of}
use Rattle.cose_msg.specs.Task.{Task, rules_of, to_verify}

-- A verifier that had taken nothing has taken these bytes of a message, and the handler got the payload's among them.
pub record Hears {S : Type 0} {K : _} (task : Task) (contents contents_after : Option (List ℕ)) (v : Verifier 256 4 S K) : Type 0 where
  pub taken : List ℕ
  pub payload : List ℕ
  pub has_taken : HasTaken task taken payload v
  pub known : (reading (rules_of 256 4 task) taken).so_far.payload ≡ payload
  pub handled : Appends contents contents_after payload

-- By definition the bytes that came of the line are an authentic message, and the handler got its payload.
pub record IsOfLine (setting : Setting) (decides : Decides) (contents contents_after : Option (List ℕ)) (kind : Kind) (alg : Alg) (payload taken : ℕ) : Type 0 where
  pub message : List ℕ
  pub judged : verdict_of 256 4 setting decides message ≡ decided (Authentic kind alg payload taken)
  pub handled : Appends contents contents_after (reading (rules_of 256 4 (to_verify setting)) message).so_far.payload
