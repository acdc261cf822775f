-- A firmware image beside its message (RFC 9052 section 4.2): what is known where the verdict is that it is authentic.
use Rattle.std.specs.Prelude.{◌≡◌, ℕ, ◌≤◌, List, ◌++◌, length, Option, Result, Ok, Err, ⊤}
use Rattle.std.specs.Io.KnownBytes.{Appends, Consumes}
use Rattle.cose_head.specs.declared.algorithm.Alg.{Alg}
use Rattle.cose_head.specs.declared.kind.Kind.{Kind}
use Rattle.cose_msg.specs.declared.verdict.Stop.{Stop}
use Rattle.cose_msg.specs.declared.verdict.Verdict.{Verdict}
use Rattle.cose_msg.specs.declared.verdict.Verdict.TheVariants.{Authentic, Refused}
use Rattle.cose_msg.specs.declared.verifier.Verifier.{Verifier}
use Rattle.cose_msg.specs.Answer.{decided}
use Rattle.cose_msg.specs.Kept.{HasTaken}
use Rattle.cose_msg.specs.Message.{Decides, Setting, given, verdict_of}
use Rattle.cose_msg.specs.Task.{Task, given_to}

-- What is said of an authentic message. (Of a refusal, or where there is no verdict, nothing is said.)
abbrev pub WhereAuthentic : Result Verdict Stop → (Kind → Alg → ℕ → ℕ → Type 0) → Type 0
WhereAuthentic (Ok (Authentic kind alg payload taken)) says = says kind alg payload taken
WhereAuthentic (Ok (Refused refusal)) says = ⊤
WhereAuthentic (Err stop) says = ⊤

-- A verifier that had taken these bytes of a message, and of its payload, has taken more of the payload: the image that came, which
-- was written, each byte once.
pub record TakesImage {S : Type 0} {K : _} (task : Task) (taken before : List ℕ) (come come_after contents contents_after : Option (List ℕ)) (v : Verifier 256 4 S K) : Type 0 where
  pub image : List ℕ
  pub came : Consumes come come_after image
  pub written : Appends contents contents_after image
  pub has_taken : HasTaken (given_to (before ++ image) task) taken (before ++ image) v

-- The verdict on so many bytes that should be one message: an authentic one ends with them.
abbrev pub AloneIs : ℕ → Verdict → Verdict → Type 0
AloneIs count verdict (Authentic kind alg payload taken) = (verdict ≡ Authentic kind alg payload taken) × (count ≤ taken)
AloneIs count verdict (Refused refusal) = ⊤

-- The image that came next was written to the slot, each byte once, and by definition it and the message are authentic. No byte follows
-- the message.
pub record IsOfImage (setting : Setting) (decides : Decides) (message : List ℕ) (come come_after contents contents_after : Option (List ℕ)) (kind : Kind) (alg : Alg) (payload taken : ℕ) : Type 0 where
  pub image : List ℕ
  pub came : Consumes come come_after image
  pub written : Appends contents contents_after image
  pub judged : verdict_of 256 4 (given image setting) decides message ≡ decided (Authentic kind alg payload taken)
  pub alone : length message ≤ taken
