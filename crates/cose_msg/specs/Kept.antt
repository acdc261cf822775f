-- What a verifier counts and keeps in addition to the message itself, and across its calls.
use Rattle.std.specs.Prelude.{◌≡◌, ℕ, Bool, true, false, List, [], ◌++◌, length, Option, Some, None, Result, Ok, Err}
use Rattle.cose_msg.specs.declared.hashing.Hashing.TheVariants as states
use Rattle.cose_msg.specs.declared.phase.Phase.{Phase}
use Rattle.cose_msg.specs.declared.phase.Phase.TheVariants as phases
use Rattle.cose_msg.specs.declared.verdict.Inspected.{Inspected}
use Rattle.cose_msg.specs.declared.verdict.Inspected.TheVariants as inspected
use Rattle.cose_msg.specs.declared.verdict.Stop.{Stop}
use Rattle.cose_msg.specs.declared.verdict.Stop.TheVariants as stops
use Rattle.cose_msg.specs.declared.verdict.Verdict.{Verdict}
use Rattle.cose_msg.specs.declared.verdict.Verdict.TheVariants.{Authentic, Refused}
use Rattle.cose_msg.specs.declared.verifier.Verifier.{Verifier}
use Rattle.cose_msg.specs.Reader.{SoFar}
use Rattle.cose_msg.specs.Message.{Setting}
use Rattle.cose_msg.specs.Task.{Task, given_to, to_inspect, to_verify, to_verify_elsewhere}
use Rattle.cose_msg.specs.Verifier.{is_detached, setting_in, task_of}

abbrev pub bytes_taken : {H D : ℕ} {S : Type 0} {K : _} → Verifier H D S K → ℕ
bytes_taken v = v.taken

abbrev pub is_stopped : {H D : ℕ} {S : Type 0} {K : _} → Verifier H D S K → Bool
is_stopped v = v.stopped

-- Whether it was made for inspecting alone.
abbrev pub is_inspecting : {H D : ℕ} {S : Type 0} {K : _} → Verifier H D S K → Bool
is_inspecting v = v.inspecting

abbrev pub verdict_in : Phase → Option Verdict
verdict_in (phases.Decided p) = Some p.verdict
verdict_in (phases.Settled verdict) = Some verdict
verdict_in _ = None

-- A refusal is the same for a message that is only inspected.
abbrev pub refusal_in : Verdict → Option Inspected
refusal_in (Refused refusal) = Some (inspected.Refused refusal)
refusal_in (Authentic kind alg payload taken) = None

abbrev pub inspected_in : Phase → Option Inspected
inspected_in (phases.Settled verdict) = refusal_in verdict
inspected_in (phases.Shaped p) = Some (inspected.Shape p.kind p.payload p.auth p.taken)
inspected_in _ = None

abbrev pub answer_kept : {A : Type 0} → Bool → Option A → Option (Result A Stop)
answer_kept true answer = Some (Err stops.Again)
answer_kept false (Some answer) = Some (Ok answer)
answer_kept false None = None

-- The answer that is kept until the verifier is reset: that it had stopped, or the verdict.
abbrev pub kept_answer : {H D : ℕ} {S : Type 0} {K : _} → Verifier H D S K → Option (Result Verdict Stop)
kept_answer v = answer_kept v.stopped (verdict_in v.reader.phase)

-- The same of a verifier that inspects.
abbrev pub kept_inspection : {H D : ℕ} {S : Type 0} {K : _} → Verifier H D S K → Option (Result Inspected Stop)
kept_inspection v = answer_kept v.stopped (inspected_in v.reader.phase)

-- Nothing is kept of a key: neither which one was chosen, nor a hash that was begun with it.
abbrev pub KeepsNoKey : {H D : ℕ} {S : Type 0} {K : _} → Verifier H D S K → Type 0
KeepsNoKey v = (v.reader.chosen ≡ None) × (v.reader.hashing ≡ states.Nothing)

-- The result of a message is answered again as it is. The reason why the verifier stopped is answered once.
abbrev pub answered_again : {A : Type 0} → Result A Stop → Result A Stop
answered_again (Ok answer) = Ok answer
answered_again (Err stop) = Err stops.Again

-- The verifier, which was made for this task, has taken these bytes, with the payload so far among them, has counted them, and
-- continues: it hasn't stopped, the end wasn't reported before they settled the message, and no signature was decided
-- on. A detached payload isn't among the bytes taken: the payload so far is what has come of it, as in the task, and the
-- meaning of the reader is the same whatever comes of the payload then.
pub record HasTaken {H D : ℕ} {S : Type 0} {K : _} (task : Task) (taken payload_so_far : List ℕ) (v : Verifier H D S K) : Type 0 where
  pub made_for : task_of v ≡ given_to [] task
  pub so_far : SoFar task taken payload_so_far v.reader
  pub came : given_to payload_so_far task ≡ task
  pub whatever_comes : (more : List ℕ) → SoFar (given_to (payload_so_far ++ more) task) taken payload_so_far v.reader
  pub counted : v.taken ≡ length taken
  pub goes_on : v.stopped ≡ false

-- Of a verifier: whatever task it was made for, and whatever bytes it has taken, with the payload among them.
abbrev pub WhateverTaken : {H D : ℕ} {S : Type 0} {K : _} → Verifier H D S K → (Task → List ℕ → List ℕ → Type 0) → Type 0
WhateverTaken v fact = (task : Task) (taken payload_so_far : List ℕ) → HasTaken task taken payload_so_far v → fact task taken payload_so_far

-- The same of one that verifies, and of one that inspects, whatever its setting is.
abbrev pub WhateverVerified : {H D : ℕ} {S : Type 0} {K : _} → Verifier H D S K → (Setting → List ℕ → List ℕ → Type 0) → Type 0
WhateverVerified v fact = (setting : Setting) (taken payload_so_far : List ℕ) → HasTaken (to_verify setting) taken payload_so_far v → fact setting taken payload_so_far

abbrev pub WhateverInspected : {H D : ℕ} {S : Type 0} {K : _} → Verifier H D S K → (Setting → List ℕ → List ℕ → Type 0) → Type 0
WhateverInspected v fact = (setting : Setting) (taken payload_so_far : List ℕ) → HasTaken (to_inspect setting) taken payload_so_far v → fact setting taken payload_so_far

-- And of one whose message is authenticated elsewhere.
abbrev pub WhateverAsked : {H D : ℕ} {S : Type 0} {K : _} → Verifier H D S K → (Setting → List ℕ → List ℕ → Type 0) → Type 0
WhateverAsked v fact = (setting : Setting) (taken payload_so_far : List ℕ) → HasTaken (to_verify_elsewhere setting) taken payload_so_far v → fact setting taken payload_so_far

-- What the verifier was made for is the same after a call: whether it inspects, whether it awaits a detached payload, and
-- the setting that it reads a message under. (Of a call that takes bytes the setting is said where those before are known.)
pub record SamePurpose {H D : ℕ} {S : Type 0} {K : _} (old new : Verifier H D S K) : Type 0 where
  pub inspects : is_inspecting new ≡ is_inspecting old
  pub detached : is_detached new ≡ is_detached old
  pub context : {task : Task} {taken payload_so_far : List ℕ} → HasTaken task taken payload_so_far old → setting_in new ≡ setting_in old
