-- What comes of a detached payload, and a verifier that has taken some of it.
use Rattle.std.proofs.Common.{◌≡◌, ℕ, Bool, true, false, List, [], ◌++◌, Option, Some, None, append-nil, refl, sym, ap, subst, ◌∙◌}
use Rattle.cose_msg.specs.declared.phase.Detached.{Detached}
use Rattle.cose_msg.specs.declared.phase.Phase.{Phase}
use Rattle.cose_msg.specs.declared.phase.Phase.TheVariants as phases
use Rattle.cose_msg.specs.declared.reader.Reader.{Reader}
use Rattle.cose_msg.specs.Phase.{grown, in_payload}
use Rattle.cose_msg.specs.Reader.{HoldsIn, SoFar, ReaderMeans}
use Rattle.cose_msg.specs.Reading.{Reading}
use Rattle.cose_msg.specs.Source.{Source, IsStated, attached, detached, came_of, source_with, with_came}
use Rattle.cose_msg.specs.Task.{Task, given_to}
use Rattle.cose_msg.proofs.lemmas.Run.Runs.{grown_by, payload_of}

-- Of a payload in the message nothing comes beside it.
pub given_attached : (task : Task) (came : List ℕ) → task.setting.source ≡ attached → given_to came task ≡ task
given_attached task came is =
    let from : Source → Task = λ source. record { setting = record task.setting { source = source }; inspects = task.inspects } in
    let same : with_came came task.setting.source ≡ task.setting.source = ap (with_came came) is ∙ sym is in
    ap from same

-- The last bytes count.
again : (came before : List ℕ) (source : Source) → with_came came (with_came before source) ≡ with_came came source
again came before attached = refl
again came before (detached other detached_length) = refl

pub given_again : (task : Task) (came before : List ℕ) → given_to came (given_to before task) ≡ given_to came task
given_again task came before =
    let from : Source → Task = λ source. record { setting = record task.setting { source = source }; inspects = task.inspects } in
    ap from (again came before task.setting.source)

-- The length that is stated of a payload of which nothing has come is that of the same payload when some of it has.
stated_as : (detached_length : Option ℕ) (source : Source) → source_with [] detached_length ≡ with_came [] source → IsStated detached_length source
stated_as None attached e = refl
stated_as None (detached came n) e = absurd cc
stated_as (Some n) attached e = absurd cc
stated_as (Some n) (detached came m) e = let same : n ≡ m = cc in ap (detached came) same

pub stated_for : (detached_length : Option ℕ) (task other : Task) → source_with [] detached_length ≡ with_came [] task.setting.source → given_to [] other ≡ given_to [] task → IsStated detached_length other.setting.source
stated_for detached_length task other e same = stated_as detached_length other.setting.source (e ∙ sym (ap (λ (t : Task). t.setting.source) same))

-- After a piece of the message what has come of a detached payload is the same, and whatever comes of it then.
grown_outside : (phase : Phase) (B piece : List ℕ) → in_payload phase ≡ false → grown phase B piece ≡ B
grown_outside phase B piece e = grown_by phase B piece ∙ ap (λ (b : Bool). B ++ payload_of b piece) e ∙ append-nil B

pub still_comes : (task : Task) (phase : Phase) (B piece : List ℕ) (inside : Bool) → in_payload phase ≡ inside → (inside ≡ true → task.setting.source ≡ attached) → given_to B task ≡ task → given_to (grown phase B piece) task ≡ task
still_comes task phase B piece true is source came = given_attached task (grown phase B piece) (source refl)
still_comes task phase B piece false is source came = ap (λ (t : List ℕ). given_to t task) (grown_outside phase B piece is) ∙ came

pub whatever_then : {H D : ℕ} (task : Task) (phase : Phase) (s B piece : List ℕ) (next : Reader H D) (inside : Bool) → in_payload phase ≡ inside → (inside ≡ true → task.setting.source ≡ attached) → SoFar task s (grown phase B piece) next
    → ((more : List ℕ) → SoFar (given_to (B ++ more) task) s (grown phase B piece) next) → (more : List ℕ) → SoFar (given_to (grown phase B piece ++ more) task) s (grown phase B piece) next
whatever_then task phase s B piece next true is source now later more = subst (λ (t : Task). SoFar t s (grown phase B piece) next) (sym (given_attached task (grown phase B piece ++ more) (source refl))) now
whatever_then task phase s B piece next false is source now later more = subst (λ (t : List ℕ). SoFar (given_to (t ++ more) task) s (grown phase B piece) next) (sym (grown_outside phase B piece is)) (later more)

-- ---- bytes of a detached payload

module _ {H D : ℕ} {task : Task} {B : List ℕ} {n : ℕ} {v : Reader H D} {reading : List ℕ → Reading} where
  -- Where it is awaited, it is detached.
  pub reads_on_beside : ReaderMeans task B n v reading → (p : Detached) → v.phase ≡ phases.Detached p → (came : List ℕ) × (task.setting.source ≡ detached came p.length)
  reads_on_beside h p is =
      let held : HoldsIn task h.known h.so_far n v (phases.Detached p) = subst (λ (phase : Phase). HoldsIn task h.known h.so_far n v phase) is h.holds in
      (h.known.payload ++ held.5.0, held.5.1)

pub came_more : (task : Task) (came : List ℕ) {n : ℕ} → (before : List ℕ) × (task.setting.source ≡ detached before n) → came_of (given_to came task).setting.source ≡ came
came_more task came h = ap (λ (source : Source). came_of (with_came came source)) h.1

-- A reader that has a meaning whatever comes of the payload then has it for what has come.
pub now_given : {H D : ℕ} (task : Task) (s B : List ℕ) (v : Reader H D) → ((more : List ℕ) → SoFar (given_to (B ++ more) task) s B v) → SoFar (given_to B task) s B v
now_given task s B v later = subst (λ (t : List ℕ). SoFar (given_to t task) s B v) (append-nil B) (later [])
