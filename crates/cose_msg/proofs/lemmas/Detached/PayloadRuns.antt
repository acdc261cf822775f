-- A detached payload that is taken from an intake of its own: so far, and the exits.
use Rattle.std.proofs.Common.{◌≡◌, inl, inr, ℕ, ◌+◌, ◌-◌, ◌<◌, ◌≤◌, Bool, true, false, cond, List, [], ◌++◌, length, take, Option, None, Some, refl, sym, ap, subst, ◌∙◌, append_assoc, arith, length-append}
use Rattle.std.specs.Prelude.{min}
use Rattle.std.specs.Io.KnownBytes.{Appends, Consumes, IsAtEnd}
use Rattle.std.proofs.KnownBytes.{Consumes-nil, Consumes-trans, Appends-nil, Appends-trans}
use Rattle.std.proofs.lemmas.List.{append-nil}
use Rattle.std.proofs.Math.Seq.{take-length}
use Rattle.cose_msg.specs.declared.phase.Phase.TheVariants as phases
use Rattle.cose_msg.specs.declared.reader.Reader.{Reader}
use Rattle.cose_msg.specs.declared.verdict.Stop.{Stop}
use Rattle.cose_msg.specs.declared.verifier.Verifier.{Verifier}
use Rattle.cose_msg.specs.Change.{IntakeChange, SinkChange, intake_from, sink_from}
use Rattle.cose_msg.specs.Detached.{TakesDetachedPayload}
use Rattle.cose_msg.specs.Kept.{HasTaken}
use Rattle.cose_msg.specs.Message.{message}
use Rattle.cose_msg.specs.Phase.{payload_want_of}
use Rattle.cose_msg.specs.Reading.{Reading}
use Rattle.cose_msg.specs.Run.{Grows, TakesUntilStop}
use Rattle.cose_msg.specs.Shown.{ShowsReading, shown_in, shown_of}
use Rattle.cose_msg.specs.Source.{Source, attached, detached, stated_of, with_came}
use Rattle.cose_msg.specs.Status.{is_open, payload_wanted_in, status_of_phase, status_in, status_of_reading}
use Rattle.cose_msg.specs.Task.{Task, given_to, rules_of}
use Rattle.cose_msg.specs.Reader.{HoldsIn, ReaderMeans}
use Rattle.cose_msg.specs.Verifier.{setting_in}
use Rattle.cose_msg.proofs.lemmas.Detached.PayloadTaken.{given_again}
use Rattle.cose_msg.proofs.lemmas.Deciding.PhaseCases.{awaits_or_not}
use Rattle.cose_msg.proofs.lemmas.Run.Runs.{without_more}
use Rattle.cose_msg.proofs.lemmas.Feeding.Statuses.{none_wanted, open_unsettled}

-- ---- how much is wanted

-- What is wanted of a detached payload is what is stated and hasn't come.
pub wanted_is_stated : {H D : ℕ} {task : Task} {B : List ℕ} {n : ℕ} {v : Reader H D} {reading : List ℕ → Reading} → ReaderMeans task B n v reading → 0 < payload_want_of v.phase → length B + payload_want_of v.phase ≡ stated_of task.setting.source
wanted_is_stated {H} {D} {task} {B} {n} {v} {reading} h some = elim (awaits_or_not v.phase) [
  | inl none ↦ absurd (omega (arith, some, none))
  | inr w ↦ (
      let held : HoldsIn task h.known h.so_far n v (phases.Detached w.0) = subst (λ phase. HoldsIn task h.known h.so_far n v phase) w.1 h.holds in
      let detached_length : length h.known.payload + w.0.left ≡ stated_of task.setting.source = held.1 ∙ sym (ap stated_of held.5.1) in
      let so_far : length h.known.payload ≡ length B = ap length h.payload_known in
      omega (arith, detached_length, so_far, ap payload_want_of w.1))
]

stated_whatever : (came : List ℕ) (source : Source) → stated_of (with_came came source) ≡ stated_of source
stated_whatever came attached = refl
stated_whatever came (detached before detached_length) = refl

pub stated_given : (task : Task) (came : List ℕ) → stated_of (given_to came task).setting.source ≡ stated_of task.setting.source
stated_given task came = stated_whatever came task.setting.source

pub wanted_by : {H D : ℕ} {S : Type 0} {K : _} (v : Verifier H D S K) → v.stopped ≡ false → payload_wanted_in v ≡ payload_want_of v.reader.phase
wanted_by v goes_on = rw goes_on refl

-- ---- a run so far

pub record Bringing {H D : ℕ} {S : Type 0} {K : _} (task : Task) (s B : List ℕ) (beside beside_now : Option (List ℕ)) (ended_now : Bool) (contents contents_now : Option (List ℕ)) (sure sure_now : ℕ) (v : Verifier H D S K) : Type 0 where
  pub came : List ℕ
  pub bytes : Consumes beside beside_now came
  pub reads_on : HasTaken (given_to (B ++ came) task) s (B ++ came) v
  pub within : length came ≤ stated_of task.setting.source - length B
  pub complete : payload_wanted_in v ≡ 0 → length (B ++ came) ≡ stated_of task.setting.source
  pub not_ended : 0 < length came → ended_now ≡ false
  pub payload : Appends contents contents_now came
  pub promise : sure ≤ sure_now + length came

-- A task under which these bytes have come is one under which they come.
pub given_as_known : {H D : ℕ} {S : Type 0} {K : _} {task : Task} {s B : List ℕ} {v : Verifier H D S K} → HasTaken task s B v → HasTaken (given_to (B ++ []) task) s (B ++ []) v
given_as_known {H} {D} {S} {K} {task} {s} {B} {v} h =
    let known : HasTaken (given_to B task) s B v = subst (λ (t : Task). HasTaken t s B v) (sym h.came) h in
    subst (λ (t : List ℕ). HasTaken (given_to t task) s t v) (sym (append-nil B)) known

pub brings_nothing : {H D : ℕ} {S : Type 0} {K : _} {task : Task} {s B : List ℕ} {v : Verifier H D S K} (beside contents : Option (List ℕ)) (ended : Bool) (sure : ℕ) → 0 < payload_wanted_in v → HasTaken task s B v → Bringing task s B beside beside ended contents contents sure sure v
brings_nothing {H} {D} {S} {K} {task} {s} {B} {v} beside contents ended sure some h = record {
  came = [];
  bytes = Consumes-nil beside;
  reads_on = given_as_known h;
  within = omega arith;
  complete = λ none. absurd (omega (arith, some, none));
  not_ended = λ lt. absurd (omega arith);
  payload = Appends-nil contents;
  promise = omega arith;
}

-- ---- a piece more

module _ {H D : ℕ} {S : Type 0} {K : _} {task : Task} {s B : List ℕ} {beside beside_now contents contents_now : Option (List ℕ)} {ended : Bool} {sure sure_now : ℕ} {v : Verifier H D S K} (a : Bringing task s B beside beside_now ended contents contents_now sure sure_now v) where
  pub came_next : {next : Verifier H D S K} (piece : List ℕ) (used : ℕ) → used ≡ length piece
      → HasTaken (given_to ((B ++ a.came) ++ take used piece) (given_to (B ++ a.came) task)) s ((B ++ a.came) ++ take used piece) next
      → HasTaken (given_to (B ++ (a.came ++ piece)) task) s (B ++ (a.came ++ piece)) next
  came_next {next} piece used e h =
      let all : take used piece ≡ piece = ap (λ (n : ℕ). take n piece) e ∙ take-length piece in
      let whole : (B ++ a.came) ++ take used piece ≡ B ++ (a.came ++ piece) = ap (λ (t : List ℕ). (B ++ a.came) ++ t) all ∙ append_assoc B a.came piece in
      let same : HasTaken (given_to ((B ++ a.came) ++ take used piece) task) s ((B ++ a.came) ++ take used piece) next = subst (λ (t : Task). HasTaken t s ((B ++ a.came) ++ take used piece) next) (given_again task ((B ++ a.came) ++ take used piece) (B ++ a.came)) h in
      subst (λ (t : List ℕ). HasTaken (given_to t task) s t next) whole same

  pub room_left : (n : ℕ) → 0 < n → n ≤ payload_wanted_in v → (length (B ++ a.came) + payload_wanted_in v ≡ stated_of task.setting.source)
  room_left n some fits =
      let wanted : payload_wanted_in v ≡ payload_want_of v.reader.phase = wanted_by v a.reads_on.goes_on in
      let positive : 0 < payload_want_of v.reader.phase = omega (arith, some, fits, wanted) in
      omega (arith, wanted_is_stated a.reads_on.so_far positive, wanted, stated_given task (B ++ a.came))

  pub within_more : (piece : List ℕ) → 0 < length piece → length piece ≤ payload_wanted_in v → length (a.came ++ piece) ≤ stated_of task.setting.source - length B
  within_more piece some fits = omega (arith, room_left (length piece) some fits, fits, length-append B a.came, length-append a.came piece)

  pub brings_more : {next : Verifier H D S K} {beside_after contents_after : Option (List ℕ)} {ended_after : Bool} {sure_after : ℕ} (piece : List ℕ) → 0 < length piece → length piece ≤ payload_wanted_in v → Consumes beside_now beside_after piece
      → HasTaken (given_to (B ++ (a.came ++ piece)) task) s (B ++ (a.came ++ piece)) next → payload_wanted_in next + length piece ≡ payload_wanted_in v → ended_after ≡ false
      → Appends contents_now contents_after piece → sure_now ≤ sure_after + length piece → Bringing task s B beside beside_after ended_after contents contents_after sure sure_after next
  brings_more {next} {beside_after} {contents_after} {ended_after} {sure_after} piece some fits took reads_on left e grew promise = record {
    came = a.came ++ piece;
    bytes = Consumes-trans beside beside_now beside_after a.came piece a.bytes took;
    reads_on = reads_on;
    within = within_more piece some fits;
    complete = λ none. omega (arith, room_left (length piece) some fits, left, none, length-append B a.came, length-append a.came piece, length-append B (a.came ++ piece));
    not_ended = λ lt. e;
    payload = Appends-trans contents contents_now contents_after a.came piece a.payload grew;
    promise = omega (arith, a.promise, promise, length-append a.came piece);
  }

-- ---- exits

-- What a reader gives, without a further byte, is what the reading gives of the bytes taken.
pub record IsAsRead {H D : ℕ} {S : Type 0} {K : _} (task : Task) (s B : List ℕ) (v : Verifier H D S K) : Type 0 where
  pub so_far : (message (rules_of H D task) (s ++ [])).so_far.payload ≡ B
  pub shown : shown_of v ≡ shown_in task (message (rules_of H D task) (s ++ []))
  pub status : status_of_phase v.reader.phase ≡ status_of_reading (message (rules_of H D task) (s ++ []))
  pub wanted : (message (rules_of H D task) (s ++ [])).payload_wanted ≡ payload_want_of v.reader.phase

module _ {H D : ℕ} {S : Type 0} {K : _} {task : Task} {s B : List ℕ} {v : Verifier H D S K} (h : HasTaken task s B v) (r : IsAsRead task s B v) where
  pub read_payload : (message (rules_of H D task) s).so_far.payload ≡ B
  read_payload = ap (λ (t : Reading). t.so_far.payload) (sym (without_more H D task s)) ∙ r.so_far

  pub read_shown : ShowsReading task s v
  read_shown = r.shown ∙ ap (shown_in task) (without_more H D task s)

  pub read_status : status_in v ≡ status_of_reading (message (rules_of H D task) s)
  read_status = rw h.goes_on (r.status ∙ ap status_of_reading (without_more H D task s))

  pub read_wanted : (message (rules_of H D task) s).payload_wanted ≡ payload_wanted_in v
  read_wanted = ap (λ (t : Reading). t.payload_wanted) (sym (without_more H D task s)) ∙ r.wanted ∙ sym (wanted_by v h.goes_on)

-- None is wanted, or the intake has ended.
pub brought : {H D : ℕ} {S : Type 0} {K : _} {task : Task} {s B : List ℕ} {beside beside_now beside_after contents contents_now : Option (List ℕ)} {ended ended_after : Bool} {sure sure_now : ℕ} {v : Verifier H D S K} → (a : Bringing task s B beside beside_now ended contents contents_now sure sure_now v)
    → Consumes beside_now beside_after [] → IsAsRead (given_to (B ++ a.came) task) s (B ++ a.came) v → is_open (status_in v) ≡ true
    → (0 < payload_wanted_in v → (ended_after ≡ true) × IsAtEnd beside_after) → (payload_wanted_in v ≡ 0 → 0 < length a.came → ended_after ≡ false)
    → TakesDetachedPayload task s B (intake_from beside beside_after ended_after) (sink_from contents contents_now) None v
brought {H} {D} {S} {K} {task} {s} {B} {beside} {beside_now} {beside_after} {contents} {contents_now} {ended} {ended_after} {sure} {sure_now} {v} a took r wants missing whole =
    let wanted : (message (rules_of H D (given_to (B ++ a.came) task)) s).payload_wanted ≡ payload_wanted_in v = read_wanted a.reads_on r in
    record {
      came = a.came;
      bytes = subst (λ (t : List ℕ). Consumes beside beside_after t) (append-nil a.came) (Consumes-trans beside beside_now beside_after a.came [] a.bytes took);
      within = a.within;
      reads_on = (
        a.reads_on,
        record { missing = λ some. missing (omega (arith, some, wanted)); whole = λ none. whole (sym wanted ∙ none) },
        λ none. (
          open_unsettled (message (rules_of H D (given_to (B ++ a.came) task)) s) none (ap is_open (sym (read_status a.reads_on r)) ∙ wants),
          a.complete (sym wanted ∙ none) ∙ sym (stated_given task (B ++ a.came)),
        ),
      );
      counted = a.reads_on.counted;
      shows = read_shown a.reads_on r;
      payload = read_payload a.reads_on r;
      grows = a.payload;
    }

-- The intake or the sink has failed.
pub brings_until : {H D : ℕ} {S : Type 0} {K : _} {task : Task} {s B : List ℕ} {of_payload : IntakeChange} {sink : SinkChange} {stepped next : Verifier H D S K} (stop : Stop) (came : List ℕ)
    → TakesUntilStop of_payload (Some stop) came → length came ≤ stated_of task.setting.source - length B
    → HasTaken (given_to (B ++ came) task) s (B ++ came) stepped → IsAsRead (given_to (B ++ came) task) s (B ++ came) stepped → is_open (status_in stepped) ≡ true
    → Grows sink (Some stop) came → next.taken ≡ stepped.taken → shown_of next ≡ shown_of stepped → TakesDetachedPayload task s B of_payload sink (Some stop) next
brings_until stop came bytes within reads_on r wants grows counted shown = record {
  came = came;
  bytes = bytes;
  within = within;
  reads_on = ap is_open (sym (read_status reads_on r)) ∙ wants;
  counted = counted ∙ reads_on.counted;
  shows = shown ∙ read_shown reads_on r;
  payload = read_payload reads_on r;
  grows = grows;
}

-- A piece of no more bytes than are wanted is used whole.
pub whole_piece : {n wanted used : ℕ} → used ≡ min n wanted → n ≤ wanted → used ≡ n
whole_piece e fits = omega (arith, e, fits)

-- The setting stays.
pub keeps_setting : {H D : ℕ} {S : Type 0} {K : _} {task : Task} {s B s' : List ℕ} {v next : Verifier H D S K} (came : List ℕ) → HasTaken (given_to came task) s' came next → HasTaken task s B v → setting_in next ≡ setting_in v
keeps_setting {H} {D} {S} {K} {task} came now before = ap (λ (t : Task). t.setting) (now.made_for ∙ given_again task [] came ∙ sym before.made_for)

-- A sink that is sure of every payload doesn't fail.
pub payload_is_sure : {H D : ℕ} {S : Type 0} {K : _} {task : Task} {s B : List ℕ} {beside beside_now contents contents_now : Option (List ℕ)} {ended : Bool} {sure sure_now : ℕ} {v : Verifier H D S K} (a : Bringing task s B beside beside_now ended contents contents_now sure sure_now v) (piece : List ℕ)
    → length (B ++ (a.came ++ piece)) ≤ task.setting.payload_limit → task.setting.payload_limit ≤ sure + length B → length piece ≤ sure_now
payload_is_sure {H} {D} {S} {K} {task} {s} {B} a piece limit enough = omega (arith, a.promise, limit, enough, length-append B (a.came ++ piece), length-append a.came piece)

goes_on_of : (stopped : Bool) (wanted : ℕ) → 0 < cond stopped 0 wanted → stopped ≡ false
goes_on_of true wanted some = absurd (omega (arith, some))
goes_on_of false wanted some = refl

-- Where bytes of the payload are wanted, the verifier is open.
pub wanted_is_open : {H D : ℕ} {S : Type 0} {K : _} (v : Verifier H D S K) → 0 < payload_wanted_in v → (v.stopped ≡ false) × (is_open (status_in v) ≡ true)
wanted_is_open v some = elim (awaits_or_not v.reader.phase) [
  | inl none ↦ absurd (omega (arith, some, none_wanted v.stopped _ none))
  | inr w ↦ (
      let goes_on : v.stopped ≡ false = goes_on_of v.stopped _ some in
      (goes_on, rw goes_on (ap (λ phase. is_open (status_of_phase phase)) w.1)))
]
