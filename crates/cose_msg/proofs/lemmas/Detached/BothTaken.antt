-- A message and its detached payload, taken from two intakes in turn: the message up to its nil, the payload, and the rest.
use Rattle.std.proofs.Common.{◌≡◌, inl, inr, ℕ, ◌+◌, ◌-◌, ◌<◌, ◌≤◌, Bool, true, false, List, [], ◌∷◌, ◌++◌, length, take, Option, None, Some, refl, sym, ap, subst, ◌∙◌, append_assoc, arith, length-append}
use Rattle.std.specs.Io.KnownBytes.{Appends, Consumes}
use Rattle.std.proofs.KnownBytes.{Consumes-nil, Consumes-trans, Appends-trans}
use Rattle.std.proofs.lemmas.Bool.{cases_lt}
use Rattle.std.proofs.lemmas.List.{append-nil, take-append-le}
use Rattle.std.proofs.Math.Seq.{take-append-add}
use Rattle.cose_msg.specs.declared.verdict.Stop.{Stop}
use Rattle.cose_msg.specs.declared.verdict.Stop.TheVariants as stops
use Rattle.cose_msg.specs.declared.verifier.Verifier.{Verifier}
use Rattle.cose_msg.specs.Change.{IntakeChange, SinkChange, intake_from, sink_from}
use Rattle.cose_msg.specs.Detached.{TakesDetachedPayload, TakesBoth, TakesDetached, WantsMore}
use Rattle.cose_msg.specs.Intake.{TakesInAll}
use Rattle.cose_msg.specs.Kept.{HasTaken}
use Rattle.cose_msg.specs.Laws.{OpenStays, receiving}
use Rattle.cose_msg.specs.Message.{Setting, message}
use Rattle.cose_msg.specs.Reading.{Reading}
use Rattle.cose_msg.specs.Rules.{Rules}
use Rattle.cose_msg.specs.Run.{TakesMessage, Ends, Grows, TakesUntilStop}
use Rattle.cose_msg.specs.Shown.{ShowsReading}
use Rattle.cose_msg.specs.Phase.{is_settled, payload_want_of}
use Rattle.cose_msg.specs.Source.{Source, attached, detached, is_detached_from, stated_of, with_came}
use Rattle.cose_msg.specs.Status.{payload_wanted_in}
use Rattle.cose_msg.specs.Task.{Task, given_to, rules_of}
use Rattle.cose_msg.proofs.lemmas.Detached.PayloadRuns.{wanted_by, wanted_is_stated}
use Rattle.cose_msg.proofs.lemmas.Deciding.PhaseCases.{awaited_is_settled}
use Rattle.cose_msg.proofs.lemmas.Run.Runs.{AppendsFront-then, without_more}
use Rattle.cose_msg.proofs.lemmas.Feeding.Statuses.{unsettled_open}

-- ---- rules under which more has come

rules_inspected_for : (H D : ℕ) (came : List ℕ) (setting : Setting) (elsewhere : Bool) → setting.elsewhere ≡ elsewhere → rules_of H D (given_to came (record { setting = setting; inspects = true })) ≡ receiving came (rules_of H D (record { setting = setting; inspects = true }))
rules_inspected_for H D came setting true e = rw e refl
rules_inspected_for H D came setting false e = rw e refl

rules_given_for : (H D : ℕ) (came : List ℕ) (setting : Setting) (inspects : Bool) → rules_of H D (given_to came (record { setting = setting; inspects = inspects })) ≡ receiving came (rules_of H D (record { setting = setting; inspects = inspects }))
rules_given_for H D came setting true = rules_inspected_for H D came setting setting.elsewhere refl
rules_given_for H D came setting false = refl

pub rules_given : (H D : ℕ) (came : List ℕ) (task : Task) → rules_of H D (given_to came task) ≡ receiving came (rules_of H D task)
rules_given H D came task = rules_given_for H D came task.setting task.inspects

-- What isn't settled stays, whatever comes.
pub open_whatever : OpenStays → (H D : ℕ) (task : Task) (B came bytes : List ℕ) → given_to B task ≡ task → (message (rules_of H D task) bytes).settled ≡ false → message (rules_of H D (given_to (B ++ came) task)) bytes ≡ message (rules_of H D task) bytes
open_whatever stays H D task B came bytes known unsettled =
    let before : receiving B (rules_of H D task) ≡ rules_of H D task = sym (rules_given H D B task) ∙ ap (rules_of H D) known in
    let reads : message (receiving B (rules_of H D task)) bytes ≡ message (rules_of H D task) bytes = ap (λ (rules : Rules). message rules bytes) before in
    let still : (message (receiving B (rules_of H D task)) bytes).settled ≡ false = ap (λ (r : Reading). r.settled) reads ∙ unsettled in
    ap (λ (rules : Rules). message rules bytes) (rules_given H D (B ++ came) task) ∙ stays (rules_of H D task) B came bytes still ∙ reads

-- ---- known bytes

pub TakesInAll-then : (a b c : Option (List ℕ)) (x y : List ℕ) → Consumes a b x → TakesInAll b c y → TakesInAll a c (x ++ y)
TakesInAll-then None b c x y p q = tt
TakesInAll-then (Some xs) None c x y p q = absurd p
TakesInAll-then (Some xs) (Some ys) None x y p q = (q.0, p ∙ ap (λ (t : List ℕ). x ++ t) q.1 ∙ sym (append_assoc x y q.0))
TakesInAll-then (Some xs) (Some ys) (Some zs) x y p q = p ∙ ap (λ (t : List ℕ). x ++ t) q ∙ sym (append_assoc x y zs)

Grows-then : (a b c : Option (List ℕ)) (stop : Option Stop) (x y : List ℕ) → Appends a b x → Grows (sink_from b c) stop y → Grows (sink_from a c) stop (x ++ y)
Grows-then a b c None x y p q = Appends-trans a b c x y p q
Grows-then a b c (Some stops.Intake) x y p q = Appends-trans a b c x y p q
Grows-then a b c (Some stops.Sink) x y p q = AppendsFront-then a b c x y p q
Grows-then a b c (Some stops.Again) x y p q = Appends-trans a b c x y p q

-- The message's intake was taken last, and it or the sink may have failed; and then the payload's.
message_last : (a b c : Option (List ℕ)) (ended : Bool) (of_payload : IntakeChange) (stop : Option Stop) (x y came : List ℕ) → Consumes a b x → TakesUntilStop (intake_from b c ended) stop y → Consumes of_payload.before of_payload.after came →
    TakesBoth (intake_from a c ended) of_payload stop (x ++ y) came
message_last a b c ended of_payload None x y came first last beside = (Consumes-trans a b c x y first last, beside)
message_last a b c ended of_payload (Some stops.Intake) x y came first last beside = inl (TakesInAll-then a b c x y first last, beside)
message_last a b c ended of_payload (Some stops.Sink) x y came first last beside = (Consumes-trans a b c x y first last, beside)
message_last a b c ended of_payload (Some stops.Again) x y came first last beside = (Consumes-trans a b c x y first last, beside)

payload_last : (intake of_payload : IntakeChange) (stop : Option Stop) (x came : List ℕ) → Consumes intake.before intake.after x → TakesUntilStop of_payload stop came → TakesBoth intake of_payload stop x came
payload_last intake of_payload None x came first last = (first, last)
payload_last intake of_payload (Some stops.Intake) x came first last = inr (first, last)
payload_last intake of_payload (Some stops.Sink) x came first last = (first, last)
payload_last intake of_payload (Some stops.Again) x came first last = (first, last)

-- ---- the message up to its nil

-- A drive over a message whose payload is detached puts nothing.
module _ {H D : ℕ} {S : Type 0} {K : _} {task : Task} {s B : List ℕ} {intake : IntakeChange} {sink : SinkChange} {stop : Option Stop} {v : Verifier H D S K} (d : TakesMessage task s B intake sink stop v) (detached : is_detached_from task.setting.source ≡ true) where
  pub so_far_alone : (message (rules_of H D task) (s ++ d.taken)).so_far.payload ≡ B
  so_far_alone = d.payload ∙ ap (λ (t : List ℕ). B ++ t) (d.beside detached) ∙ append-nil B

  pub grows_nothing : Grows sink stop []
  grows_nothing = subst (λ (t : List ℕ). Grows sink stop t) (d.beside detached) d.grows

pub taken_alone : {H D : ℕ} {S : Type 0} {K : _} {task : Task} {s B part : List ℕ} {v : Verifier H D S K} → part ≡ [] → HasTaken task s (B ++ part) v → HasTaken task s B v
taken_alone {H} {D} {S} {K} {task} {s} {B} {part} {v} none h = subst (λ (t : List ℕ). HasTaken task s t v) (ap (λ (t : List ℕ). B ++ t) none ∙ append-nil B) h

-- The task, where nothing more has come.
as_known : (task : Task) (B : List ℕ) → given_to B task ≡ task → given_to (B ++ []) task ≡ task
as_known task B known = ap (λ (t : List ℕ). given_to t task) (append-nil B) ∙ known

module _ {H D : ℕ} {S : Type 0} {K : _} {task : Task} {s B : List ℕ} {come come_after : Option (List ℕ)} {ended : Bool} {sink : SinkChange} {v : Verifier H D S K} (known : given_to B task ≡ task) (detached : is_detached_from task.setting.source ≡ true) (beside : Option (List ℕ)) (beside_ended : Bool) where
  -- The message's intake has failed before its nil.
  pub stopped_before_nil : (stop : Stop) → TakesMessage task s B (intake_from come come_after ended) sink (Some stop) v → TakesDetached task s B (intake_from come come_after ended) (intake_from beside beside beside_ended) sink (Some stop) v
  stopped_before_nil stop d =
      let same : given_to (B ++ []) task ≡ task = as_known task B known in
      record {
        taken = d.taken;
        came = [];
        bytes = message_last come come come_after ended (intake_from beside beside beside_ended) (Some stop) [] d.taken [] (Consumes-nil come) d.bytes (Consumes-nil beside);
        none_after_end = λ n lt. ap (λ (t : Task). (message (rules_of H D t) (s ++ take n d.taken)).settled) same ∙ d.none_after_end n lt;
        within = omega arith;
        reads_on = subst (λ (t : Task). WantsMore (message (rules_of H D t) (s ++ d.taken))) (sym same) (unsettled_open (message (rules_of H D task) (s ++ d.taken)) d.reads_on);
        counted = d.counted;
        shows = subst (λ (t : Task). ShowsReading t (s ++ d.taken) v) (sym same) d.shows;
        payload = ap (λ (t : Task). (message (rules_of H D t) (s ++ d.taken)).so_far.payload) same ∙ so_far_alone d detached ∙ sym (append-nil B);
        grows = grows_nothing d detached;
      }

  -- No byte of the payload is wanted.
  pub none_awaited : (d : TakesMessage task s B (intake_from come come_after ended) sink None v) → (message (rules_of H D task) (s ++ d.taken)).payload_wanted ≡ 0 → TakesDetached task s B (intake_from come come_after ended) (intake_from beside beside beside_ended) sink None v
  none_awaited d none =
      let same : given_to (B ++ []) task ≡ task = as_known task B known in
      let now : HasTaken task (s ++ d.taken) (B ++ []) v = subst (λ (t : List ℕ). HasTaken task (s ++ d.taken) (B ++ t) v) (d.beside detached) d.reads_on.0 in
      record {
        taken = d.taken;
        came = [];
        bytes = message_last come come come_after ended (intake_from beside beside beside_ended) None [] d.taken [] (Consumes-nil come) d.bytes (Consumes-nil beside);
        none_after_end = λ n lt. ap (λ (t : Task). (message (rules_of H D t) (s ++ take n d.taken)).settled) same ∙ d.none_after_end n lt;
        within = omega arith;
        reads_on = (
          subst (λ (t : Task). HasTaken t (s ++ d.taken) (B ++ []) v) (sym same) now,
          subst (λ (t : Task). Ends (length d.taken) (intake_from come come_after ended) (message (rules_of H D t) (s ++ d.taken))) (sym same) d.reads_on.1,
          record {
            missing = λ some. absurd (omega (arith, some, ap (λ (t : Task). (message (rules_of H D t) (s ++ d.taken)).payload_wanted) same, none));
            whole = λ zero lt. absurd (omega arith);
          },
        );
        counted = d.counted;
        shows = subst (λ (t : Task). ShowsReading t (s ++ d.taken) v) (sym same) d.shows;
        payload = ap (λ (t : Task). (message (rules_of H D t) (s ++ d.taken)).so_far.payload) same ∙ so_far_alone d detached ∙ sym (append-nil B);
        grows = grows_nothing d detached;
      }

-- ---- the payload

-- What didn't settle the message doesn't settle it, whatever comes of the payload.
still_open : {H D : ℕ} {S : Type 0} {K : _} → OpenStays → {task : Task} {s B : List ℕ} {intake : IntakeChange} {sink : SinkChange} {v : Verifier H D S K} → given_to B task ≡ task → (d : TakesMessage task s B intake sink None v) → (came : List ℕ) (n : ℕ) → n < length d.taken
    → (message (rules_of H D (given_to (B ++ came) task)) (s ++ take n d.taken)).settled ≡ false
still_open {H} {D} {S} {K} stays {task} {s} {B} known d came n lt = ap (λ (r : Reading). r.settled) (open_whatever stays H D task B came (s ++ take n d.taken) known (d.none_after_end n lt)) ∙ d.none_after_end n lt

module _ {H D : ℕ} {S : Type 0} {K : _} (stays : OpenStays) {task : Task} {s B : List ℕ} {intake of_payload : IntakeChange} {contents contents_now contents_after : Option (List ℕ)} {v next : Verifier H D S K} (known : given_to B task ≡ task) (detached : is_detached_from task.setting.source ≡ true)
    (d : TakesMessage task s B intake (sink_from contents contents_now) None v) where
  pub stopped_in_payload : (stop : Stop) → TakesDetachedPayload task (s ++ d.taken) B of_payload (sink_from contents_now contents_after) (Some stop) next → TakesDetached task s B intake of_payload (sink_from contents contents_after) (Some stop) next
  stopped_in_payload stop b = record {
    taken = d.taken;
    came = b.came;
    bytes = payload_last intake of_payload (Some stop) d.taken b.came d.bytes b.bytes;
    none_after_end = still_open stays known d b.came;
    within = b.within;
    reads_on = b.reads_on;
    counted = b.counted;
    shows = b.shows;
    payload = b.payload;
    grows = Grows-then contents contents_now contents_after (Some stop) [] b.came (grows_nothing d detached) b.grows;
  }

  -- The payload's intake has ended before all of it had come. The message is settled then, and so it was before.
  pub ended_in_payload : (b : TakesDetachedPayload task (s ++ d.taken) B of_payload (sink_from contents_now contents_after) None next) → (message (rules_of H D task) (s ++ d.taken)).settled ≡ true
      → (message (rules_of H D (given_to (B ++ b.came) task)) (s ++ d.taken)).settled ≡ true → TakesDetached task s B intake of_payload (sink_from contents contents_after) None next
  ended_in_payload b before now = record {
    taken = d.taken;
    came = b.came;
    bytes = payload_last intake of_payload None d.taken b.came d.bytes b.bytes;
    none_after_end = still_open stays known d b.came;
    within = b.within;
    reads_on = (b.reads_on.0, record { unsettled = λ e. (let clash : true ≡ false = sym now ∙ e in absurd cc); settled = λ e. d.reads_on.1.settled before }, b.reads_on.1);
    counted = b.counted;
    shows = b.shows;
    payload = b.payload;
    grows = Grows-then contents contents_now contents_after None [] b.came (grows_nothing d detached) b.grows;
  }

-- ---- the rest of the message

-- No byte of both pieces but the last settles the message.
none_of_both : (rules : Rules) (s first last : List ℕ) → ((n : ℕ) → n < length first → (message rules (s ++ take n first)).settled ≡ false) → ((n : ℕ) → n < length last → (message rules ((s ++ first) ++ take n last)).settled ≡ false) →
    (n : ℕ) → n < length (first ++ last) → (message rules (s ++ take n (first ++ last))).settled ≡ false
none_of_both rules s first last before after n lt = elim (cases_lt n (length first)) [
  | inl earlier ↦ (let le : n ≤ length first = omega arith in rw (take-append-le n first last le) (before n earlier))
  | inr later ↦ (
      let m : ℕ = n - length first in
      let place : n ≡ length first + m = omega arith in
      let e : take n (first ++ last) ≡ first ++ take m last = ap (λ (k : ℕ). take k (first ++ last)) place ∙ take-append-add first last m in
      let short : m < length last = omega (arith, lt, later, length-append first last) in
      rw (e, ← append_assoc s first (take m last)) (after m short))
]

-- The rest begins where the message isn't settled, so it has a byte where it settles the message.
ends_later : (rules : Rules) (s first last : List ℕ) (come come_now come_after : Option (List ℕ)) (ended : Bool) → (message rules (s ++ first)).settled ≡ false → Ends (length last) (intake_from come_now come_after ended) (message rules ((s ++ first) ++ last)) → Ends (length (first ++ last)) (intake_from come come_after ended) (message rules (s ++ (first ++ last)))
ends_later rules s first last come come_now come_after ended unsettled e = elim last as (λ (l : List ℕ). Ends (length l) (intake_from come_now come_after ended) (message rules ((s ++ first) ++ l)) → Ends (length (first ++ l)) (intake_from come come_after ended) (message rules (s ++ (first ++ l)))) [
  | [] ↦ λ h. (
      let none : (message rules (s ++ (first ++ []))).settled ≡ false = ap (λ (t : List ℕ). (message rules (s ++ t)).settled) (append-nil first) ∙ unsettled in
      let there : (message rules ((s ++ first) ++ [])).settled ≡ false = ap (λ (t : List ℕ). (message rules t).settled) (append-nil (s ++ first)) ∙ unsettled in
      record { unsettled = λ open_yet. h.unsettled there; settled = λ yes. (let clash : true ≡ false = sym yes ∙ none in absurd cc) })
  | x ∷ xs ↦ λ h. (
      let same : (message rules (s ++ (first ++ (x ∷ xs)))).settled ≡ (message rules ((s ++ first) ++ (x ∷ xs))).settled = ap (λ (t : List ℕ). (message rules t).settled) (sym (append_assoc s first (x ∷ xs))) in
      record { unsettled = λ open_yet. h.unsettled (sym same ∙ open_yet); settled = λ yes some. h.settled (sym same ∙ yes) (omega arith) })
] e

module _ {H D : ℕ} {S : Type 0} {K : _} (stays : OpenStays) {task : Task} {s B : List ℕ} {come come_now come_after contents contents_now contents_then contents_after : Option (List ℕ)} {ended ended_after : Bool} {of_payload : IntakeChange} {v then_v next : Verifier H D S K} (known : given_to B task ≡ task) (detached : is_detached_from task.setting.source ≡ true)
    (d : TakesMessage task s B (intake_from come come_now ended) (sink_from contents contents_now) None v) (b : TakesDetachedPayload task (s ++ d.taken) B of_payload (sink_from contents_now contents_then) None then_v) (unsettled : (message (rules_of H D (given_to (B ++ b.came) task)) (s ++ d.taken)).settled ≡ false)
    (given_is_detached : is_detached_from (given_to (B ++ b.came) task).setting.source ≡ true) where
  pub stopped_in_rest : (stop : Stop) → TakesMessage (given_to (B ++ b.came) task) (s ++ d.taken) (B ++ b.came) (intake_from come_now come_after ended_after) (sink_from contents_then contents_after) (Some stop) next → TakesDetached task s B (intake_from come come_after ended_after) of_payload (sink_from contents contents_after) (Some stop) next
  stopped_in_rest stop r =
      let regrouped : (s ++ d.taken) ++ r.taken ≡ s ++ (d.taken ++ r.taken) = append_assoc s d.taken r.taken in
      record {
        taken = d.taken ++ r.taken;
        came = b.came;
        bytes = message_last come come_now come_after ended_after of_payload (Some stop) d.taken r.taken b.came d.bytes r.bytes b.bytes;
        none_after_end = none_of_both (rules_of H D (given_to (B ++ b.came) task)) s d.taken r.taken (still_open stays known d b.came) r.none_after_end;
        within = b.within;
        reads_on = subst (λ (t : List ℕ). WantsMore (message (rules_of H D (given_to (B ++ b.came) task)) t)) regrouped (unsettled_open (message (rules_of H D (given_to (B ++ b.came) task)) ((s ++ d.taken) ++ r.taken)) r.reads_on);
        counted = r.counted ∙ ap length regrouped;
        shows = subst (λ (t : List ℕ). ShowsReading (given_to (B ++ b.came) task) t next) regrouped r.shows;
        payload = ap (λ (t : List ℕ). (message (rules_of H D (given_to (B ++ b.came) task)) t).so_far.payload) (sym regrouped) ∙ so_far_alone r given_is_detached;
        grows = subst (λ (t : List ℕ). Grows (sink_from contents contents_after) (Some stop) t) (append-nil b.came) (Grows-then contents contents_then contents_after (Some stop) b.came [] (Appends-trans contents contents_now contents_then [] b.came (grows_nothing d detached) b.grows) (grows_nothing r given_is_detached));
      }

  pub took_rest : (r : TakesMessage (given_to (B ++ b.came) task) (s ++ d.taken) (B ++ b.came) (intake_from come_now come_after ended_after) (sink_from contents_then contents_after) None next) → (message (rules_of H D (given_to (B ++ b.came) task)) ((s ++ d.taken) ++ r.taken)).payload_wanted ≡ 0
      → (message (rules_of H D (given_to (B ++ b.came) task)) (s ++ d.taken)).payload_wanted ≡ 0 → TakesDetached task s B (intake_from come come_after ended_after) of_payload (sink_from contents contents_after) None next
  took_rest r none none_before =
      let regrouped : (s ++ d.taken) ++ r.taken ≡ s ++ (d.taken ++ r.taken) = append_assoc s d.taken r.taken in
      record {
        taken = d.taken ++ r.taken;
        came = b.came;
        bytes = message_last come come_now come_after ended_after of_payload None d.taken r.taken b.came d.bytes r.bytes b.bytes;
        none_after_end = none_of_both (rules_of H D (given_to (B ++ b.came) task)) s d.taken r.taken (still_open stays known d b.came) r.none_after_end;
        within = b.within;
        reads_on = (
          subst (λ (t : List ℕ). HasTaken (given_to (B ++ b.came) task) t (B ++ b.came) next) regrouped (taken_alone (r.beside given_is_detached) r.reads_on.0),
          ends_later (rules_of H D (given_to (B ++ b.came) task)) s d.taken r.taken come come_now come_after ended_after unsettled r.reads_on.1,
          record {
            missing = λ some. absurd (omega (arith, some, ap (λ (t : List ℕ). (message (rules_of H D (given_to (B ++ b.came) task)) t).payload_wanted) regrouped, none));
            whole = λ zero lt. b.reads_on.1.whole none_before lt;
          },
        );
        counted = r.counted ∙ ap length regrouped;
        shows = subst (λ (t : List ℕ). ShowsReading (given_to (B ++ b.came) task) t next) regrouped r.shows;
        payload = ap (λ (t : List ℕ). (message (rules_of H D (given_to (B ++ b.came) task)) t).so_far.payload) (sym regrouped) ∙ so_far_alone r given_is_detached;
        grows = subst (λ (t : List ℕ). Grows (sink_from contents contents_after) None t) (append-nil b.came) (Grows-then contents contents_then contents_after None b.came [] (Appends-trans contents contents_now contents_then [] b.came (grows_nothing d detached) b.grows) (grows_nothing r given_is_detached));
      }

  pub took_or_stopped : (stop : Option Stop) → ((r : TakesMessage (given_to (B ++ b.came) task) (s ++ d.taken) (B ++ b.came) (intake_from come_now come_after ended_after) (sink_from contents_then contents_after) None next) → (message (rules_of H D (given_to (B ++ b.came) task)) ((s ++ d.taken) ++ r.taken)).payload_wanted ≡ 0)
      → (message (rules_of H D (given_to (B ++ b.came) task)) (s ++ d.taken)).payload_wanted ≡ 0 → TakesMessage (given_to (B ++ b.came) task) (s ++ d.taken) (B ++ b.came) (intake_from come_now come_after ended_after) (sink_from contents_then contents_after) stop next
      → TakesDetached task s B (intake_from come come_after ended_after) of_payload (sink_from contents contents_after) stop next
  took_or_stopped None none before r = took_rest r (none r) before
  took_or_stopped (Some stop) none before r = stopped_in_rest stop r

-- ---- what is wanted

pub detached_whatever : (came : List ℕ) (source : Source) → is_detached_from (with_came came source) ≡ is_detached_from source
detached_whatever came attached = refl
detached_whatever came (detached before detached_length) = refl

pub detached_given : (came : List ℕ) (task : Task) → is_detached_from task.setting.source ≡ true → is_detached_from (given_to came task).setting.source ≡ true
detached_given came task is = detached_whatever came task.setting.source ∙ is

-- Where bytes of the payload are wanted, the message is settled.
pub settled_awaiting : {H D : ℕ} {S : Type 0} {K : _} {task : Task} {s B : List ℕ} {v : Verifier H D S K} → HasTaken task s B v → (message (rules_of H D task) (s ++ [])).settled ≡ is_settled v.reader.phase → 0 < payload_wanted_in v → (message (rules_of H D task) s).settled ≡ true
settled_awaiting {H} {D} {S} {K} {task} {s} {B} {v} h same some =
    let wanted : 0 < payload_want_of v.reader.phase = omega (arith, some, wanted_by v h.goes_on) in
    ap (λ (r : Reading). r.settled) (sym (without_more H D task s)) ∙ same ∙ awaited_is_settled v.reader.phase wanted

-- Where all bytes of the payload have come, none is wanted.
pub all_there : {H D : ℕ} {S : Type 0} {K : _} {task : Task} {s B : List ℕ} {v : Verifier H D S K} → HasTaken task s B v → (message (rules_of H D task) (s ++ [])).payload_wanted ≡ payload_want_of v.reader.phase → length B ≡ stated_of task.setting.source → (message (rules_of H D task) s).payload_wanted ≡ 0
all_there {H} {D} {S} {K} {task} {s} {B} {v} h same all =
    let here : (message (rules_of H D task) s).payload_wanted ≡ payload_want_of v.reader.phase = ap (λ (r : Reading). r.payload_wanted) (sym (without_more H D task s)) ∙ same in
    here ∙ elim (cases_lt 0 (payload_want_of v.reader.phase)) [
      | inl some ↦ absurd (omega (arith, some, all, wanted_is_stated h.so_far some))
      | inr none ↦ omega (arith, none)
    ]
