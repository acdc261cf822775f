-- A run of the verifier so far, and its exits.
use Rattle.std.proofs.Common.{◌≡◌, ℕ, zero, suc, ◌+◌, ◌-◌, ◌*◌, ◌^◌, ◌<◌, ◌≤◌, Bool, true, false, List, [], ◌++◌, length, take, Option, None, Some, Ok, Err, refl, sym, ap, subst, ◌∙◌, append_assoc, arith, inl, inr, length-append}
use Rattle.std.specs.Prelude.{Result, IsOk, OnOk, is_err, ◌||◌, ◌⊎◌}
use Rattle.std.specs.Io.KnownBytes.{Appends, Consumes, IsAtEnd}
use Rattle.std.proofs.KnownBytes.{Consumes-nil, Consumes-trans, Appends-nil, Appends-trans}
use Rattle.std.proofs.lemmas.Bool.{cases_lt}
use Rattle.std.proofs.lemmas.List.{append-nil, take-append-le, length-take}
use Rattle.std.proofs.Math.Nat.{min-le_right}
use Rattle.std.proofs.Math.Seq.{take-append-add}
use Rattle.cose_msg.specs.declared.intake.IntakeFault.{IntakeFault}
use Rattle.cose_msg.specs.declared.phase.Phase.{Phase}
use Rattle.cose_msg.specs.declared.phase.Phase.TheVariants as phases
use Rattle.cose_msg.specs.declared.sink.SinkFault.{SinkFault}
use Rattle.cose_msg.specs.declared.reader.Reader.{Reader}
use Rattle.cose_msg.specs.declared.verdict.Stop.{Stop}
use Rattle.cose_msg.specs.declared.verdict.Stop.TheVariants as stops
use Rattle.cose_msg.specs.declared.verifier.Verifier.{Verifier}
use Rattle.cose_msg.specs.Change.{intake_from, sink_from}
use Rattle.cose_msg.specs.Intake.{KeepsOrForgets, TakesInAll, is_end, marks}
use Rattle.cose_msg.specs.Kept.{HasTaken, answer_kept}
use Rattle.cose_msg.specs.Laws.{MessageIsInspectedWithin, VerifiedWithin, payload_inside}
use Rattle.cose_msg.specs.Message.{Setting, comparing, message, uncompared}
use Rattle.cose_msg.specs.Phase.{grown, in_payload, is_settled, want_of}
use Rattle.cose_msg.specs.Reading.{Reading, Findings}
use Rattle.cose_msg.specs.Run.{TakesMessage}
use Rattle.cose_msg.specs.Shown.{ShowsReading, shown_in, shown_of}
use Rattle.cose_msg.specs.Sink.{AppendsFront, Puts}
use Rattle.cose_msg.specs.Source.{Source, attached, detached as apart, is_detached_from}
use Rattle.cose_msg.specs.Task.{Task, rules_of}
use Rattle.cose_msg.specs.Reader.{HoldsIn, Known, ReaderMeans}

pub or_false : (b other : Bool) → other ≡ false → (b || other) ≡ b
or_false true other e = refl
or_false false other e = e

-- ---- known bytes

pub AppendsFront-then : (a b c : Option (List ℕ)) (x y : List ℕ) → Appends a b x → AppendsFront b c y → AppendsFront a c (x ++ y)
AppendsFront-then a b c x y p (front, (rest, whole), q) =
    (x ++ front, (rest, ap (λ (t : List ℕ). x ++ t) whole ∙ sym (append_assoc x front rest)), Appends-trans a b c x front p q)

pub taken_before_failure : (a b c : Option (List ℕ)) (x : List ℕ) → Consumes a b x → KeepsOrForgets b c → TakesInAll a c x
taken_before_failure None b c x p q = tt
taken_before_failure (Some xs) None c x p q = absurd p
taken_before_failure (Some xs) (Some ys) None x p q = (ys, p)
taken_before_failure (Some xs) (Some ys) (Some zs) x p q = p ∙ ap (λ (t : List ℕ). x ++ t) (sym q)

-- ---- a run so far

pub record Along {H D : ℕ} {S : Type 0} {K : _} (task : Task) (s B : List ℕ) (come come_now : Option (List ℕ)) (ended_now : Bool) (contents contents_now : Option (List ℕ)) (sure sure_now : ℕ) (v : Verifier H D S K) : Type 0 where
  pub taken : List ℕ
  pub part : List ℕ
  pub bytes : Consumes come come_now taken
  pub reads_on : HasTaken task (s ++ taken) (B ++ part) v
  pub none_after_end : (n : ℕ) → n < length taken → (message (rules_of H D task) (s ++ take n taken)).settled ≡ false
  pub not_ended : 0 < length taken → ended_now ≡ false
  pub payload : Appends contents contents_now part
  pub promise : sure ≤ sure_now + length part
  pub beside : is_detached_from task.setting.source ≡ true → part ≡ []

abbrev pub at_start : {H D : ℕ} {S : Type 0} {K : _} {task : Task} {s B : List ℕ} {v : Verifier H D S K} (come contents : Option (List ℕ)) (ended : Bool) (sure : ℕ) → HasTaken task s B v → Along task s B come come ended contents contents sure sure v
at_start {H} {D} {S} {K} {task} {s} {B} {v} come contents ended sure reads_on = record {
  taken = [];
  part = [];
  bytes = Consumes-nil come;
  reads_on = subst (λ (t : List ℕ). HasTaken task t (B ++ []) v) (sym (append-nil s)) (subst (λ (t : List ℕ). HasTaken task s t v) (sym (append-nil B)) reads_on);
  none_after_end = λ n lt. absurd (omega arith);
  not_ended = λ lt. absurd (omega arith);
  payload = Appends-nil contents;
  promise = omega arith;
  beside = λ detached. refl;
}

-- The part of the array that the intake wrote a piece into.
pub first_of : (old new : Option (List ℕ)) (n : ℕ) (into rest : List ℕ) → n ≤ length into → Consumes old new (take n into) → Consumes old new (take n (into ++ rest))
first_of old new n into rest le h = subst (λ (t : List ℕ). Consumes old new t) (sym (take-append-le n into rest le)) h

pub take_short : (n : ℕ) (l : List ℕ) → length (take n l) ≤ n
take_short n l = omega (arith, length-take n l)

-- ---- a kept verdict

pub not_stopped : {A : Type 0} (stopped : Bool) (answer : Option A) → answer_kept stopped answer ≡ None → stopped ≡ false
not_stopped true answer e = absurd cc
not_stopped false (Some answer) e = refl
not_stopped false None e = refl

-- An answer that is kept by a verifier that hasn't stopped.
pub record IsKept {A : Type 0} (kept : Option A) (result : Result A Stop) : Type 0 where
  pub answer : A
  pub kept_is : kept ≡ Some answer
  pub result_is : result ≡ Ok answer

pub kept_by : {A : Type 0} (kept : Option A) (result : Result A Stop) → answer_kept false kept ≡ Some result → IsKept kept result
kept_by (Some answer) result e = let same : result ≡ Ok answer = cc in record { answer = answer; kept_is = refl; result_is = same }
kept_by None result e = absurd cc

-- The number of bytes is the one that is counted.
pub counted_meaning : {H D : ℕ} {S : Type 0} {K : _} {task : Task} {s B : List ℕ} {v : Verifier H D S K} → HasTaken task s B v → ReaderMeans task B v.taken v.reader (λ z. message (rules_of H D task) (s ++ z))
counted_meaning {H} {D} {S} {K} {task} {s} {B} {v} h = subst (λ (n : ℕ). ReaderMeans task B n v.reader (λ z. message (rules_of H D task) (s ++ z))) (sym h.counted) h.so_far

pub without_more : (H D : ℕ) (task : Task) (bytes : List ℕ) → message (rules_of H D task) (bytes ++ []) ≡ message (rules_of H D task) bytes
without_more H D task bytes = ap (message (rules_of H D task)) (append-nil bytes)

pub so_far_before : (H D : ℕ) (task : Task) (bytes B : List ℕ) → (message (rules_of H D task) (bytes ++ [])).so_far.payload ≡ B → (message (rules_of H D task) bytes).so_far.payload ≡ B
so_far_before H D task bytes B so_far = ap (λ (r : Reading). r.so_far.payload) (sym (without_more H D task bytes)) ∙ so_far

-- ---- what a phase ensures of a step

pub wanted_is_open : (phase : Phase) → 0 < want_of phase → is_settled phase ≡ false
wanted_is_open phases.FirstHead lt = refl
wanted_is_open (phases.TagHead p) lt = refl
wanted_is_open (phases.ArrayHead p) lt = refl
wanted_is_open (phases.ProtectedHead p) lt = refl
wanted_is_open (phases.Protected p) lt = refl
wanted_is_open (phases.Unprotected p) lt = refl
wanted_is_open (phases.PayloadHead p) lt = refl
wanted_is_open (phases.Payload p) lt = refl
wanted_is_open (phases.Detached p) lt = absurd (omega (arith, lt))
wanted_is_open (phases.AuthHead p) lt = refl
wanted_is_open (phases.Auth p) lt = refl
wanted_is_open (phases.Signed p) lt = absurd (omega (arith, lt))
wanted_is_open (phases.Decided verdict) lt = absurd (omega (arith, lt))
wanted_is_open (phases.Settled verdict) lt = absurd (omega (arith, lt))
wanted_is_open (phases.Shaped p) lt = absurd (omega (arith, lt))

-- Only a payload that is in the message is read there.
module _ {H D : ℕ} (task : Task) (known : Known) (so_far : Findings) (n : ℕ) (v : Reader H D) where
  attached_in : (phase : Phase) → HoldsIn task known so_far n v phase → in_payload phase ≡ true → task.setting.source ≡ attached
  attached_in (phases.Payload p) h is = h.5
  attached_in phases.FirstHead h is = absurd cc
  attached_in (phases.TagHead p) h is = absurd cc
  attached_in (phases.ArrayHead p) h is = absurd cc
  attached_in (phases.ProtectedHead p) h is = absurd cc
  attached_in (phases.Protected p) h is = absurd cc
  attached_in (phases.Unprotected p) h is = absurd cc
  attached_in (phases.PayloadHead p) h is = absurd cc
  attached_in (phases.Detached p) h is = absurd cc
  attached_in (phases.AuthHead p) h is = absurd cc
  attached_in (phases.Auth p) h is = absurd cc
  attached_in (phases.Signed p) h is = absurd cc
  attached_in (phases.Decided verdict) h is = absurd cc
  attached_in (phases.Settled verdict) h is = absurd cc
  attached_in (phases.Shaped p) h is = absurd cc

pub reads_on_attached : {H D : ℕ} {task : Task} {B : List ℕ} {n : ℕ} {v : Reader H D} {reading : List ℕ → Reading} → ReaderMeans task B n v reading → in_payload v.phase ≡ true → task.setting.source ≡ attached
reads_on_attached {H} {D} {task} {B} {n} {v} {reading} h is = attached_in task h.known h.so_far n v v.phase h.holds is

-- A payload that is in the message isn't detached.
not_both : (source : Source) → source ≡ attached → is_detached_from source ≡ true → ⊥
not_both source is detached = let clash : false ≡ true = sym (ap is_detached_from is) ∙ detached in cc

-- What of a piece is payload.
abbrev pub payload_of : Bool → List ℕ → List ℕ
payload_of true piece = piece
payload_of false piece = []

pub grown_by : (phase : Phase) (B piece : List ℕ) → grown phase B piece ≡ B ++ payload_of (in_payload phase) piece
grown_by (phases.Payload p) B piece = refl
grown_by phases.FirstHead B piece = sym (append-nil B)
grown_by (phases.TagHead p) B piece = sym (append-nil B)
grown_by (phases.ArrayHead p) B piece = sym (append-nil B)
grown_by (phases.ProtectedHead p) B piece = sym (append-nil B)
grown_by (phases.Protected p) B piece = sym (append-nil B)
grown_by (phases.Unprotected p) B piece = sym (append-nil B)
grown_by (phases.PayloadHead p) B piece = sym (append-nil B)
grown_by (phases.Detached p) B piece = sym (append-nil B)
grown_by (phases.AuthHead p) B piece = sym (append-nil B)
grown_by (phases.Auth p) B piece = sym (append-nil B)
grown_by (phases.Signed p) B piece = sym (append-nil B)
grown_by (phases.Decided verdict) B piece = sym (append-nil B)
grown_by (phases.Settled verdict) B piece = sym (append-nil B)
grown_by (phases.Shaped p) B piece = sym (append-nil B)

none_inside : (inside : Bool) (part piece : List ℕ) → (inside ≡ true → ⊥) → part ≡ [] → part ++ payload_of inside piece ≡ []
none_inside true part piece none e = absurd (none refl)
none_inside false part piece none e = append-nil part ∙ e

pub none_apart : {H D : ℕ} {task : Task} {B : List ℕ} {n : ℕ} {v : Reader H D} {reading : List ℕ → Reading} → ReaderMeans task B n v reading → is_detached_from task.setting.source ≡ true → in_payload v.phase ≡ true → ⊥
none_apart {H} {D} {task} h detached inside = not_both task.setting.source (reads_on_attached h inside) detached

-- ---- a piece more

-- None of the bytes but the last settles it.
pub none_after_more : (H D : ℕ) (task : Task) (s taken piece : List ℕ) → ((n : ℕ) → n < length taken → (message (rules_of H D task) (s ++ take n taken)).settled ≡ false) →
    ((more : List ℕ) → length more < length piece → (message (rules_of H D task) ((s ++ taken) ++ more)).settled ≡ false) →
    (n : ℕ) → n < length (taken ++ piece) → (message (rules_of H D task) (s ++ take n (taken ++ piece))).settled ≡ false
none_after_more H D task s taken piece before within n lt = elim (cases_lt n (length taken)) [
  | inl earlier ↦ (let le : n ≤ length taken = omega arith in rw (take-append-le n taken piece le) (before n earlier))
  | inr later ↦ (
      let m : ℕ = n - length taken in
      let place : n ≡ length taken + m = omega arith in
      let e : take n (taken ++ piece) ≡ taken ++ take m piece = ap (λ (k : ℕ). take k (taken ++ piece)) place ∙ take-append-add taken piece m in
      let short : length (take m piece) < length piece = omega (arith, lt, later, length-append taken piece, length-take m piece) in
      rw (e, ← append_assoc s taken (take m piece)) (within (take m piece) short))
]

pub goes_on : {H D : ℕ} {S : Type 0} {K : _} {task : Task} {s B : List ℕ} {come come_now come_after contents contents_now contents_after : Option (List ℕ)} {ended ended_after : Bool} {sure sure_now sure_after : ℕ} {v next : Verifier H D S K} (piece : List ℕ) → (a : Along task s B come come_now ended contents contents_now sure sure_now v) → Consumes come_now come_after piece →
    ((more : List ℕ) → length more < length piece → (message (rules_of H D task) ((s ++ a.taken) ++ more)).settled ≡ false) → HasTaken task ((s ++ a.taken) ++ piece) (grown v.reader.phase (B ++ a.part) piece) next → ended_after ≡ false →
    Appends contents_now contents_after (payload_of (in_payload v.reader.phase) piece) → sure_now ≤ sure_after + length (payload_of (in_payload v.reader.phase) piece) → Along task s B come come_after ended_after contents contents_after sure sure_after next
goes_on {H} {D} {S} {K} {task} {s} {B} {come} {come_now} {come_after} {contents} {contents_now} {contents_after} {ended} {ended_after} {sure} {sure_now} {sure_after} {v} {next} piece a took within reads_on e grew promise =
    let more : List ℕ = payload_of (in_payload v.reader.phase) piece in
    let payload_is : grown v.reader.phase (B ++ a.part) piece ≡ B ++ (a.part ++ more) = grown_by v.reader.phase (B ++ a.part) piece ∙ append_assoc B a.part more in
    record {
      taken = a.taken ++ piece;
      part = a.part ++ more;
      bytes = Consumes-trans come come_now come_after a.taken piece a.bytes took;
      reads_on = subst (λ (t : List ℕ). HasTaken task t (B ++ (a.part ++ more)) next) (append_assoc s a.taken piece) (subst (λ (t : List ℕ). HasTaken task ((s ++ a.taken) ++ piece) t next) payload_is reads_on);
      none_after_end = none_after_more H D task s a.taken piece a.none_after_end within;
      not_ended = λ some. e;
      payload = Appends-trans contents contents_now contents_after a.part more a.payload grew;
      promise = omega (arith, a.promise, promise, length-append a.part more);
      beside = λ detached. none_inside (in_payload v.reader.phase) a.part piece (none_apart a.reads_on.so_far detached) (a.beside detached);
    }

-- ---- exits

-- What the reading of the bytes gives that were taken in all.
shown_of_all : {H D : ℕ} {S : Type 0} {K : _} (task : Task) (v : Verifier H D S K) (bytes all : List ℕ) → bytes ≡ all → shown_of v ≡ shown_in task (message (rules_of H D task) (bytes ++ [])) → ShowsReading task all v
shown_of_all {H} {D} task v bytes all same h = subst (λ (b : List ℕ). ShowsReading task b v) same (h ∙ ap (shown_in task) (without_more H D task bytes))

-- Nothing more is wanted, or the intake has ended.
pub concluded : {H D : ℕ} {S : Type 0} {K : _} {task : Task} {s B : List ℕ} {come come_now come_after contents contents_now : Option (List ℕ)} {ended ended_after : Bool} {sure sure_now : ℕ} {v : Verifier H D S K} → (a : Along task s B come come_now ended contents contents_now sure sure_now v) →
    Consumes come_now come_after [] → (message (rules_of H D task) ((s ++ a.taken) ++ [])).so_far.payload ≡ B ++ a.part → shown_of v ≡ shown_in task (message (rules_of H D task) ((s ++ a.taken) ++ [])) →
    ((message (rules_of H D task) ((s ++ a.taken) ++ [])).settled ≡ false → (ended_after ≡ true) × IsAtEnd come_after) → ((message (rules_of H D task) ((s ++ a.taken) ++ [])).settled ≡ true → 0 < length a.taken → ended_after ≡ false) →
    TakesMessage task s B (intake_from come come_after ended_after) (sink_from contents contents_now) None v
concluded {H} {D} {S} {K} {task} {s} {B} {come} {come_now} {come_after} {contents} {contents_now} {ended} {ended_after} {sure} {sure_now} {v} a took so_far shown not_yet once =
    let bytes : List ℕ = s ++ a.taken in
    let here : message (rules_of H D task) (bytes ++ []) ≡ message (rules_of H D task) bytes = without_more H D task bytes in
    let same : (message (rules_of H D task) bytes).settled ≡ (message (rules_of H D task) (bytes ++ [])).settled = ap (λ (r : Reading). r.settled) (sym here) in
    record {
      taken = a.taken;
      part = a.part;
      bytes = subst (λ (t : List ℕ). Consumes come come_after t) (append-nil a.taken) (Consumes-trans come come_now come_after a.taken [] a.bytes took);
      none_after_end = a.none_after_end;
      reads_on = (a.reads_on, record { unsettled = λ e. not_yet (sym same ∙ e); settled = λ e. once (sym same ∙ e) });
      counted = a.reads_on.counted;
      shows = shown_of_all task v bytes bytes refl shown;
      payload = ap (λ (r : Reading). r.so_far.payload) (sym here) ∙ so_far;
      grows = a.payload;
      beside = a.beside;
    }

-- A failed intake.
pub stopped_by_intake : {H D : ℕ} {S : Type 0} {K : _} {task : Task} {s B : List ℕ} {come come_now come_after contents contents_now : Option (List ℕ)} {ended ended_after : Bool} {sure sure_now : ℕ} {v next : Verifier H D S K} → (a : Along task s B come come_now ended contents contents_now sure sure_now v) →
    KeepsOrForgets come_now come_after → (message (rules_of H D task) ((s ++ a.taken) ++ [])).so_far.payload ≡ B ++ a.part → shown_of v ≡ shown_in task (message (rules_of H D task) ((s ++ a.taken) ++ [])) → (message (rules_of H D task) ((s ++ a.taken) ++ [])).settled ≡ false →
    next.taken ≡ v.taken → shown_of next ≡ shown_of v → TakesMessage task s B (intake_from come come_after ended_after) (sink_from contents contents_now) (Some stops.Intake) next
stopped_by_intake {H} {D} {S} {K} {task} {s} {B} {come} {come_now} {come_after} {contents} {contents_now} {ended} {ended_after} {sure} {sure_now} {v} {next} a keeps so_far shown unsettled_yet count same =
    let bytes : List ℕ = s ++ a.taken in
    let here : message (rules_of H D task) (bytes ++ []) ≡ message (rules_of H D task) bytes = without_more H D task bytes in
    record {
      taken = a.taken;
      part = a.part;
      bytes = taken_before_failure come come_now come_after a.taken a.bytes keeps;
      none_after_end = a.none_after_end;
      reads_on = ap (λ (r : Reading). r.settled) (sym here) ∙ unsettled_yet;
      counted = count ∙ a.reads_on.counted;
      shows = shown_of_all task next bytes bytes refl (same ∙ shown);
      payload = ap (λ (r : Reading). r.so_far.payload) (sym here) ∙ so_far;
      grows = a.payload;
      beside = a.beside;
    }

-- A failed sink: the piece was of the payload.
pub stopped_by_sink : {H D : ℕ} {S : Type 0} {K : _} {task : Task} {s B : List ℕ} {come come_now come_after contents contents_now contents_after : Option (List ℕ)} {ended ended_after : Bool} {sure sure_now : ℕ} {v next : Verifier H D S K} (stepped : Verifier H D S K) (piece : List ℕ) → (a : Along task s B come come_now ended contents contents_now sure sure_now v) →
    Consumes come_now come_after piece → ((more : List ℕ) → length more < length piece → (message (rules_of H D task) ((s ++ a.taken) ++ more)).settled ≡ false) → (message (rules_of H D task) ((s ++ a.taken) ++ piece)).settled ≡ false → in_payload v.reader.phase ≡ true →
    (message (rules_of H D task) (((s ++ a.taken) ++ piece) ++ [])).so_far.payload ≡ grown v.reader.phase (B ++ a.part) piece → shown_of stepped ≡ shown_in task (message (rules_of H D task) (((s ++ a.taken) ++ piece) ++ [])) → AppendsFront contents_now contents_after piece →
    stepped.taken ≡ length ((s ++ a.taken) ++ piece) → next.taken ≡ stepped.taken → shown_of next ≡ shown_of stepped → TakesMessage task s B (intake_from come come_after ended_after) (sink_from contents contents_after) (Some stops.Sink) next
stopped_by_sink {H} {D} {S} {K} {task} {s} {B} {come} {come_now} {come_after} {contents} {contents_now} {contents_after} {ended} {ended_after} {sure} {sure_now} {v} {next} stepped piece a took within unsettled_yet in_it so_far shown front counted count same =
    let bytes : List ℕ = (s ++ a.taken) ++ piece in
    let regrouped : bytes ≡ s ++ (a.taken ++ piece) = append_assoc s a.taken piece in
    let here : message (rules_of H D task) (bytes ++ []) ≡ message (rules_of H D task) bytes = without_more H D task bytes in
    let payload_is : grown v.reader.phase (B ++ a.part) piece ≡ B ++ (a.part ++ piece) = grown_by v.reader.phase (B ++ a.part) piece ∙ rw in_it (append_assoc B a.part piece) in
    record {
      taken = a.taken ++ piece;
      part = a.part ++ piece;
      bytes = Consumes-trans come come_now come_after a.taken piece a.bytes took;
      none_after_end = none_after_more H D task s a.taken piece a.none_after_end within;
      reads_on = subst (λ (t : List ℕ). (message (rules_of H D task) t).settled ≡ false) regrouped unsettled_yet;
      counted = count ∙ counted ∙ ap length regrouped;
      shows = shown_of_all task next bytes (s ++ (a.taken ++ piece)) regrouped (same ∙ shown);
      payload = subst (λ (t : List ℕ). (message (rules_of H D task) t).so_far.payload ≡ B ++ (a.part ++ piece)) regrouped (ap (λ (r : Reading). r.so_far.payload) (sym here) ∙ so_far ∙ payload_is);
      grows = AppendsFront-then contents contents_now contents_after a.part piece a.payload front;
      beside = λ detached. absurd (none_apart a.reads_on.so_far detached in_it);
    }

-- ---- what a failed put ensures

pub put_failed : (old new : Option (List ℕ)) (piece : List ℕ) (result : Result (Unit {0}) SinkFault) → is_err result ≡ true → Puts old new result piece → AppendsFront old new piece
put_failed old new piece (Ok u) e p = absurd cc
put_failed old new piece (Err fault) e p = p

pub put_done : (old new : Option (List ℕ)) (piece : List ℕ) (result : Result (Unit {0}) SinkFault) → is_err result ≡ false → Puts old new result piece → Appends old new piece
put_done old new piece (Ok u) e p = p
put_done old new piece (Err fault) e p = absurd cc

pub promise_kept : (result : Result (Unit {0}) SinkFault) (old new n : ℕ) → is_err result ≡ false → OnOk result (old ≤ new + n) → old ≤ new + n
promise_kept (Ok u) old new n e p = p
promise_kept (Err fault) old new n e p = absurd cc

pub marks_nothing : (was : Bool) (result : Result (Unit {0}) SinkFault) → is_err result ≡ false → marks was result ≡ was
marks_nothing was (Ok u) e = refl
marks_nothing was (Err fault) e = absurd cc

pub marks_fault : (was first : Bool) (result : Result (Unit {0}) SinkFault) → is_err result ≡ true → marks was result ≡ (first || true)
marks_fault was true (Err fault) e = refl
marks_fault was false (Err fault) e = refl
marks_fault was first (Ok u) e = absurd cc

pub is_done : (result : Result (Unit {0}) SinkFault) → is_err result ≡ true → IsOk result → ⊥
is_done (Ok u) e p = absurd cc
is_done (Err fault) e p = absurd cc

pub not_at_end : (n : ℕ) → 0 < n → is_end {E = IntakeFault} (Ok n) ≡ false
not_at_end zero lt = absurd (omega (arith, lt))
not_at_end (suc n) lt = refl

pub put_none : {H D : ℕ} {S : Type 0} {K : _} {task : Task} {s B : List ℕ} {come come_now contents contents_now : Option (List ℕ)} {ended : Bool} {sure sure_now : ℕ} {v : Verifier H D S K} → Along task s B come come_now ended contents contents_now sure sure_now v →
    is_detached_from task.setting.source ≡ true → sure ≤ sure_now
put_none a detached = omega (arith, a.promise, ap length (a.beside detached))

-- A sink that is sure of every payload doesn't fail.
pub sure_enough : {H D : ℕ} {S : Type 0} {K : _} {task : Task} {s B : List ℕ} {come come_now contents contents_now : Option (List ℕ)} {ended : Bool} {sure sure_now : ℕ} {v : Verifier H D S K} (piece known : List ℕ) → (a : Along task s B come come_now ended contents contents_now sure sure_now v) → in_payload v.reader.phase ≡ true → known ≡ grown v.reader.phase (B ++ a.part) piece →
    length known ≤ task.setting.payload_limit → task.setting.payload_limit ≤ sure → length piece ≤ sure_now
sure_enough {H} {D} {S} {K} {task} {s} {B} {come} {come_now} {contents} {contents_now} {ended} {sure} {sure_now} {v} piece known a in_it e limit enough =
    let payload_is : known ≡ B ++ (a.part ++ piece) = e ∙ grown_by v.reader.phase (B ++ a.part) piece ∙ rw in_it (append_assoc B a.part piece) in
    omega (arith, a.promise, ap length payload_is, length-append B (a.part ++ piece), length-append a.part piece)

-- ---- a message is settled within a number of bytes

asked_for_more : (asked taken : ℕ) → (taken < 2 ^ 57 → 0 < asked) → asked ≡ 0 → (taken < 2 ^ 57) ⊎ (2 ^ 57 ≤ taken) → 2 ^ 57 ≤ taken
asked_for_more asked taken some none (inl early) = let positive : 0 < asked = some early in absurd (omega arith)
asked_for_more asked taken some none (inr late) = late

inside_is_short : (source : Source) (limit : ℕ) → payload_inside source limit ≤ 2 ^ 56 - 1
inside_is_short attached limit = min-le_right limit (2 ^ 56 - 1)
inside_is_short (apart came detached_length) limit = omega arith

within_limit : (room : ℕ) (source : Source) (limit n : ℕ) → room ≤ 65535 → 2 ^ 57 ≤ n → (2 * room + 186 + payload_inside source limit ≤ n) × (2 * room + 65589 + payload_inside source limit ≤ n)
within_limit room source limit n le late = let short : payload_inside source limit ≤ 2 ^ 56 - 1 = inside_is_short source limit in (omega arith, omega arith)

-- This many bytes settle any message.
pub record Bounded : Type 0 where
  pub read : VerifiedWithin uncompared
  pub compared : VerifiedWithin comparing
  pub inspected : MessageIsInspectedWithin

inspected_by_limit : Bounded → (H D : ℕ) (setting : Setting) (elsewhere : Bool) → setting.elsewhere ≡ elsewhere → (bytes : List ℕ) → H ≤ 65535 → 2 ^ 57 ≤ length bytes → (message (rules_of H D (record { setting = setting; inspects = true })) bytes).settled ≡ true
inspected_by_limit within H D setting true away bytes le late = rw away (within.read H D setting bytes (within_limit H setting.source setting.payload_limit (length bytes) le late).0)
inspected_by_limit within H D setting false away bytes le late = rw away (within.inspected H D setting bytes (within_limit H setting.source setting.payload_limit (length bytes) le late).1)

settled_by_limit : Bounded → (H D : ℕ) (inspects : Bool) (setting : Setting) (bytes : List ℕ) → H ≤ 65535 → 2 ^ 57 ≤ length bytes → (message (rules_of H D (record { setting = setting; inspects = inspects })) bytes).settled ≡ true
settled_by_limit within H D false setting bytes le late = within.compared H D setting bytes (within_limit H setting.source setting.payload_limit (length bytes) le late).0
settled_by_limit within H D true setting bytes le late = inspected_by_limit within H D setting setting.elsewhere refl bytes le late

too_long : (settled : Bool) → (settled ≡ false → settled ≡ true) → settled ≡ true
too_long true h = refl
too_long false h = h refl

pub settled_if_none_asked : {H D : ℕ} {S : Type 0} {K : _} → Bounded → H ≤ 65535 → {task : Task} {s B : List ℕ} {v : Verifier H D S K} (asked : ℕ) → HasTaken task s B v → (message (rules_of H D task) (s ++ [])).settled ≡ is_settled v.reader.phase → (is_settled v.reader.phase ≡ false → v.taken < 2 ^ 57 → 0 < asked) → asked ≡ 0 →
    (message (rules_of H D task) (s ++ [])).settled ≡ true
settled_if_none_asked {H} {D} within limit {task} {s} {B} {v} asked h same some none =
    too_long (message (rules_of H D task) (s ++ [])).settled
    (λ unsettled_yet.
    let late : 2 ^ 57 ≤ v.taken = asked_for_more asked v.taken (some (sym same ∙ unsettled_yet)) none (cases_lt v.taken (2 ^ 57)) in
    let there : 2 ^ 57 ≤ length (s ++ []) = rw append-nil (let counted : 2 ^ 57 ≤ length s = omega (arith, late, h.counted) in counted) in
    settled_by_limit within H D task.inspects task.setting (s ++ []) limit there)
