-- The answer of a verifier: the decision on a signature, and Truncated where the message isn't settled.
use Rattle.std.proofs.Common.{◌≡◌, ℕ, Bool, true, false, List, [], length, Option, None, Some, refl, sym, ap, subst, ◌∙◌}
use Rattle.std.specs.Prelude.{option_map, if◌then◌else◌}
use Rattle.cose_head.specs.declared.reason.Reason.TheVariants.{Truncated, BadAuth}
use Rattle.cose_head.specs.declared.algorithm.Alg.{Alg}
use Rattle.cose_mac.specs.Hash.{digest_of}
use Rattle.cose_head.specs.Algorithm.{is_mac_of}
use Rattle.cose_map.specs.Key.Value.{KeyValue}
use Rattle.cose_map.specs.Key.View.{key_value}
use Rattle.cose_map.specs.Map.Pairs.{Pair}
use Rattle.cose_msg.specs.declared.phase.Phase.{Phase}
use Rattle.cose_msg.specs.declared.phase.Phase.TheVariants as phases
use Rattle.cose_msg.specs.declared.phase.Signed.{Signed}
use Rattle.cose_msg.specs.declared.verdict.Inspected.{Inspected}
use Rattle.cose_msg.specs.declared.verdict.Inspected.TheVariants as inspected
use Rattle.cose_msg.specs.declared.verdict.Verdict.{Verdict}
use Rattle.cose_msg.specs.declared.verdict.Verdict.TheVariants.{Authentic, Refused}
use Rattle.cose_msg.specs.declared.reader.Chosen as code
use Rattle.cose_msg.specs.declared.reader.Place.{Place}
use Rattle.cose_msg.specs.declared.reader.Reader.{Reader}
use Rattle.cose_msg.specs.Answer.{Answer, Chosen, Whole, complete, decided, refused}
use Rattle.cose_msg.specs.Chosen.{chosen_value}
use Rattle.cose_msg.specs.Elsewhere.{Authenticates, HasSignature, authenticated, then_authenticated}
use Rattle.cose_msg.specs.Hashing.{authenticator, result_of}
use Rattle.cose_msg.specs.Kept.{inspected_in, refusal_in, verdict_in}
use Rattle.cose_msg.specs.Laws.{then_verified}
use Rattle.cose_msg.specs.Message.{Decides, Setting, digest_signed, judged, structure, verified}
use Rattle.cose_msg.specs.Phase.{awaits_decision, ends_at, is_settled}
use Rattle.cose_msg.specs.Phases.{headers_so_far}
use Rattle.cose_msg.specs.Reading.{Reading, Findings, settled}
use Rattle.cose_msg.specs.Run.{SaysCount, inspection}
use Rattle.cose_msg.specs.Shown.{SignInput, Shown, held_input, input_in, pairs_at, shown_in, shown_by, sign_input_for}
use Rattle.cose_msg.specs.Status.{is_open, status_of_phase}
use Rattle.cose_msg.specs.Task.{Task, asks, given_to, rules_of, to_inspect, to_verify, to_verify_elsewhere}
use Rattle.cose_msg.specs.Reader.{Counts, HoldsBucket, HoldsIn, IsSigned, Known, ReaderMeans, is_authentic, left_in, whole_of}
use Rattle.cose_msg.proofs.lemmas.Deciding.PhaseCases.{unsettled_ends}
use Rattle.cose_msg.proofs.lemmas.Reader.Unsettled.{IsNow, ItemWaits, awaiting_in, came_known, here, ends_in, truncated_in}

-- ---- a signature

no_mac : (found : Chosen) (alg : Alg) (message held : List ℕ) → found.alg ≡ alg → is_mac_of alg ≡ false → held ≡ authenticator found message → digest_of found.alg message ≡ held
no_mac found alg message held same no_tag e =
    let digest : is_mac_of found.alg ≡ false = ap is_mac_of same ∙ no_tag in
    let by_digest : authenticator found message ≡ digest_of found.alg message = rw digest refl in
    sym (e ∙ by_digest)

some_is : (chosen : Option code.Chosen) (one : code.Chosen) (found : Chosen) → chosen ≡ Some one → option_map chosen_value chosen ≡ Some found → chosen_value one ≡ found
some_is chosen one found e is = let there : option_map chosen_value (Some one) ≡ Some found = subst (λ (c : Option code.Chosen). option_map chosen_value c ≡ Some found) e is in cc

-- The answer on a message that is whole, in the terms of the code.
abbrev pub decision : Signed → Bool → Answer
decision p holds = if holds then decided (Authentic p.kind p.alg p.payload p.taken) else refused BadAuth p.head_at

said_as : (p : Signed) (holds : Bool) (found : Chosen) (all : Whole) → all.headers.kind ≡ p.kind → found.alg ≡ p.alg → length all.payload ≡ p.payload → all.taken ≡ p.taken → all.auth_at ≡ p.head_at → judged holds found all ≡ decision p holds
said_as p holds found all kind alg payload taken head_at = rw (kind, alg, payload, taken, head_at) refl

some_chosen : (chosen : Option code.Chosen) (found : Chosen) → option_map chosen_value chosen ≡ Some found → (one : code.Chosen) × (chosen ≡ Some one)
some_chosen (Some one) found e = (one, refl)
some_chosen None found e = absurd cc

module _ {H D : ℕ} {task : Task} {B : List ℕ} {n : ℕ} {v : Reader H D} {reading : List ℕ → Reading} (p : Signed) (e : v.phase ≡ phases.Signed p) (h : ReaderMeans task B n v reading) where
  pub signed_in : IsSigned task h.known v.chosen v.hashing v.auth.items p
  signed_in = (subst (λ (phase : Phase). HoldsIn task h.known h.so_far n v phase) e h.holds).2

  pub signed_count : n ≡ p.taken
  signed_count = (subst (λ (phase : Phase). HoldsIn task h.known h.so_far n v phase) e h.holds).1

  whole : Whole
  whole = whole_of h.known p.head_at p.taken

  read_whole : reading [] ≡ settled (headers_so_far h.known.headers h.known.payload) (complete whole)
  unfolding whole
  read_whole = h.left [] ∙ ap (λ (phase : Phase). left_in (rules_of H D task) h.known h.so_far v phase []) e

  pub signed_answer : asks task ≡ false → (decides : Decides) (chosen : code.Chosen) → v.chosen ≡ Some chosen → (holds : Bool) →
      holds ≡ decides (key_value chosen.key) (result_of v.hashing) v.auth.items → then_verified task.setting.aad decides (reading []).answer ≡ decision p holds
  unfolding whole
  signed_answer is_here decides chosen is holds asked =
      let s : IsSigned task h.known v.chosen v.hashing v.auth.items p = signed_in in
      let key : chosen_value chosen ≡ s.found = some_is v.chosen chosen s.found is s.key_is in
      let key_is : s.found.key ≡ key_value chosen.key = sym (ap (λ (c : Chosen). c.key) key) in
      let digest : digest_signed task.setting.aad s.found whole ≡ result_of v.hashing = no_mac s.found p.alg (structure task.setting.aad h.known.headers h.known.payload) (result_of v.hashing) s.alg_is (s.no_tag is_here) (s.digest_is is_here) in
      let answer : then_verified task.setting.aad decides (reading []).answer ≡ verified task.setting.aad decides h.known.chosen (complete whole) = ap (λ (r : Reading). then_verified task.setting.aad decides r.answer) read_whole in
      let found : verified task.setting.aad decides h.known.chosen (complete whole) ≡ judged (decides s.found.key (digest_signed task.setting.aad s.found whole) h.known.auth) s.found whole = ap (λ (c : Option Chosen). verified task.setting.aad decides c (complete whole)) s.chosen_is in
      let so_far : judged (decides s.found.key (digest_signed task.setting.aad s.found whole) h.known.auth) s.found whole ≡ judged holds s.found whole = ap (λ (b : Bool). judged b s.found whole)
      (ap (λ (key : KeyValue). decides key (digest_signed task.setting.aad s.found whole) h.known.auth) key_is ∙ ap (λ (d : List ℕ). decides (key_value chosen.key) d h.known.auth) digest ∙ ap (λ (auth : List ℕ). decides (key_value chosen.key) (result_of v.hashing) auth) (sym s.auth_is) ∙ sym asked) in
      answer ∙ found ∙ so_far ∙ said_as p holds s.found whole s.kind_is s.alg_is s.payload_is refl refl

  -- The same by what the caller states.
  pub stated_decides : (holds : Authenticates) (said : Bool) → ((found : Chosen) (message : List ℕ) → found.alg ≡ p.alg → said ≡ holds found message v.auth.items) →
      then_authenticated task.setting.aad holds (reading []).answer ≡ decision p said
  unfolding whole
  stated_decides holds said told =
      let s : IsSigned task h.known v.chosen v.hashing v.auth.items p = signed_in in
      let message : List ℕ = structure task.setting.aad h.known.headers h.known.payload in
      let answer : then_authenticated task.setting.aad holds (reading []).answer ≡ authenticated task.setting.aad holds h.known.chosen whole = ap (λ (r : Reading). then_authenticated task.setting.aad holds r.answer) read_whole in
      let found : authenticated task.setting.aad holds h.known.chosen whole ≡ judged (holds s.found (structure task.setting.aad h.known.headers h.known.payload) h.known.auth) s.found whole = ap (λ (c : Option Chosen). authenticated task.setting.aad holds c whole) s.chosen_is in
      let same : holds s.found message h.known.auth ≡ said = ap (holds s.found message) (sym s.auth_is) ∙ sym (told s.found message s.alg_is) in
      answer ∙ found ∙ ap (λ (b : Bool). judged b s.found whole) same ∙ said_as p said s.found whole s.kind_is s.alg_is s.payload_is refl refl

  -- The signature that is held.
  pub signature_is : HasSignature (reading []).answer v.auth.items
  unfolding whole
  signature_is other is =
      let s : IsSigned task h.known v.chosen v.hashing v.auth.items p = signed_in in
      let both : complete whole ≡ complete other = sym (ap (λ (r : Reading). r.answer) read_whole) ∙ is in
      let same : whole ≡ other = cc in
      s.auth_is ∙ ap (λ (w : Whole). w.auth) same

  -- There is a key.
  pub signed_has_key : (chosen : code.Chosen) × (v.chosen ≡ Some chosen)
  signed_has_key = let s : IsSigned task h.known v.chosen v.hashing v.auth.items p = signed_in in some_chosen v.chosen s.found s.key_is

-- ---- an answer that is there

-- No further byte changes it, of the message or of a detached payload.
abbrev pub IsDone : Reading → Type 0
IsDone reading = (reading.settled ≡ true) × (reading.payload_wanted ≡ 0)

module _ {H D : ℕ} (task : Task) (known : Known) (so_far : Findings) (n : ℕ) (v : Reader H D) where
  left : Phase → Reading
  left phase = left_in (rules_of H D task) known so_far v phase []

  -- A verdict that is known, and no signature was decided on.
  verdict_read : (phase : Phase) (verdict : Verdict) → HoldsIn task known so_far n v phase → verdict_in phase ≡ Some verdict → ((left phase).answer ≡ decided verdict) × IsDone (left phase) × Counts verdict n
  unfolding left
  verdict_read (phases.Settled other) verdict h e = let same : other ≡ verdict = cc in (ap decided same, (refl, refl), subst (λ (w : Verdict). Counts w n) same h.0)
  verdict_read (phases.Decided other) verdict h e = absurd h
  verdict_read phases.FirstHead verdict h e = absurd cc
  verdict_read (phases.TagHead p) verdict h e = absurd cc
  verdict_read (phases.ArrayHead p) verdict h e = absurd cc
  verdict_read (phases.ProtectedHead p) verdict h e = absurd cc
  verdict_read (phases.Protected p) verdict h e = absurd cc
  verdict_read (phases.Unprotected p) verdict h e = absurd cc
  verdict_read (phases.PayloadHead p) verdict h e = absurd cc
  verdict_read (phases.Payload p) verdict h e = absurd cc
  verdict_read (phases.Detached p) verdict h e = absurd cc
  verdict_read (phases.AuthHead p) verdict h e = absurd cc
  verdict_read (phases.Auth p) verdict h e = absurd cc
  verdict_read (phases.Signed p) verdict h e = absurd cc
  verdict_read (phases.Shaped p) verdict h e = absurd cc

  refusal_read : (verdict : Verdict) (shown : Inspected) → refusal_in verdict ≡ Some shown → (decided verdict ≡ inspection shown) × SaysCount (inspection shown) n
  refusal_read (Refused refusal) shown e = let same : inspected.Refused refusal ≡ shown = cc in rw (← same) (refl, tt)
  refusal_read (Authentic kind alg payload taken) shown e = absurd cc

  -- The result of an inspection.
  inspected_read : (phase : Phase) (shown : Inspected) → HoldsIn task known so_far n v phase → inspected_in phase ≡ Some shown → ((left phase).answer ≡ inspection shown) × IsDone (left phase) × SaysCount (inspection shown) n
  unfolding left
  inspected_read (phases.Settled verdict) shown h e = let r = refusal_read verdict shown e in (r.0, (refl, refl), r.1)
  inspected_read (phases.Shaped p) shown h e = let same : inspected.Shape p.kind p.payload p.auth p.taken ≡ shown = cc in rw (← same) (refl, (refl, refl), h.0)
  inspected_read (phases.Decided verdict) shown h e = absurd h
  inspected_read phases.FirstHead shown h e = absurd cc
  inspected_read (phases.TagHead p) shown h e = absurd cc
  inspected_read (phases.ArrayHead p) shown h e = absurd cc
  inspected_read (phases.ProtectedHead p) shown h e = absurd cc
  inspected_read (phases.Protected p) shown h e = absurd cc
  inspected_read (phases.Unprotected p) shown h e = absurd cc
  inspected_read (phases.PayloadHead p) shown h e = absurd cc
  inspected_read (phases.Payload p) shown h e = absurd cc
  inspected_read (phases.Detached p) shown h e = absurd cc
  inspected_read (phases.AuthHead p) shown h e = absurd cc
  inspected_read (phases.Auth p) shown h e = absurd cc
  inspected_read (phases.Signed p) shown h e = absurd cc

pub reads_on_with_verdict : {H D : ℕ} {task : Task} {B : List ℕ} {n : ℕ} {v : Reader H D} {reading : List ℕ → Reading} (verdict : Verdict) → ReaderMeans task B n v reading → verdict_in v.phase ≡ Some verdict → ((reading []).answer ≡ decided verdict) × IsDone (reading []) × Counts verdict n
unfolding left
reads_on_with_verdict {H} {D} {task} {B} {n} {v} {reading} verdict h e =
    let r = verdict_read task h.known h.so_far n v v.phase verdict h.holds e in
    (ap (λ (x : Reading). x.answer) (h.left []) ∙ r.0, (ap (λ (x : Reading). x.settled) (h.left []) ∙ r.1.0, ap (λ (x : Reading). x.payload_wanted) (h.left []) ∙ r.1.1), r.2)

pub reads_on_inspected : {H D : ℕ} {task : Task} {B : List ℕ} {n : ℕ} {v : Reader H D} {reading : List ℕ → Reading} (shown : Inspected) → ReaderMeans task B n v reading → inspected_in v.phase ≡ Some shown → ((reading []).answer ≡ inspection shown) × IsDone (reading []) × SaysCount (inspection shown) n
unfolding left
reads_on_inspected {H} {D} {task} {B} {n} {v} {reading} shown h e =
    let r = inspected_read task h.known h.so_far n v v.phase shown h.holds e in
    (ap (λ (x : Reading). x.answer) (h.left []) ∙ r.0, (ap (λ (x : Reading). x.settled) (h.left []) ∙ r.1.0, ap (λ (x : Reading). x.payload_wanted) (h.left []) ∙ r.1.1), r.2)

-- ---- no answer yet

-- A message of which no shape is given.
abbrev pub Shapeless : Task → Type 0
Shapeless task = task.inspects ≡ true → task.setting.elsewhere ≡ false → ⊥

module _ {H D : ℕ} (task : Task) (shapeless : Shapeless task) (known : Known) (so_far : Findings) (n : ℕ) (v : Reader H D) where
  open_without_verdict : (phase : Phase) → HoldsIn task known so_far n v phase → verdict_in phase ≡ None → awaits_decision phase ≡ false → is_open (status_of_phase phase) ≡ true
  open_without_verdict (phases.Settled verdict) h none e = absurd cc
  open_without_verdict (phases.Decided verdict) h none e = absurd h
  open_without_verdict (phases.Shaped p) h none e = absurd (shapeless h.1 h.2)
  open_without_verdict (phases.Signed p) h none e = absurd cc
  open_without_verdict phases.FirstHead h none e = refl
  open_without_verdict (phases.TagHead p) h none e = refl
  open_without_verdict (phases.ArrayHead p) h none e = refl
  open_without_verdict (phases.ProtectedHead p) h none e = refl
  open_without_verdict (phases.Protected p) h none e = refl
  open_without_verdict (phases.Unprotected p) h none e = refl
  open_without_verdict (phases.PayloadHead p) h none e = refl
  open_without_verdict (phases.Payload p) h none e = refl
  open_without_verdict (phases.Detached p) h none e = refl
  open_without_verdict (phases.AuthHead p) h none e = refl
  open_without_verdict (phases.Auth p) h none e = refl

module _ {H D : ℕ} (setting : Setting) (known : Known) (so_far : Findings) (n : ℕ) (v : Reader H D) where
  not_authentic : (verdict : Verdict) → Counts verdict n × (is_authentic verdict ≡ true → true ≡ false) → refusal_in verdict ≡ None → ⊥
  not_authentic (Refused refusal) h none = absurd cc
  not_authentic (Authentic kind alg payload taken) h none = let clash : true ≡ false = h.1 refl in absurd cc

  open_without_shape : (phase : Phase) → HoldsIn (to_inspect setting) known so_far n v phase → inspected_in phase ≡ None → is_open (status_of_phase phase) ≡ true
  open_without_shape (phases.Settled verdict) h none = absurd (not_authentic verdict h none)
  open_without_shape (phases.Decided verdict) h none = absurd h
  open_without_shape (phases.Shaped p) h none = absurd cc
  open_without_shape (phases.Signed p) h none = let clash : true ≡ false = h.2.verifies refl in absurd cc
  open_without_shape phases.FirstHead h none = refl
  open_without_shape (phases.TagHead p) h none = refl
  open_without_shape (phases.ArrayHead p) h none = refl
  open_without_shape (phases.ProtectedHead p) h none = refl
  open_without_shape (phases.Protected p) h none = refl
  open_without_shape (phases.Unprotected p) h none = refl
  open_without_shape (phases.PayloadHead p) h none = refl
  open_without_shape (phases.Payload p) h none = refl
  open_without_shape (phases.Detached p) h none = refl
  open_without_shape (phases.AuthHead p) h none = refl
  open_without_shape (phases.Auth p) h none = refl

verifies_shapeless : (setting : Setting) → Shapeless (to_verify setting)
verifies_shapeless setting inspects is_here = let clash : false ≡ true = inspects in cc

pub reads_on_without_verdict : {H D : ℕ} {setting : Setting} {B : List ℕ} {n : ℕ} {v : Reader H D} {reading : List ℕ → Reading} → ReaderMeans (to_verify setting) B n v reading → verdict_in v.phase ≡ None → awaits_decision v.phase ≡ false → is_open (status_of_phase v.phase) ≡ true
reads_on_without_verdict {H} {D} {setting} {B} {n} {v} {reading} h none e = open_without_verdict (to_verify setting) (verifies_shapeless setting) h.known h.so_far n v v.phase h.holds none e

away_shapeless : (setting : Setting) → Shapeless (to_verify_elsewhere setting)
away_shapeless setting inspects is_here = let clash : true ≡ false = is_here in cc

pub reads_on_unstated : (setting : Setting) {H D : ℕ} {B : List ℕ} {n : ℕ} {v : Reader H D} {reading : List ℕ → Reading} → ReaderMeans (to_verify_elsewhere setting) B n v reading → verdict_in v.phase ≡ None → awaits_decision v.phase ≡ false → is_open (status_of_phase v.phase) ≡ true
reads_on_unstated setting {H} {D} {B} {n} {v} {reading} h none e = open_without_verdict (to_verify_elsewhere setting) (away_shapeless setting) h.known h.so_far n v v.phase h.holds none e

pub reads_on_without_shape : (setting : Setting) {H D : ℕ} {B : List ℕ} {n : ℕ} {v : Reader H D} {reading : List ℕ → Reading} → ReaderMeans (to_inspect setting) B n v reading → inspected_in v.phase ≡ None → is_open (status_of_phase v.phase) ≡ true
reads_on_without_shape setting {H} {D} {B} {n} {v} {reading} h none = open_without_shape setting h.known h.so_far n v v.phase h.holds none

pub open_shows_no_input : (phase : Phase) (held : ℕ → Option SignInput) → is_open (status_of_phase phase) ≡ true → input_in phase held ≡ None
open_shows_no_input phases.FirstHead held e = refl
open_shows_no_input (phases.TagHead p) held e = refl
open_shows_no_input (phases.ArrayHead p) held e = refl
open_shows_no_input (phases.ProtectedHead p) held e = refl
open_shows_no_input (phases.Protected p) held e = refl
open_shows_no_input (phases.Unprotected p) held e = refl
open_shows_no_input (phases.PayloadHead p) held e = refl
open_shows_no_input (phases.Payload p) held e = refl
open_shows_no_input (phases.Detached p) held e = refl
open_shows_no_input (phases.AuthHead p) held e = refl
open_shows_no_input (phases.Auth p) held e = refl
open_shows_no_input (phases.Signed p) held e = absurd cc
open_shows_no_input (phases.Decided verdict) held e = absurd cc
open_shows_no_input (phases.Settled verdict) held e = refl
open_shows_no_input (phases.Shaped p) held e = refl

-- ---- where the message ends

module _ {H D : ℕ} (task : Task) (known : Known) (so_far : Findings) (n : ℕ) (v : Reader H D) (waits : ItemWaits v) where
  ended_unsettled : (phase : Phase) → HoldsIn task known so_far n v phase → is_settled phase ≡ false → (left task known so_far n v phase).answer ≡ refused Truncated (ends_at phase n)
  unfolding left here
  ended_unsettled phase h e = truncated_in task known so_far n v waits phase h e ∙ ap (refused Truncated) (sym (unsettled_ends phase n e))

  ended_in : (phase : Phase) → HoldsIn task known so_far n v phase → IsNow task known so_far n v waits → is_open (status_of_phase phase) ≡ true → (left task known so_far n v phase).answer ≡ refused Truncated (ends_at phase n)
  unfolding left here
  ended_in (phases.Detached p) h now e = ap (λ (r : Reading). r.answer) (awaiting_in task known so_far n v waits p h now [])
  ended_in (phases.Settled (Authentic kind alg payload taken)) h now e = absurd cc
  ended_in (phases.Settled (Refused refusal)) h now e = absurd cc
  ended_in phases.FirstHead h now e = ended_unsettled phases.FirstHead h refl
  ended_in (phases.TagHead p) h now e = ended_unsettled (phases.TagHead p) h refl
  ended_in (phases.ArrayHead p) h now e = ended_unsettled (phases.ArrayHead p) h refl
  ended_in (phases.ProtectedHead p) h now e = ended_unsettled (phases.ProtectedHead p) h refl
  ended_in (phases.Protected p) h now e = ended_unsettled (phases.Protected p) h refl
  ended_in (phases.Unprotected p) h now e = ended_unsettled (phases.Unprotected p) h refl
  ended_in (phases.PayloadHead p) h now e = ended_unsettled (phases.PayloadHead p) h refl
  ended_in (phases.Payload p) h now e = ended_unsettled (phases.Payload p) h refl
  ended_in (phases.AuthHead p) h now e = ended_unsettled (phases.AuthHead p) h refl
  ended_in (phases.Auth p) h now e = ended_unsettled (phases.Auth p) h refl
  ended_in (phases.Signed p) h now e = absurd cc
  ended_in (phases.Decided verdict) h now e = absurd cc
  ended_in (phases.Shaped p) h now e = absurd cc

-- A message of which bytes are wanted, or of whose payload, is Truncated where it ends.
pub reads_on_ended : {H D : ℕ} {task : Task} {B : List ℕ} {n : ℕ} {v : Reader H D} {reading : List ℕ → Reading} → ItemWaits v → ReaderMeans task B n v reading → given_to B task ≡ task → is_open (status_of_phase v.phase) ≡ true → (reading []).answer ≡ refused Truncated (ends_at v.phase n)
unfolding left
reads_on_ended {H} {D} {task} {B} {n} {v} {reading} waits h came e = ap (λ (r : Reading). r.answer) (h.left []) ∙ ended_in task h.known h.so_far n v waits v.phase h.holds (came_known task h.known B h.payload_known came) e

-- ---- what is shown

pub bucket_shown : (nesting : ℕ) (so_far : Option (List Pair)) (place : Option Place) (content : List ℕ) → HoldsBucket nesting so_far place content → pairs_at nesting place content ≡ so_far
bucket_shown nesting None place content h = rw h refl
bucket_shown nesting (Some pairs) (Some place) content h = rw h refl
bucket_shown nesting (Some pairs) None content h = absurd h

abbrev shown : Option (List Pair) → Option (List Pair) → Option SignInput → ℕ → Shown
shown protected unprotected sign_input open_items =
    record { protected = protected; unprotected = unprotected; sign_input = sign_input; open_items = open_items }

shown_alike : (p q : Option (List Pair)) (r t : Option (List Pair)) (x y : Option SignInput) (m n : ℕ) → p ≡ q → r ≡ t → x ≡ y → m ≡ n
    → shown p r x m ≡ shown q t y n
shown_alike p q r t x y m n e f g h = rw (e, f, g, h) refl

module _ {H D : ℕ} (task : Task) (known : Known) (so_far : Findings) (n : ℕ) (v : Reader H D) (waits : ItemWaits v) where
  open_input : (phase : Phase) → HoldsIn task known so_far n v phase → is_settled phase ≡ false → is_open (status_of_phase phase) ≡ true → input_in phase (held_input v) ≡ sign_input_for (asks task) task.setting.aad (left task known so_far n v phase).answer
  unfolding left here
  open_input phase h unsettled e = open_shows_no_input phase (held_input v) e ∙ sym (ap (sign_input_for (asks task) task.setting.aad) (truncated_in task known so_far n v waits phase h unsettled))

  signed_input : (elsewhere : Bool) → asks task ≡ elsewhere → (p : Signed) → IsSigned task known v.chosen v.hashing v.auth.items p → held_input v p.head_at ≡ sign_input_for (asks task) task.setting.aad (complete (whole_of known p.head_at p.taken))
  signed_input true away p s = rw (s.elsewhere_is, away) refl
  signed_input false is_here p s =
      let digest : digest_signed task.setting.aad s.found (whole_of known p.head_at p.taken) ≡ result_of v.hashing = no_mac s.found p.alg (structure task.setting.aad known.headers known.payload) (result_of v.hashing) s.alg_is (s.no_tag is_here) (s.digest_is is_here) in
      rw (s.elsewhere_is, is_here, s.key_is, s.chosen_is, digest, s.auth_is) refl

  input_shown : (phase : Phase) → HoldsIn task known so_far n v phase → IsNow task known so_far n v waits → input_in phase (held_input v) ≡ sign_input_for (asks task) task.setting.aad (left task known so_far n v phase).answer
  unfolding left here
  input_shown (phases.Settled verdict) h now = refl
  input_shown (phases.Shaped p) h now = refl
  input_shown (phases.Decided verdict) h now = absurd h
  input_shown (phases.Signed p) h now = signed_input (asks task) refl p h.2
  input_shown phases.FirstHead h now = open_input phases.FirstHead h refl refl
  input_shown (phases.TagHead p) h now = open_input (phases.TagHead p) h refl refl
  input_shown (phases.ArrayHead p) h now = open_input (phases.ArrayHead p) h refl refl
  input_shown (phases.ProtectedHead p) h now = open_input (phases.ProtectedHead p) h refl refl
  input_shown (phases.Protected p) h now = open_input (phases.Protected p) h refl refl
  input_shown (phases.Unprotected p) h now = open_input (phases.Unprotected p) h refl refl
  input_shown (phases.PayloadHead p) h now = open_input (phases.PayloadHead p) h refl refl
  input_shown (phases.Payload p) h now = open_input (phases.Payload p) h refl refl
  input_shown (phases.Detached p) h now = sym (ap (λ (r : Reading). sign_input_for (asks task) task.setting.aad r.answer) (awaiting_in task known so_far n v waits p h now []))
  input_shown (phases.AuthHead p) h now = open_input (phases.AuthHead p) h refl refl
  input_shown (phases.Auth p) h now = open_input (phases.Auth p) h refl refl

pub reads_on_shown : {H D : ℕ} {task : Task} {B : List ℕ} {n : ℕ} {v : Reader H D} {reading : List ℕ → Reading} → ItemWaits v → ReaderMeans task B n v reading → given_to B task ≡ task → shown_by v ≡ shown_in task (reading [])
unfolding left here
reads_on_shown {H} {D} {task} {B} {n} {v} {reading} waits h came =
    let now = came_known task h.known B h.payload_known came in
    let same : (reading []).so_far ≡ h.so_far = ap (λ (r : Reading). r.so_far) (h.left [] ∙ ends_in task h.known h.so_far n v waits v.phase h.holds now) in
    shown_alike _ _ _ _ _ _ _ _
    (bucket_shown D h.so_far.protected v.protected_at v.protected.items h.shows.1 ∙ sym (ap (λ (t : Findings). t.protected) same))
    (bucket_shown D h.so_far.unprotected v.unprotected_at v.unprotected.items h.shows.2 ∙ sym (ap (λ (t : Findings). t.unprotected) same))
    (input_shown task h.known h.so_far n v waits v.phase h.holds now ∙ sym (ap (λ (r : Reading). sign_input_for (asks task) task.setting.aad r.answer) (h.left [])))
    (h.shows.3 ∙ sym (ap (λ (t : Findings). t.open_items) same))
