-- Fewer bytes than are wanted leave a message unsettled.
use Rattle.std.proofs.Common.{◌≡◌, ℕ, ◌+◌, ◌<◌, ◌≤◌, Bool, true, false, List, [], ◌∷◌, ◌++◌, length, Option, refl, sym, ap, subst, ◌∙◌, arith, length-append, inl, inr}
use Rattle.std.specs.Prelude.{nat_lt, ◌-◌}
use Rattle.std.proofs.lemmas.Bool.{lt-ltb, cases_lt}
use Rattle.std.proofs.lemmas.List.{append-nil}
use Rattle.cose_head.specs.declared.head.Head.{Head}
use Rattle.cose_head.specs.declared.head.HeadStep.{HeadStep}
use Rattle.cose_head.specs.declared.head.HeadStep.TheVariants.{Got, More, Fault}
use Rattle.cose_head.specs.declared.reason.Reason.TheVariants.{Truncated}
use Rattle.cose_head.specs.Head.{IsMore, bare_head}
use Rattle.cose_head.specs.Measured.{left_of}
use Rattle.cose_head.specs.Reading.{read, refuse}
use Rattle.cose_head.specs.Walker.{HasPut}
use Rattle.cose_msg.specs.declared.phase.Detached.{Detached}
use Rattle.cose_msg.specs.declared.phase.Payload.{Payload}
use Rattle.cose_msg.specs.declared.phase.Phase.{Phase}
use Rattle.cose_msg.specs.declared.phase.Phase.TheVariants as phases
use Rattle.cose_msg.specs.declared.reader.Reader.{Reader}
use Rattle.cose_msg.specs.Answer.{Answer, Chosen, Headers, refused}
use Rattle.cose_msg.specs.Front.{past_array_head, past_first_head, past_second_head}
use Rattle.cose_msg.specs.Phase.{in_payload, is_settled, payload_want_of, want_of}
use Rattle.cose_msg.specs.Phases.{nothing_so_far, unprotected_so_far, headers_so_far, finish, past_auth_head, past_payload, past_payload_head, past_protected, past_protected_head, past_unprotected}
use Rattle.cose_msg.specs.Reading.{Next, Reading, Findings, awaits, cut, settled, past_head, open_items_after, wanted_after, with_head, with_item, with_string}
use Rattle.cose_msg.specs.Rules.{Rules}
use Rattle.cose_msg.specs.Source.{Source, detached, with_came}
use Rattle.cose_msg.specs.Task.{Task, given_to, rules_of}
use Rattle.cose_msg.specs.Reader.{HoldsHead, HoldsIn, Known, ReaderMeans, left_in, past_nil}
use Rattle.cose_msg.proofs.lemmas.Deciding.PhaseCases.{unsettled_wants_none}
use Rattle.cose_msg.proofs.lemmas.Reader.PhaseSteps.{string_whole}

-- ---- the forms

past_more : (so_far : Findings) (next : Next Head) (place : ℕ) (bytes : List ℕ) (step : HeadStep) → IsMore step → past_head so_far next place bytes step ≡ cut so_far 1 (place + length bytes)
past_more so_far next place bytes (More wanted) h = refl
past_more so_far next place bytes (Got head used) h = absurd h
past_more so_far next place bytes (Fault reason) h = absurd h

pub head_waits : (so_far : Findings) (next : Next Head) (place : ℕ) (held : List ℕ) → IsMore (bare_head held) → with_head so_far next place (held ++ []) ≡ cut so_far 1 (place + length held)
unfolding with_head
head_waits so_far next place held half = rw append-nil (past_more so_far next place held (bare_head held) half)

pub string_waits : (so_far : List ℕ → Findings) (n : ℕ) (next : Next (List ℕ)) (place : ℕ) (bytes : List ℕ) → length bytes < n → with_string so_far n next place bytes ≡ cut (so_far bytes) (n - length bytes) (place + length bytes)
unfolding with_string
string_waits so_far n next place bytes lt =
    let short : nat_lt (length bytes) n ≡ true = lt-ltb _ _ lt in
    rw short refl

pub item_waits : (so_far : ℕ → Findings) (room depth : ℕ) (next : Next (List ℕ)) (place : ℕ) (held : List ℕ) → read depth (left_of held room 0) ≡ refuse Truncated (length held) → with_item so_far room depth next place held ≡ cut (so_far (open_items_after room depth held)) (wanted_after room depth held) (place + length held)
unfolding with_item
item_waits so_far room depth next place held e = rw e refl

nothing_more : (more : List ℕ) → length more < 1 → more ≡ []
nothing_more [] lt = refl
nothing_more (x ∷ xs) lt = absurd (omega (arith, lt))

-- A reading that is the same without a further byte, where only one byte is wanted.
one_wanted : (reading : List ℕ → Reading) (more : List ℕ) → length more < 1 → (reading []).settled ≡ false → (reading more).settled ≡ false
one_wanted reading more lt e = subst (λ (m : List ℕ). (reading m).settled ≡ false) (sym (nothing_more more lt)) e

pub fewer : (held more : List ℕ) (n left : ℕ) → length held + left ≡ n → length more < left → length (held ++ more) < n
fewer held more n left count lt = omega (arith, length-append held more)

-- ---- the phases

-- What the walker of the unprotected bucket ensures: fewer further bytes than it wants end in its item.
abbrev pub ItemWaits : {H D : ℕ} → Reader H D → Type 0
ItemWaits {H} {D} v = HasPut H v.unprotected.items v.walker → (more : List ℕ) → length more < wanted_after H D v.unprotected.items →
    read D (left_of (v.unprotected.items ++ more) H 0) ≡ refuse Truncated (length (v.unprotected.items ++ more))

-- After the nil of a detached payload, of which bytes are missing.
pub nil_awaits : (source : Source) (rules : Rules) (headers : Headers) (chosen : Option Chosen) (B : List ℕ) (detached_length left at after : ℕ) (z : List ℕ) → source ≡ detached B detached_length → length B + left ≡ detached_length → 0 < left
    → past_nil source rules headers chosen at after z ≡ awaits (headers_so_far headers B) left at
nil_awaits source rules headers chosen B detached_length left at after z is count some =
    let short : nat_lt (length B) detached_length ≡ true = lt-ltb (length B) detached_length (omega (arith, count, some)) in
    let missing : detached_length - length B ≡ left = omega (arith, count) in
    rw (is, short, missing) refl

module _ {H D : ℕ} (task : Task) (known : Known) (so_far : Findings) (n : ℕ) (v : Reader H D) (waits : ItemWaits v) where
  -- A phase at the bytes that are held of it.
  unfoldable pub here : Phase → List ℕ → Reading
  here phase z = left_in (rules_of H D task) known so_far v phase z

  -- Its reading, settled or not.
  abbrev pub EndsAs : Phase → Bool → Type 0
  EndsAs phase done = here phase [] ≡ record { answer = (here phase []).answer; settled = done; wanted = want_of phase; payload_wanted = payload_want_of phase; so_far = so_far }

  -- The bytes end in it.
  abbrev IsCut : Phase → Type 0
  IsCut phase = here phase [] ≡ cut so_far (want_of phase) n

  cut_as : (reading : Reading) (other : Findings) (wanted left place : ℕ) → reading ≡ cut other wanted place → so_far ≡ other → wanted ≡ left → n ≡ place → reading ≡ cut so_far left n
  cut_as reading other wanted left place e same_so_far same_wanted same_place = e ∙ rw (same_so_far, same_wanted, same_place) refl

  head_cut : (phase : Phase) (other : Findings) (next : Next Head) (at : ℕ) → here phase [] ≡ with_head other next at (v.head.items ++ []) → want_of phase ≡ 1 → so_far ≡ other → HoldsHead at n v → IsCut phase
  head_cut phase other next at e one same h = e ∙ cut_as _ other 1 (want_of phase) _ (head_waits other next at v.head.items h.0) same (sym one) h.1

  string_cut : (phase : Phase) (other : List ℕ → Findings) (length_of left : ℕ) (next : Next (List ℕ)) (at : ℕ) (held : List ℕ) → here phase [] ≡ with_string other length_of next at (held ++ []) → want_of phase ≡ left → 0 < left → so_far ≡ other held → length held + left ≡ length_of → n ≡ at + length held → IsCut phase
  string_cut phase other length_of left next at held e same_left some same count place =
      let lengths : length (held ++ []) ≡ length held = ap length (append-nil held) in
      e ∙ cut_as _ (other (held ++ [])) (length_of - length (held ++ [])) (want_of phase) (at + length (held ++ []))
      (string_waits other length_of next at (held ++ []) (fewer held [] length_of left count some)) (same ∙ ap other (sym (append-nil held))) (omega (arith, lengths, count, same_left)) (omega (arith, lengths, place))

  -- Where a message isn't settled, the bytes end in the phase that is held.
  pub cut_in : (phase : Phase) → HoldsIn task known so_far n v phase → is_settled phase ≡ false → IsCut phase
  unfolding here
  cut_in phases.FirstHead h e = head_cut phases.FirstHead nothing_so_far (past_first_head (rules_of H D task)) 0 refl refl h.0 h.1
  cut_in (phases.TagHead p) h e = head_cut (phases.TagHead p) nothing_so_far (past_second_head (rules_of H D task)) p.at refl refl h.0 h.1
  cut_in (phases.ArrayHead p) h e = head_cut (phases.ArrayHead p) nothing_so_far (past_array_head (rules_of H D task) p.kind) p.at refl refl h.0 h.1
  cut_in (phases.ProtectedHead p) h e = head_cut (phases.ProtectedHead p) nothing_so_far (past_protected_head (rules_of H D task) p.kind) p.at refl refl h.0 h.1
  cut_in (phases.Protected p) h e =
      string_cut (phases.Protected p) (λ bytes. nothing_so_far) p.length p.left (past_protected (rules_of H D task) p.kind) p.at v.protected.items refl refl p.some_left h.0 h.1 h.3
  cut_in (phases.Unprotected p) h e =
      let none : v.unprotected.items ++ [] ≡ v.unprotected.items = append-nil v.unprotected.items in
      let put : read D (left_of v.unprotected.items H 0) ≡ refuse Truncated (length v.unprotected.items) = rw none at (waits h.2 [] (omega (arith, p.some_wanted, h.4))) in
      rw none (cut_as _ _ _ p.wanted _ (item_waits (unprotected_so_far known.headers.protected_pairs) H D (past_unprotected (rules_of H D task) p.kind v.protected.items known.headers.protected_pairs) p.at v.unprotected.items put) h.0 (sym h.4) h.3)
  cut_in (phases.PayloadHead p) h e =
      head_cut (phases.PayloadHead p) (headers_so_far known.headers []) (past_payload_head (rules_of H D task) known.headers known.chosen) p.at refl refl h.0 h.1
  cut_in (phases.Payload p) h e =
      string_cut (phases.Payload p) (headers_so_far known.headers) p.length p.left (past_payload (rules_of H D task) known.headers known.chosen) p.at known.payload refl refl p.some_left h.0 h.1 h.2
  cut_in (phases.Detached p) h e = absurd cc
  cut_in (phases.AuthHead p) h e =
      head_cut (phases.AuthHead p) (headers_so_far known.headers known.payload) (past_auth_head (rules_of H D task) known.headers known.chosen known.payload) p.at refl refl h.0 h.1
  cut_in (phases.Auth p) h e =
      string_cut (phases.Auth p) (λ bytes. headers_so_far known.headers known.payload) p.length p.left (finish (rules_of H D task) known.headers known.chosen known.payload p.head_at) p.at known.auth refl refl p.some_left h.0 h.1 h.2
  cut_in (phases.Signed p) h e = absurd cc
  cut_in (phases.Decided verdict) h e = absurd cc
  cut_in (phases.Settled verdict) h e = absurd cc
  cut_in (phases.Shaped p) h e = absurd cc

  -- The payload that has come is the one that was taken.
  abbrev pub IsNow : Type 0
  IsNow = with_came known.payload task.setting.source ≡ task.setting.source

  -- Bytes of a detached payload are missing.
  pub awaiting_in : (p : Detached) → HoldsIn task known so_far n v (phases.Detached p) → IsNow → (z : List ℕ) → here (phases.Detached p) z ≡ awaits so_far p.left p.at
  unfolding here
  awaiting_in p h now z =
      nil_awaits task.setting.source (rules_of H D task) known.headers known.chosen known.payload p.length p.left p.at p.after z (sym now ∙ ap (with_came known.payload) h.5.1) h.1 p.some_left
      ∙ ap (λ (t : Findings). awaits t p.left p.at) (sym h.0)

  awaits_ends : (p : Detached) → here (phases.Detached p) [] ≡ awaits so_far p.left p.at → EndsAs (phases.Detached p) true
  awaits_ends p e = e ∙ ap (λ (answer : Answer). let reading : Reading = record { answer = answer; settled = true; wanted = 0; payload_wanted = p.left; so_far = so_far } in reading) (sym (ap (λ (r : Reading). r.answer) e))

  settled_in : (phase : Phase) → HoldsIn task known so_far n v phase → IsNow → is_settled phase ≡ true → EndsAs phase true
  unfolding here
  settled_in (phases.Detached p) h now e = awaits_ends p (awaiting_in p h now [])
  settled_in (phases.Signed p) h now e = ap (λ (t : Findings). settled t (here (phases.Signed p) []).answer) (sym h.0)
  settled_in (phases.Decided verdict) h now e = refl
  settled_in (phases.Settled verdict) h now e = refl
  settled_in (phases.Shaped p) h now e = refl
  settled_in phases.FirstHead h now e = absurd cc
  settled_in (phases.TagHead p) h now e = absurd cc
  settled_in (phases.ArrayHead p) h now e = absurd cc
  settled_in (phases.ProtectedHead p) h now e = absurd cc
  settled_in (phases.Protected p) h now e = absurd cc
  settled_in (phases.Unprotected p) h now e = absurd cc
  settled_in (phases.PayloadHead p) h now e = absurd cc
  settled_in (phases.Payload p) h now e = absurd cc
  settled_in (phases.AuthHead p) h now e = absurd cc
  settled_in (phases.Auth p) h now e = absurd cc

  ends_if : (phase : Phase) → HoldsIn task known so_far n v phase → IsNow → (done : Bool) → is_settled phase ≡ done → EndsAs phase done
  ends_if phase h now true e = settled_in phase h now e
  ends_if phase h now false e =
      let is_cut : IsCut phase = cut_in phase h e in
      is_cut
      ∙ ap (λ (answer : Answer). let reading : Reading = record { answer = answer; settled = false; wanted = want_of phase; payload_wanted = 0; so_far = so_far } in reading) (sym (ap (λ (r : Reading). r.answer) is_cut))
      ∙ ap (λ (m : ℕ). let reading : Reading = record { answer = (here phase []).answer; settled = false; wanted = want_of phase; payload_wanted = m; so_far = so_far } in reading) (sym (unsettled_wants_none phase e))

  -- Without a further byte it is settled or not as the phase is, wants what the phase wants, and gives what is known so
  -- far.
  pub ends_in : (phase : Phase) → HoldsIn task known so_far n v phase → IsNow → EndsAs phase (is_settled phase)
  ends_in phase h now = ends_if phase h now (is_settled phase) refl

  -- Where it isn't settled, it is Truncated at the number of bytes.
  pub truncated_in : (phase : Phase) → HoldsIn task known so_far n v phase → is_settled phase ≡ false → (here phase []).answer ≡ refused Truncated n
  truncated_in phase h e = ap (λ (r : Reading). r.answer) (cut_in phase h e)

  open_at : (phase : Phase) → HoldsIn task known so_far n v phase → is_settled phase ≡ false → want_of phase ≡ 1 → (more : List ℕ) → length more < want_of phase → (here phase more).settled ≡ false
  open_at phase h e one more lt = one_wanted (here phase) more (omega (arith, lt, one)) (ap (λ (r : Reading). r.settled) (cut_in phase h e))

  string_open : (so_far : List ℕ → Findings) (n : ℕ) (next : Next (List ℕ)) (place : ℕ) (bytes : List ℕ) → length bytes < n → (with_string so_far n next place bytes).settled ≡ false
  string_open so_far n next place bytes lt = ap (λ (r : Reading). r.settled) (string_waits so_far n next place bytes lt)

  open_in : (phase : Phase) → HoldsIn task known so_far n v phase → (more : List ℕ) → length more < want_of phase → (here phase more).settled ≡ false
  unfolding here
  open_in phases.FirstHead h = open_at phases.FirstHead h refl refl
  open_in (phases.TagHead p) h = open_at (phases.TagHead p) h refl refl
  open_in (phases.ArrayHead p) h = open_at (phases.ArrayHead p) h refl refl
  open_in (phases.ProtectedHead p) h = open_at (phases.ProtectedHead p) h refl refl
  open_in (phases.Protected p) h = λ more lt.
      string_open (λ bytes. nothing_so_far) p.length (past_protected (rules_of H D task) p.kind) p.at (v.protected.items ++ more) (fewer v.protected.items more p.length p.left h.1 lt)
  open_in (phases.Unprotected p) h = λ more lt.
      let put : read D (left_of (v.unprotected.items ++ more) H 0) ≡ refuse Truncated (length (v.unprotected.items ++ more)) = waits h.2 more (omega (arith, lt, h.4)) in
      ap (λ (r : Reading). r.settled) (item_waits (unprotected_so_far known.headers.protected_pairs) H D (past_unprotected (rules_of H D task) p.kind v.protected.items known.headers.protected_pairs) p.at (v.unprotected.items ++ more) put)
  open_in (phases.PayloadHead p) h = open_at (phases.PayloadHead p) h refl refl
  open_in (phases.Payload p) h = λ more lt.
      string_open (headers_so_far known.headers) p.length (past_payload (rules_of H D task) known.headers known.chosen) p.at (known.payload ++ more) (fewer known.payload more p.length p.left h.1 lt)
  open_in (phases.Detached p) h = λ more lt. absurd (omega (arith, lt))
  open_in (phases.AuthHead p) h = open_at (phases.AuthHead p) h refl refl
  open_in (phases.Auth p) h = λ more lt.
      string_open (λ bytes. headers_so_far known.headers known.payload) p.length (finish (rules_of H D task) known.headers known.chosen known.payload p.head_at) p.at (known.auth ++ more) (fewer known.auth more p.length p.left h.1 lt)
  open_in (phases.Signed p) h = λ more lt. absurd (omega (arith, lt))
  open_in (phases.Decided verdict) h = λ more lt. absurd (omega (arith, lt))
  open_in (phases.Settled verdict) h = λ more lt. absurd (omega (arith, lt))
  open_in (phases.Shaped p) h = λ more lt. absurd (omega (arith, lt))

  -- After a payload comes a head, of which no byte is there.
  payload_ends_open : (p : Payload) → (more : List ℕ) → length (known.payload ++ more) ≡ p.length → (here (phases.Payload p) more).settled ≡ false
  unfolding here bare_head
  payload_ends_open p more whole =
      let e : here (phases.Payload p) (more ++ []) ≡ past_payload (rules_of H D task) known.headers known.chosen p.at (known.payload ++ more) (p.at + p.length) [] = string_whole (headers_so_far known.headers) p.length (past_payload (rules_of H D task) known.headers known.chosen) p.at known.payload more whole [] in
      let next = past_auth_head (rules_of H D task) known.headers known.chosen (known.payload ++ more) in
      let waiting = head_waits (headers_so_far known.headers (known.payload ++ more)) next (p.at + p.length) [] tt in
      subst (λ (m : List ℕ). (here (phases.Payload p) m).settled ≡ false) (append-nil more) (ap (λ (r : Reading). r.settled) e ∙ ap (λ (r : Reading). r.settled) waiting)

  payload_open : (phase : Phase) → HoldsIn task known so_far n v phase → in_payload phase ≡ true → (more : List ℕ) → length more ≤ want_of phase → (here phase more).settled ≡ false
  payload_open (phases.Payload p) h is more le = elim (cases_lt (length more) p.left) [
    | inl shorter ↦ open_in (phases.Payload p) h more shorter
    | inr not_shorter ↦ payload_ends_open p more (omega (arith, h.1, le, not_shorter, length-append known.payload more))
  ]
  payload_open phases.FirstHead h is more le = absurd cc
  payload_open (phases.TagHead p) h is more le = absurd cc
  payload_open (phases.ArrayHead p) h is more le = absurd cc
  payload_open (phases.ProtectedHead p) h is more le = absurd cc
  payload_open (phases.Protected p) h is more le = absurd cc
  payload_open (phases.Unprotected p) h is more le = absurd cc
  payload_open (phases.PayloadHead p) h is more le = absurd cc
  payload_open (phases.Detached p) h is more le = absurd cc
  payload_open (phases.AuthHead p) h is more le = absurd cc
  payload_open (phases.Auth p) h is more le = absurd cc
  payload_open (phases.Signed p) h is more le = absurd cc
  payload_open (phases.Decided verdict) h is more le = absurd cc
  payload_open (phases.Settled verdict) h is more le = absurd cc
  payload_open (phases.Shaped p) h is more le = absurd cc

-- ---- a verifier

-- The payload that was taken of a detached one is all that has come of it.
pub came_known : (task : Task) (known : Known) (B : List ℕ) → known.payload ≡ B → given_to B task ≡ task → with_came known.payload task.setting.source ≡ task.setting.source
came_known task known B is came = ap (λ (t : List ℕ). with_came t task.setting.source) is ∙ ap (λ (t : Task). t.setting.source) came

pub reads_on_open : {H D : ℕ} {task : Task} {B : List ℕ} {n : ℕ} {v : Reader H D} {reading : List ℕ → Reading} → ItemWaits v → (more : List ℕ) → ReaderMeans task B n v reading → length more < want_of v.phase → (reading more).settled ≡ false
unfolding here
reads_on_open {H} {D} {task} {B} {n} {v} {reading} waits more h lt = ap (λ (r : Reading). r.settled) (h.left more) ∙ open_in task h.known h.so_far n v waits v.phase h.holds more lt

pub reads_on_settled : {H D : ℕ} {task : Task} {B : List ℕ} {n : ℕ} {v : Reader H D} {reading : List ℕ → Reading} → ItemWaits v → ReaderMeans task B n v reading → given_to B task ≡ task → (reading []).settled ≡ is_settled v.phase
unfolding here
reads_on_settled {H} {D} {task} {B} {n} {v} {reading} waits h came = ap (λ (r : Reading). r.settled) (h.left [] ∙ ends_in task h.known h.so_far n v waits v.phase h.holds (came_known task h.known B h.payload_known came))

pub reads_on_wanted : {H D : ℕ} {task : Task} {B : List ℕ} {n : ℕ} {v : Reader H D} {reading : List ℕ → Reading} → ItemWaits v → ReaderMeans task B n v reading → given_to B task ≡ task → (reading []).wanted ≡ want_of v.phase
unfolding here
reads_on_wanted {H} {D} {task} {B} {n} {v} {reading} waits h came = ap (λ (r : Reading). r.wanted) (h.left [] ∙ ends_in task h.known h.so_far n v waits v.phase h.holds (came_known task h.known B h.payload_known came))

pub reads_on_payload_wanted : {H D : ℕ} {task : Task} {B : List ℕ} {n : ℕ} {v : Reader H D} {reading : List ℕ → Reading} → ItemWaits v → ReaderMeans task B n v reading → given_to B task ≡ task → (reading []).payload_wanted ≡ payload_want_of v.phase
unfolding here
reads_on_payload_wanted {H} {D} {task} {B} {n} {v} {reading} waits h came = ap (λ (r : Reading). r.payload_wanted) (h.left [] ∙ ends_in task h.known h.so_far n v waits v.phase h.holds (came_known task h.known B h.payload_known came))

pub reads_on_so_far : {H D : ℕ} {task : Task} {B : List ℕ} {n : ℕ} {v : Reader H D} {reading : List ℕ → Reading} → ItemWaits v → ReaderMeans task B n v reading → given_to B task ≡ task → (reading []).so_far.payload ≡ B
unfolding here
reads_on_so_far {H} {D} {task} {B} {n} {v} {reading} waits h came = ap (λ (r : Reading). r.so_far.payload) (h.left [] ∙ ends_in task h.known h.so_far n v waits v.phase h.holds (came_known task h.known B h.payload_known came)) ∙ h.payload_so_far

pub reads_on_payload : {H D : ℕ} {task : Task} {B : List ℕ} {n : ℕ} {v : Reader H D} {reading : List ℕ → Reading} → ItemWaits v → (more : List ℕ) → ReaderMeans task B n v reading → in_payload v.phase ≡ true → length more ≤ want_of v.phase → (reading more).settled ≡ false
unfolding here
reads_on_payload {H} {D} {task} {B} {n} {v} {reading} waits more h is le = ap (λ (r : Reading). r.settled) (h.left more) ∙ payload_open task h.known h.so_far n v waits v.phase h.holds is more le
