-- How much of a payload is known: in its phase as many bytes as were taken of it, and after it no more.
use Rattle.std.proofs.Common.{◌≡◌, ℕ, ◌+◌, ◌<◌, true, false, List, [], ◌++◌, length, take, drop, Option, refl, sym, ap, subst, ◌∙◌, arith, inl, inr, length-append}
use Rattle.std.proofs.lemmas.Bool.{cases_lt}
use Rattle.std.proofs.lemmas.List.{length-take, take-append-drop, take_all}
use Rattle.cose_msg.specs.declared.phase.Payload.{Payload}
use Rattle.cose_msg.specs.declared.phase.Phase.{Phase}
use Rattle.cose_msg.specs.declared.phase.Phase.TheVariants as phases
use Rattle.cose_msg.specs.declared.reader.Reader.{Reader}
use Rattle.cose_msg.specs.Answer.{Chosen, Headers}
use Rattle.cose_msg.specs.Phase.{in_payload, want_of}
use Rattle.cose_msg.specs.Phases.{headers_so_far, finish, auth, auth_head, auth_head_fault, past_auth_head, past_payload}
use Rattle.cose_msg.specs.Reading.{Reading, Findings}
use Rattle.cose_msg.specs.Rules.{Rules}
use Rattle.cose_msg.specs.Source.{with_came}
use Rattle.cose_msg.specs.Task.{Task, given_to, rules_of}
use Rattle.cose_msg.specs.Reader.{HoldsIn, Known, ReaderMeans, left_in}
use Rattle.cose_msg.proofs.lemmas.Reader.PhaseSteps.{string_whole}
use Rattle.cose_msg.proofs.lemmas.Reading.FindingForms.{HoldsThroughout, unless_fault-holds, with_head-holds, with_string-holds}
use Rattle.cose_msg.proofs.lemmas.Reader.Unsettled.{came_known, fewer, nil_awaits, string_waits}

-- ---- after the payload

abbrev Is : List ℕ → Findings → Type 0
Is B so_far = so_far.payload ≡ B

auth-holds : (rules : Rules) (headers : Headers) (chosen : Option Chosen) (B : List ℕ) (at n : ℕ) → HoldsThroughout (Is B) (auth rules headers chosen B at n)
auth-holds rules headers chosen B at n = with_string-holds (Is B) (λ bytes. headers_so_far headers B) n (finish rules headers chosen B at) (λ bytes lt. refl) (λ from string short place bytes. refl)

auth_head-holds : (rules : Rules) (headers : Headers) (chosen : Option Chosen) (B : List ℕ) → HoldsThroughout (Is B) (auth_head rules headers chosen B)
auth_head-holds rules headers chosen B = with_head-holds (Is B) (headers_so_far headers B) (past_auth_head rules headers chosen B) refl
    (λ at head. unless_fault-holds (Is B) (headers_so_far headers B) at (auth_head_fault rules chosen head) (auth rules headers chosen B at head.arg) refl (λ e. auth-holds rules headers chosen B at head.arg))

-- ---- the phases

none_known : {A : Type 0} (so_far other : Findings) → so_far ≡ other → other.payload ≡ [] → 0 < length so_far.payload → A
none_known so_far other e none some =
    let empty : length so_far.payload ≡ 0 = ap length (ap (λ (t : Findings). t.payload) e ∙ none) in
    absurd (omega (arith, empty, some))

module _ {H D : ℕ} (task : Task) (known : Known) (so_far : Findings) (n : ℕ) (v : Reader H D) where
  -- Where the phase isn't the payload, nothing is added to the payload.
  fixed_in : (phase : Phase) → HoldsIn task known so_far n v phase → in_payload phase ≡ false → known.payload ≡ so_far.payload → with_came known.payload task.setting.source ≡ task.setting.source → 0 < length so_far.payload → (more : List ℕ) →
      (left_in (rules_of H D task) known so_far v phase more).so_far.payload ≡ so_far.payload
  fixed_in phases.FirstHead h e same now some more = none_known so_far _ h.0 refl some
  fixed_in (phases.TagHead p) h e same now some more = none_known so_far _ h.0 refl some
  fixed_in (phases.ArrayHead p) h e same now some more = none_known so_far _ h.0 refl some
  fixed_in (phases.ProtectedHead p) h e same now some more = none_known so_far _ h.0 refl some
  fixed_in (phases.Protected p) h e same now some more = none_known so_far _ h.0 refl some
  fixed_in (phases.Unprotected p) h e same now some more = none_known so_far _ h.0 refl some
  fixed_in (phases.PayloadHead p) h e same now some more = none_known so_far _ h.0 refl some
  fixed_in (phases.Payload p) h e same now some more = absurd cc
  fixed_in (phases.Detached p) h e same now some more = ap (λ (r : Reading). r.so_far.payload) (nil_awaits task.setting.source (rules_of H D task) known.headers known.chosen known.payload p.length p.left p.at p.after more (sym now ∙ ap (with_came known.payload) h.5.1) h.1 p.some_left) ∙ same
  fixed_in (phases.AuthHead p) h e same now some more = auth_head-holds (rules_of H D task) known.headers known.chosen known.payload p.at (v.head.items ++ more) ∙ same
  fixed_in (phases.Auth p) h e same now some more = auth-holds (rules_of H D task) known.headers known.chosen known.payload p.head_at p.length p.at (known.auth ++ more) ∙ same
  fixed_in (phases.Signed p) h e same now some more = same
  fixed_in (phases.Decided verdict) h e same now some more = refl
  fixed_in (phases.Settled verdict) h e same now some more = refl
  fixed_in (phases.Shaped p) h e same now some more = refl

  -- In the payload the next bytes are added to it, as many as are left.
  grows_at : (p : Payload) → HoldsIn task known so_far n v (phases.Payload p) → (more : List ℕ) →
      (left_in (rules_of H D task) known so_far v (phases.Payload p) more).so_far.payload ≡ known.payload ++ take p.left more
  grows_at p h more = elim (cases_lt (length more) p.left) [
    | inl shorter ↦ (
        let waits = string_waits (headers_so_far known.headers) p.length (past_payload (rules_of H D task) known.headers known.chosen) p.at (known.payload ++ more) (fewer known.payload more p.length p.left h.1 shorter) in
        ap (λ (r : Reading). r.so_far.payload) waits ∙ ap (λ (t : List ℕ). known.payload ++ t) (sym (take_all p.left more (omega (arith, shorter)))))
    | inr enough ↦ (
        let part : List ℕ = take p.left more in
        let whole : length (known.payload ++ part) ≡ p.length = omega (arith, h.1, enough, length-append known.payload part, length-take p.left more) in
        let e = string_whole (headers_so_far known.headers) p.length (past_payload (rules_of H D task) known.headers known.chosen) p.at known.payload part whole (drop p.left more) in
        let all : (left_in (rules_of H D task) known so_far v (phases.Payload p) (part ++ drop p.left more)).so_far.payload ≡ known.payload ++ part =
        ap (λ (r : Reading). r.so_far.payload) e ∙ auth_head-holds (rules_of H D task) known.headers known.chosen (known.payload ++ part) (p.at + p.length) (drop p.left more) in
        subst (λ (m : List ℕ). (left_in (rules_of H D task) known so_far v (phases.Payload p) m).so_far.payload ≡ known.payload ++ part) (take-append-drop p.left more) all)
  ]

  grows_in : (phase : Phase) → HoldsIn task known so_far n v phase → in_payload phase ≡ true → (more : List ℕ) →
      (left_in (rules_of H D task) known so_far v phase more).so_far.payload ≡ known.payload ++ take (want_of phase) more
  grows_in (phases.Payload p) h e more = grows_at p h more
  grows_in phases.FirstHead h e more = absurd cc
  grows_in (phases.TagHead p) h e more = absurd cc
  grows_in (phases.ArrayHead p) h e more = absurd cc
  grows_in (phases.ProtectedHead p) h e more = absurd cc
  grows_in (phases.Protected p) h e more = absurd cc
  grows_in (phases.Unprotected p) h e more = absurd cc
  grows_in (phases.PayloadHead p) h e more = absurd cc
  grows_in (phases.Detached p) h e more = absurd cc
  grows_in (phases.AuthHead p) h e more = absurd cc
  grows_in (phases.Auth p) h e more = absurd cc
  grows_in (phases.Signed p) h e more = absurd cc
  grows_in (phases.Decided verdict) h e more = absurd cc
  grows_in (phases.Settled verdict) h e more = absurd cc
  grows_in (phases.Shaped p) h e more = absurd cc

-- ---- a verifier

pub reads_on_fixed : {H D : ℕ} {task : Task} {B : List ℕ} {n : ℕ} {v : Reader H D} {reading : List ℕ → Reading} → (more : List ℕ) → ReaderMeans task B n v reading → given_to B task ≡ task → in_payload v.phase ≡ false → 0 < length B → (reading more).so_far.payload ≡ B
reads_on_fixed {H} {D} {task} {B} {n} {v} {reading} more h came e some =
    let there : 0 < length h.so_far.payload = omega (arith, some, ap length h.payload_so_far) in
    ap (λ (r : Reading). r.so_far.payload) (h.left more) ∙ fixed_in task h.known h.so_far n v v.phase h.holds e (h.payload_known ∙ sym h.payload_so_far) (came_known task h.known B h.payload_known came) there more ∙ h.payload_so_far

pub reads_on_grows : {H D : ℕ} {task : Task} {B : List ℕ} {n : ℕ} {v : Reader H D} {reading : List ℕ → Reading} → (more : List ℕ) → ReaderMeans task B n v reading → in_payload v.phase ≡ true → (reading more).so_far.payload ≡ B ++ take (want_of v.phase) more
reads_on_grows {H} {D} {task} {B} {n} {v} {reading} more h e =
    ap (λ (r : Reading). r.so_far.payload) (h.left more) ∙ grows_in task h.known h.so_far n v v.phase h.holds e more ∙ ap (λ (t : List ℕ). t ++ take (want_of v.phase) more) h.payload_known
