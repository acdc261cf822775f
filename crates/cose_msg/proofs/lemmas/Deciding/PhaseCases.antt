-- What is known of a phase that is none of certain phases.
use Rattle.std.proofs.Common.{◌≡◌, ◌<◌, arith, ◌⊎◌, inl, inr, ◌∙◌, ap, sym, Bool, ℕ, true, false, true≢false, Option, Some, None, refl}
use Rattle.cose_msg.specs.declared.phase.Auth.{Auth}
use Rattle.cose_msg.specs.declared.phase.Detached.{Detached}
use Rattle.cose_msg.specs.declared.phase.Payload.{Payload}
use Rattle.cose_msg.specs.declared.phase.Phase.{Phase}
use Rattle.cose_msg.specs.declared.phase.Phase.TheVariants as phases
use Rattle.cose_msg.specs.declared.phase.Protected.{Protected}
use Rattle.cose_msg.specs.declared.phase.Signed.{Signed}
use Rattle.cose_msg.specs.declared.phase.Unprotected.{Unprotected}
use Rattle.cose_msg.specs.declared.status.Status.TheVariants.{More}
use Rattle.cose_msg.specs.declared.verdict.Verdict.{Verdict}
use Rattle.cose_msg.specs.declared.verdict.Verdict.TheVariants.{Authentic, Refused}
use Rattle.cose_msg.specs.Kept.{verdict_in}
use Rattle.cose_msg.specs.Phase.{awaits_decision, ends_at, in_payload, is_settled, payload_want_of, takes_bytes}
use Rattle.cose_msg.specs.Shown.{SignInput, input_in}
use Rattle.cose_msg.specs.Status.{is_payload_next, status_of_phase}

-- In a phase that isn't settled and is no string, one byte is taken at a time.
pub takes_byte : (phase : Phase) → ((p : Protected) → phase ≡ phases.Protected p → ⊥) → ((p : Unprotected) → phase ≡ phases.Unprotected p → ⊥) →
    ((p : Payload) → phase ≡ phases.Payload p → ⊥) → ((p : Auth) → phase ≡ phases.Auth p → ⊥) → is_settled phase ≡ false → takes_bytes phase ≡ true
takes_byte phases.FirstHead a b c d e = refl
takes_byte (phases.TagHead p) a b c d e = refl
takes_byte (phases.ArrayHead p) a b c d e = refl
takes_byte (phases.ProtectedHead p) a b c d e = refl
takes_byte (phases.Protected p) a b c d e = absurd (a p refl)
takes_byte (phases.Unprotected p) a b c d e = absurd (b p refl)
takes_byte (phases.PayloadHead p) a b c d e = refl
takes_byte (phases.Payload p) a b c d e = absurd (c p refl)
takes_byte (phases.Detached p) a b c d e = absurd cc
takes_byte (phases.AuthHead p) a b c d e = refl
takes_byte (phases.Auth p) a b c d e = absurd (d p refl)
takes_byte (phases.Signed p) a b c d e = absurd cc
takes_byte (phases.Decided verdict) a b c d e = absurd cc
takes_byte (phases.Settled verdict) a b c d e = absurd cc
takes_byte (phases.Shaped p) a b c d e = absurd cc

-- A phase that isn't the payload's isn't in the payload.
pub not_in_payload : (phase : Phase) → ((p : Payload) → phase ≡ phases.Payload p → ⊥) → in_payload phase ≡ true → ⊥
not_in_payload phases.FirstHead none inside = cc
not_in_payload (phases.TagHead p) none inside = cc
not_in_payload (phases.ArrayHead p) none inside = cc
not_in_payload (phases.ProtectedHead p) none inside = cc
not_in_payload (phases.Protected p) none inside = cc
not_in_payload (phases.Unprotected p) none inside = cc
not_in_payload (phases.PayloadHead p) none inside = cc
not_in_payload (phases.Payload p) none inside = none p refl
not_in_payload (phases.Detached p) none inside = cc
not_in_payload (phases.AuthHead p) none inside = cc
not_in_payload (phases.Auth p) none inside = cc
not_in_payload (phases.Signed p) none inside = cc
not_in_payload (phases.Decided verdict) none inside = cc
not_in_payload (phases.Settled verdict) none inside = cc
not_in_payload (phases.Shaped p) none inside = cc

-- In the payload further bytes are wanted.
pub payload_is_more : (phase : Phase) → in_payload phase ≡ true → status_of_phase phase ≡ More
payload_is_more phases.FirstHead inside = absurd cc
payload_is_more (phases.TagHead p) inside = absurd cc
payload_is_more (phases.ArrayHead p) inside = absurd cc
payload_is_more (phases.ProtectedHead p) inside = absurd cc
payload_is_more (phases.Protected p) inside = absurd cc
payload_is_more (phases.Unprotected p) inside = absurd cc
payload_is_more (phases.PayloadHead p) inside = absurd cc
payload_is_more (phases.Payload p) inside = refl
payload_is_more (phases.Detached p) inside = absurd cc
payload_is_more (phases.AuthHead p) inside = absurd cc
payload_is_more (phases.Auth p) inside = absurd cc
payload_is_more (phases.Signed p) inside = absurd cc
payload_is_more (phases.Decided verdict) inside = absurd cc
payload_is_more (phases.Settled verdict) inside = absurd cc
payload_is_more (phases.Shaped p) inside = absurd cc

pub unsigned_is_undecided : (phase : Phase) → ((p : Signed) → phase ≡ phases.Signed p → ⊥) → awaits_decision phase ≡ false
unsigned_is_undecided phases.FirstHead none = refl
unsigned_is_undecided (phases.TagHead p) none = refl
unsigned_is_undecided (phases.ArrayHead p) none = refl
unsigned_is_undecided (phases.ProtectedHead p) none = refl
unsigned_is_undecided (phases.Protected p) none = refl
unsigned_is_undecided (phases.Unprotected p) none = refl
unsigned_is_undecided (phases.PayloadHead p) none = refl
unsigned_is_undecided (phases.Payload p) none = refl
unsigned_is_undecided (phases.Detached p) none = refl
unsigned_is_undecided (phases.AuthHead p) none = refl
unsigned_is_undecided (phases.Auth p) none = refl
unsigned_is_undecided (phases.Signed p) none = absurd (none p refl)
unsigned_is_undecided (phases.Decided verdict) none = refl
unsigned_is_undecided (phases.Settled verdict) none = refl
unsigned_is_undecided (phases.Shaped p) none = refl

-- A phase that has a verdict awaits no decision.
pub known_is_decided : (phase : Phase) (verdict : Verdict) → verdict_in phase ≡ Some verdict → awaits_decision phase ≡ true → ⊥
known_is_decided (phases.Signed p) verdict known awaits = cc
known_is_decided (phases.Decided other) verdict known awaits = cc
known_is_decided (phases.Settled other) verdict known awaits = cc
known_is_decided phases.FirstHead verdict known awaits = cc
known_is_decided (phases.TagHead p) verdict known awaits = cc
known_is_decided (phases.ArrayHead p) verdict known awaits = cc
known_is_decided (phases.ProtectedHead p) verdict known awaits = cc
known_is_decided (phases.Protected p) verdict known awaits = cc
known_is_decided (phases.Unprotected p) verdict known awaits = cc
known_is_decided (phases.PayloadHead p) verdict known awaits = cc
known_is_decided (phases.Payload p) verdict known awaits = cc
known_is_decided (phases.Detached p) verdict known awaits = cc
known_is_decided (phases.AuthHead p) verdict known awaits = cc
known_is_decided (phases.Auth p) verdict known awaits = cc
known_is_decided (phases.Shaped p) verdict known awaits = cc

-- A phase that awaits no decision and has no verdict gives no signature.
pub tells_no_input : (phase : Phase) (held : ℕ → Option SignInput) → awaits_decision phase ≡ false → verdict_in phase ≡ None → input_in phase held ≡ None
tells_no_input phases.FirstHead held undecided none = refl
tells_no_input (phases.TagHead p) held undecided none = refl
tells_no_input (phases.ArrayHead p) held undecided none = refl
tells_no_input (phases.ProtectedHead p) held undecided none = refl
tells_no_input (phases.Protected p) held undecided none = refl
tells_no_input (phases.Unprotected p) held undecided none = refl
tells_no_input (phases.PayloadHead p) held undecided none = refl
tells_no_input (phases.Payload p) held undecided none = refl
tells_no_input (phases.Detached p) held undecided none = refl
tells_no_input (phases.AuthHead p) held undecided none = refl
tells_no_input (phases.Auth p) held undecided none = refl
tells_no_input (phases.Signed p) held undecided none = absurd cc
tells_no_input (phases.Decided verdict) held undecided none = absurd cc
tells_no_input (phases.Settled verdict) held undecided none = refl
tells_no_input (phases.Shaped p) held undecided none = refl

pub more_is_unsettled : (phase : Phase) → status_of_phase phase ≡ More → is_settled phase ≡ false
more_is_unsettled phases.FirstHead more = refl
more_is_unsettled (phases.TagHead p) more = refl
more_is_unsettled (phases.ArrayHead p) more = refl
more_is_unsettled (phases.ProtectedHead p) more = refl
more_is_unsettled (phases.Protected p) more = refl
more_is_unsettled (phases.Unprotected p) more = refl
more_is_unsettled (phases.PayloadHead p) more = refl
more_is_unsettled (phases.Payload p) more = refl
more_is_unsettled (phases.Detached p) more = absurd cc
more_is_unsettled (phases.AuthHead p) more = refl
more_is_unsettled (phases.Auth p) more = refl
more_is_unsettled (phases.Signed p) more = absurd cc
more_is_unsettled (phases.Decided verdict) more = absurd cc
more_is_unsettled (phases.Settled (Authentic kind alg payload taken)) more = absurd cc
more_is_unsettled (phases.Settled (Refused refusal)) more = absurd cc
more_is_unsettled (phases.Shaped p) more = absurd cc

-- Either no byte of a detached payload is wanted, or the phase is that of one.
pub awaits_or_not : (phase : Phase) → (payload_want_of phase ≡ 0) ⊎ ((p : Detached) × (phase ≡ phases.Detached p))
awaits_or_not phases.FirstHead = inl refl
awaits_or_not (phases.TagHead p) = inl refl
awaits_or_not (phases.ArrayHead p) = inl refl
awaits_or_not (phases.ProtectedHead p) = inl refl
awaits_or_not (phases.Protected p) = inl refl
awaits_or_not (phases.Unprotected p) = inl refl
awaits_or_not (phases.PayloadHead p) = inl refl
awaits_or_not (phases.Payload p) = inl refl
awaits_or_not (phases.Detached p) = inr (p, refl)
awaits_or_not (phases.AuthHead p) = inl refl
awaits_or_not (phases.Auth p) = inl refl
awaits_or_not (phases.Signed p) = inl refl
awaits_or_not (phases.Decided verdict) = inl refl
awaits_or_not (phases.Settled verdict) = inl refl
awaits_or_not (phases.Shaped p) = inl refl

pub awaited_is_settled : (phase : Phase) → 0 < payload_want_of phase → is_settled phase ≡ true
awaited_is_settled phase some = elim (awaits_or_not phase) [
  | inl none ↦ absurd (omega (arith, some, none))
  | inr w ↦ ap is_settled w.1
]

-- A phase in which no byte of a detached payload is awaited: none is wanted, and the message ends where its bytes do.
pub not_awaiting : (phase : Phase) → ((p : Detached) → phase ≡ phases.Detached p → ⊥) → (payload_want_of phase ≡ 0) × ((n : ℕ) → ends_at phase n ≡ n)
not_awaiting phases.FirstHead none = (refl, λ n. refl)
not_awaiting (phases.TagHead p) none = (refl, λ n. refl)
not_awaiting (phases.ArrayHead p) none = (refl, λ n. refl)
not_awaiting (phases.ProtectedHead p) none = (refl, λ n. refl)
not_awaiting (phases.Protected p) none = (refl, λ n. refl)
not_awaiting (phases.Unprotected p) none = (refl, λ n. refl)
not_awaiting (phases.PayloadHead p) none = (refl, λ n. refl)
not_awaiting (phases.Payload p) none = (refl, λ n. refl)
not_awaiting (phases.Detached p) none = absurd (none p refl)
not_awaiting (phases.AuthHead p) none = (refl, λ n. refl)
not_awaiting (phases.Auth p) none = (refl, λ n. refl)
not_awaiting (phases.Signed p) none = (refl, λ n. refl)
not_awaiting (phases.Decided verdict) none = (refl, λ n. refl)
not_awaiting (phases.Settled verdict) none = (refl, λ n. refl)
not_awaiting (phases.Shaped p) none = (refl, λ n. refl)

-- A phase with a property that a phase awaiting a detached payload hasn't.
awaits_none : (has : Phase → Bool) (b : Bool) → ((p : Detached) → has (phases.Detached p) ≡ b → ⊥) → (phase : Phase) → has phase ≡ b →
    (p : Detached) → phase ≡ phases.Detached p → ⊥
awaits_none has b not phase e p is = not p (sym (ap has is) ∙ e)

-- Before a message is settled, no byte of a detached payload is wanted.
pub unsettled_wants_none : (phase : Phase) → is_settled phase ≡ false → payload_want_of phase ≡ 0
unsettled_wants_none phase e = (not_awaiting phase (awaits_none is_settled false (λ p. true≢false) phase e)).0

-- A message that isn't settled ends where its bytes do.
pub unsettled_ends : (phase : Phase) (n : ℕ) → is_settled phase ≡ false → ends_at phase n ≡ n
unsettled_ends phase n e = (not_awaiting phase (awaits_none is_settled false (λ p. true≢false) phase e)).1 n

-- Where the status isn't that bytes of a detached payload are wanted, none are.
pub none_wanted_else : (phase : Phase) → is_payload_next (status_of_phase phase) ≡ false → payload_want_of phase ≡ 0
none_wanted_else phase e = (not_awaiting phase (awaits_none (λ q. is_payload_next (status_of_phase q)) false (λ p. true≢false) phase e)).0

pub unsettled_is_more : (phase : Phase) → is_settled phase ≡ false → status_of_phase phase ≡ More
unsettled_is_more phases.FirstHead e = refl
unsettled_is_more (phases.TagHead p) e = refl
unsettled_is_more (phases.ArrayHead p) e = refl
unsettled_is_more (phases.ProtectedHead p) e = refl
unsettled_is_more (phases.Protected p) e = refl
unsettled_is_more (phases.Unprotected p) e = refl
unsettled_is_more (phases.PayloadHead p) e = refl
unsettled_is_more (phases.Payload p) e = refl
unsettled_is_more (phases.Detached p) e = absurd cc
unsettled_is_more (phases.AuthHead p) e = refl
unsettled_is_more (phases.Auth p) e = refl
unsettled_is_more (phases.Signed p) e = absurd cc
unsettled_is_more (phases.Decided verdict) e = absurd cc
unsettled_is_more (phases.Settled verdict) e = absurd cc
unsettled_is_more (phases.Shaped p) e = absurd cc
