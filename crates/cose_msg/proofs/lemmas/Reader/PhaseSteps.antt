-- The reading of a phase when more of its bytes are there: those that are held, and those of a piece.
use Rattle.std.proofs.Common.{◌≡◌, ℕ, ◌+◌, ◌-◌, ◌<◌, true, false, List, [], ◌∷◌, ◌++◌, length, take, drop, Some, None, Ok, Err, refl, sym, ap, slice_index, ◌∙◌, append_assoc, add-zero, arith, length-append}
use Rattle.std.specs.Prelude.{nat_lt, min, max, ◌≤◌}
use Rattle.std.proofs.lemmas.Bool.{le-ltb}
use Rattle.std.proofs.lemmas.List.{take_at, drop_at}
use Rattle.cose_head.specs.declared.head.Head.{Head}
use Rattle.cose_head.specs.declared.head.HeadStep.TheVariants.{Got, Fault}
use Rattle.cose_head.specs.declared.reason.Reason.{Reason}
use Rattle.cose_head.specs.declared.reason.Reason.TheVariants.{Truncated}
use Rattle.cose_head.specs.declared.refusal.Refusal.{Refusal}
use Rattle.cose_head.specs.declared.walker.Step.TheVariants as steps
use Rattle.cose_head.specs.Head.{bare_head}
use Rattle.cose_head.specs.Laws.{ReadStays}
use Rattle.cose_head.specs.Measured.{left_of}
use Rattle.cose_head.specs.Reading.{read}
use Rattle.cose_head.specs.Walker.{Answers}
use Rattle.cose_map.specs.Map.Read.{Read}
use Rattle.cose_map.specs.Map.View.{refusal_in}
use Rattle.cose_msg.specs.declared.phase.Phase as code
use Rattle.cose_msg.specs.declared.phase.Phase.TheVariants as phases
use Rattle.cose_msg.specs.Phase.{grown, takes_bytes}
use Rattle.cose_msg.specs.Reading.{Findings, Phase, Next, stop, is_truncated, with_head, with_string, with_item, with_value}

-- ---- a head

pub regrouped : (held : List ℕ) (byte : ℕ) (z : List ℕ) → (held ++ byte ∷ []) ++ z ≡ held ++ byte ∷ z
regrouped held byte z = append_assoc held (byte ∷ []) z

pub head_refused : (so_far : Findings) (next : Next Head) (place : ℕ) (held : List ℕ) (byte : ℕ) (reason : Reason) → ((more : List ℕ) → bare_head ((held ++ byte ∷ []) ++ more) ≡ Fault reason) → (z : List ℕ) → with_head so_far next place (held ++ byte ∷ z) ≡ stop so_far reason place
unfolding with_head
head_refused so_far next place held byte reason stays z =
    let e : bare_head (held ++ byte ∷ z) ≡ Fault reason = rw (← regrouped held byte z) (stays z) in
    rw e refl

-- The byte that completes a head is its last.
pub head_completed : (so_far : Findings) (next : Next Head) (place : ℕ) (held : List ℕ) (byte : ℕ) (head : Head) (used : ℕ) → ((more : List ℕ) → bare_head ((held ++ byte ∷ []) ++ more) ≡ Got head used) → used ≡ length (held ++ byte ∷ []) → (z : List ℕ) → with_head so_far next place (held ++ byte ∷ z) ≡ next place head (place + used) z
unfolding with_head
head_completed so_far next place held byte head used stays last z =
    let e : bare_head (held ++ byte ∷ z) ≡ Got head used = rw (← regrouped held byte z) (stays z) in
    let d : drop used (held ++ byte ∷ z) ≡ z = ap (drop used) (sym (regrouped held byte z)) ∙ drop_at (held ++ byte ∷ []) z used (sym last) in
    rw (e, d) refl

-- ---- a string

pub string_none : (so_far : List ℕ → Findings) (next : Next (List ℕ)) (place : ℕ) (z : List ℕ) → with_string so_far 0 next place z ≡ next place [] place z
unfolding with_string
string_none so_far next place z =
    let short : nat_lt (length z) 0 ≡ false = le-ltb _ _ (omega arith) in
    rw (short, add-zero) refl

pub string_whole : (so_far : List ℕ → Findings) (n : ℕ) (next : Next (List ℕ)) (place : ℕ) (held piece : List ℕ) → length (held ++ piece) ≡ n → (z : List ℕ) → with_string so_far n next place (held ++ (piece ++ z)) ≡ next place (held ++ piece) (place + n) z
unfolding with_string
string_whole so_far n next place held piece whole z =
    let e : (held ++ piece) ++ z ≡ held ++ (piece ++ z) = append_assoc held piece z in
    let long : nat_lt (length ((held ++ piece) ++ z)) n ≡ false = le-ltb _ _ (omega (arith, length-append (held ++ piece) z)) in
    rw (← e, long, take_at (held ++ piece) z n whole, drop_at (held ++ piece) z n whole) refl

-- ---- an item

not_truncated : (reason : Reason) → (reason ≡ Truncated → ⊥) → is_truncated reason ≡ false
not_truncated Truncated h = absurd (h refl)
not_truncated _ h = refl

module _ (stays : ReadStays) where
  pub item_completed : (so_far : ℕ → Findings) (room depth : ℕ) (next : Next (List ℕ)) (place : ℕ) (held piece : List ℕ) → Answers room (held ++ piece) steps.Done (read depth (left_of (held ++ piece) room 0)) → (z : List ℕ) → with_item so_far room depth next place (held ++ (piece ++ z)) ≡ next place (held ++ piece) (place + length (held ++ piece)) z
  unfolding with_item
  item_completed so_far room depth next place held piece h z =
      let again : read depth (left_of ((held ++ piece) ++ z) room 0) ≡ Ok (h.0, left_of z (room - length (held ++ piece)) (length (held ++ piece))) = rw h.1 at (stays depth (left_of (held ++ piece) room 0) z (rw h.1 tt)) in
      rw (← append_assoc held piece z, again, take_at (held ++ piece) z (length (held ++ piece)) refl, drop_at (held ++ piece) z (length (held ++ piece)) refl) refl

  pub item_refused : (so_far : ℕ → Findings) (room depth : ℕ) (next : Next (List ℕ)) (place : ℕ) (held piece : List ℕ) (refusal : Refusal) → Answers room (held ++ piece) (steps.Fault refusal) (read depth (left_of (held ++ piece) room 0)) → (z : List ℕ) → with_item so_far room depth next place (held ++ (piece ++ z)) ≡ stop (so_far 0) refusal.reason (place + refusal.place)
  unfolding with_item
  item_refused so_far room depth next place held piece refusal h z =
      let again : read depth (left_of ((held ++ piece) ++ z) room 0) ≡ Err refusal = rw h.0 at (stays depth (left_of (held ++ piece) room 0) z (rw h.0 h.1)) in
      let definite : is_truncated refusal.reason ≡ false = not_truncated refusal.reason h.1 in
      rw (← append_assoc held piece z, again, definite) refl

-- ---- a value that a test gives

pub value_refused : {A : Type 0} (so_far : Findings) (value : Read A) (next : A → Phase) (refusal : Refusal) → refusal_in value ≡ Some refusal → (place : ℕ) (z : List ℕ) → with_value so_far value next place z ≡ stop so_far refusal.reason refusal.place
value_refused so_far (Ok x) next refusal e place z = absurd cc
value_refused so_far (Err other) next refusal e place z = let same : other ≡ refusal = cc in rw same refl

pub value_there : {A : Type 0} (value : Read A) → refusal_in value ≡ None → (x : A) × (value ≡ Ok x)
value_there (Ok x) e = (x, refl)
value_there (Err refusal) e = absurd cc

-- ---- what was taken of a piece

pub first_byte : (piece : List ℕ) → 0 < length piece → take 1 piece ≡ slice_index piece 0 ∷ []
first_byte [] lt = absurd (omega (arith, lt))
first_byte (byte ∷ bytes) lt = refl

pub single : (piece : List ℕ) → 0 < length piece → length piece ≤ 1 → slice_index piece 0 ∷ [] ≡ piece
single [] some one = absurd (omega (arith, some))
single (byte ∷ []) some one = refl
single (byte ∷ other ∷ bytes) some one = absurd (omega (arith, one))

-- A piece of no more bytes than an item wants: one byte, where no string of it is open, and otherwise bytes of that
-- string alone.
pub one_wanted : (content n : ℕ) → min content n ≡ 0 → 0 < n → n ≤ max 1 content → n ≤ 1
one_wanted content n none some fits = omega (arith, none, some, fits)

pub piece_of_string : (content n : ℕ) → (min content n ≡ 0 → ⊥) → n ≤ max 1 content → min content n ≡ n
piece_of_string content n some fits = omega (arith, some, fits)

-- A byte of a head is none of the payload.
pub grown_by_byte : (phase : code.Phase) (B part : List ℕ) → takes_bytes phase ≡ true → grown phase B part ≡ B
grown_by_byte phases.FirstHead B part e = refl
grown_by_byte (phases.TagHead p) B part e = refl
grown_by_byte (phases.ArrayHead p) B part e = refl
grown_by_byte (phases.ProtectedHead p) B part e = refl
grown_by_byte (phases.Protected p) B part e = refl
grown_by_byte (phases.Unprotected p) B part e = refl
grown_by_byte (phases.PayloadHead p) B part e = refl
grown_by_byte (phases.Payload p) B part e = absurd cc
grown_by_byte (phases.Detached p) B part e = absurd cc
grown_by_byte (phases.AuthHead p) B part e = refl
grown_by_byte (phases.Auth p) B part e = refl
grown_by_byte (phases.Signed p) B part e = refl
grown_by_byte (phases.Decided verdict) B part e = refl
grown_by_byte (phases.Settled verdict) B part e = refl
grown_by_byte (phases.Shaped p) B part e = refl
