-- A piece that is fed, as far as it was used.
use Rattle.std.proofs.Common.{◌≡◌, ℕ, ◌+◌, ◌-◌, ◌^◌, ◌<◌, ◌≤◌, Bool, true, false, cond, List, [], ◌∷◌, ◌++◌, length, take, drop, sym, ap, subst, ◌∙◌, append_assoc, arith, inl, inr, length-append, eq-eqb}
use Rattle.std.specs.Prelude.{◌==◌}
use Rattle.std.proofs.lemmas.Bool.{cases_lt, ne_eqb}
use Rattle.std.proofs.lemmas.List.{append-nil, take_all, length-take, length-drop, drop-drop}
use Rattle.std.proofs.Math.Seq.{take-add}
use Rattle.cose_msg.specs.declared.verifier.Verifier.{Verifier}
use Rattle.cose_msg.specs.Feed.{Uses, part_of}
use Rattle.cose_msg.specs.Kept.{HasTaken}
use Rattle.cose_msg.specs.Message.{message}
use Rattle.cose_msg.specs.Phase.{grown, in_payload, is_settled, want_of}
use Rattle.cose_msg.specs.Reading.{Reading}
use Rattle.cose_msg.specs.Shown.{ShowsReading, shown_in, shown_of}
use Rattle.cose_msg.specs.Task.{Task, rules_of}
use Rattle.cose_msg.proofs.lemmas.Run.Runs.{Bounded, grown_by, settled_if_none_asked, without_more}

-- ---- parts of a piece

-- The next bytes of a piece, after those that were used.
pub used_then : (piece : List ℕ) (used count : ℕ) → take (used + count) piece ≡ take used piece ++ take count (drop used piece)
used_then piece used count = take-add used count piece

pub part_then : (piece : List ℕ) (from to count : ℕ) → from ≤ to → part_of piece from (to + count) ≡ part_of piece from to ++ take count (drop to piece)
part_then piece from to count le =
    let more : (to + count) - from ≡ (to - from) + count = omega (arith, le) in
    let rest : drop (to - from) (drop from piece) ≡ drop to piece = drop-drop (to - from) from piece ∙ ap (λ (n : ℕ). drop n piece) (let e : from + (to - from) ≡ to = omega (arith, le) in e) in
    ap (λ (n : ℕ). take n (drop from piece)) more ∙ take-add (to - from) count (drop from piece) ∙ ap (λ (t : List ℕ). take (to - from) (drop from piece) ++ take count t) rest

pub part_from : (piece : List ℕ) (used count : ℕ) → part_of piece used (used + count) ≡ take count (drop used piece)
part_from piece used count = let e : (used + count) - used ≡ count = omega arith in ap (λ (n : ℕ). take n (drop used piece)) e

-- The next bytes in the terms of the code.
abbrev pub next_of : List ℕ → ℕ → ℕ → List ℕ
next_of piece used count = take count (take (length piece - used) (drop used piece))

rest_of : (piece : List ℕ) (used : ℕ) → take (length piece - used) (drop used piece) ≡ drop used piece
rest_of piece used = take_all (length piece - used) (drop used piece) (omega (arith, length-drop used piece))

pub fits_in : (piece : List ℕ) (used count : ℕ) → used ≤ length piece → count ≤ length (take (length piece - used) (drop used piece)) → (used + count ≤ length piece) × (length (next_of piece used count) ≡ count)
fits_in piece used count within le =
    let rest : length (take (length piece - used) (drop used piece)) ≡ length piece - used = ap length (rest_of piece used) ∙ length-drop used piece in
    (omega (arith, within, le, rest), omega (arith, le, length-take count (take (length piece - used) (drop used piece))))

pub chosen_within : (b : Bool) (x y n : ℕ) → x ≤ n → y ≤ n → cond b x y ≤ n
chosen_within true x y n p q = p
chosen_within false x y n p q = q

pub in_order : (from to : ℕ) → from ≤ to → (from ≡ to → to ≡ 0) → 0 < to → from < to
in_order from to le none some = elim (cases_lt from to) [
  | inl lt ↦ lt
  | inr ge ↦ (let nothing : to ≡ 0 = none (omega (arith, le, ge)) in absurd (omega (arith, nothing, some)))
]

-- The payload's part with one step more, which begins it or continues where it was.
pub part_extended : (piece : List ℕ) (from to used count : ℕ) → from ≤ to → (0 < to → to ≡ used) → part_of piece (cond (to == 0) used from) (used + count) ≡ part_of piece from to ++ take count (drop used piece)
part_extended piece from to used count le there = elim (cases_lt 0 to) [
  | inl some ↦ (
      let test : (to == 0) ≡ false = ne_eqb to 0 (λ none. omega (arith, some, none)) in
      let place : to ≡ used = there some in
      rw (test, ← place) (part_then piece from to count le))
  | inr none ↦ (
      let nothing : to ≡ 0 = omega (arith, none) in
      let test : (to == 0) ≡ true = eq-eqb to 0 nothing in
      let empty : to - from ≡ 0 = omega (arith, nothing) in
      rw (test, empty) (part_from piece used count))
]

-- ---- a piece so far

-- This many bytes of the piece were used, and those between two places are the payload's. A payload that ended before
-- is known.
pub record Along {H D : ℕ} {S : Type 0} {K : _} (task : Task) (s B piece : List ℕ) (used from to : ℕ) (v : Verifier H D S K) : Type 0 where
  pub reads_on : HasTaken task (s ++ take used piece) (B ++ part_of piece from to) v
  pub none_earlier : (n : ℕ) → n < used → (message (rules_of H D task) (s ++ take n piece)).settled ≡ false
  pub over : 0 < to → to < used → (more : List ℕ) → (message (rules_of H D task) ((s ++ take used piece) ++ more)).so_far.payload ≡ B ++ part_of piece from to

-- Nothing is used of a piece where the message is settled.
pub uses_none : {H D : ℕ} (task : Task) (s piece : List ℕ) → ((message (rules_of H D task) s).settled ≡ false → ⊥) → Uses (rules_of H D task) s piece 0
uses_none {H} {D} task s piece settled = record {
  within = omega arith;
  none_earlier = λ n lt. absurd (omega (arith, lt));
  all = λ unsettled. absurd (settled (ap (λ (r : Reading). r.settled) (sym (without_more H D task s)) ∙ unsettled));
}

pub at_start : {H D : ℕ} {S : Type 0} {K : _} {task : Task} {s B : List ℕ} (piece : List ℕ) {v : Verifier H D S K} → HasTaken task s B v → Along task s B piece 0 0 0 v
at_start {H} {D} {S} {K} {task} {s} {B} piece {v} reads_on = record {
  reads_on = subst (λ (t : List ℕ). HasTaken task t (B ++ []) v) (sym (append-nil s)) (subst (λ (t : List ℕ). HasTaken task s t v) (sym (append-nil B)) reads_on);
  none_earlier = λ n lt. absurd (omega (arith, lt));
  over = λ some lt. absurd (omega (arith, some, lt));
}

-- ---- a step more

-- None of its bytes but the last settles the message.
none_earlier_then : (H D : ℕ) (task : Task) (s piece : List ℕ) (used count : ℕ) → ((n : ℕ) → n < used → (message (rules_of H D task) (s ++ take n piece)).settled ≡ false) →
    ((more : List ℕ) → length more < count → (message (rules_of H D task) ((s ++ take used piece) ++ more)).settled ≡ false) →
    (n : ℕ) → n < used + count → (message (rules_of H D task) (s ++ take n piece)).settled ≡ false
none_earlier_then H D task s piece used count before within n lt = elim (cases_lt n used) [
  | inl earlier ↦ before n earlier
  | inr later ↦ (
      let m : ℕ = n - used in
      let place : n ≡ used + m = omega arith in
      let part : List ℕ = take m (drop used piece) in
      let short : length part < count = omega (arith, lt, later, length-take m (drop used piece)) in
      let e : take n piece ≡ take used piece ++ part = ap (λ (k : ℕ). take k piece) place ∙ used_then piece used m in
      rw (e, ← append_assoc s (take used piece) part) (within part short))
]

module _ {H D : ℕ} {S : Type 0} {K : _} {task : Task} {s B piece : List ℕ} {used from to : ℕ} {v : Verifier H D S K} (next : Verifier H D S K) (count : ℕ) (a : Along task s B piece used from to v) where
  pub stepped : HasTaken task ((s ++ take used piece) ++ next_of piece used count) (grown v.reader.phase (B ++ part_of piece from to) (next_of piece used count)) next →
      HasTaken task ((s ++ take used piece) ++ take count (drop used piece)) (grown v.reader.phase (B ++ part_of piece from to) (take count (drop used piece))) next
  stepped h = subst (λ (rest : List ℕ). HasTaken task ((s ++ take used piece) ++ take count rest) (grown v.reader.phase (B ++ part_of piece from to) (take count rest)) next) (rest_of piece used) h

  regrouped : (s ++ take used piece) ++ take count (drop used piece) ≡ s ++ take (used + count) piece
  regrouped = append_assoc s (take used piece) (take count (drop used piece)) ∙ ap (λ (t : List ℕ). s ++ t) (sym (used_then piece used count))

  -- A step outside the payload.
  pub goes_past : in_payload v.reader.phase ≡ false → ((more : List ℕ) → 0 < length (B ++ part_of piece from to) → (message (rules_of H D task) ((s ++ take used piece) ++ more)).so_far.payload ≡ B ++ part_of piece from to) →
      ((more : List ℕ) → length more < count → (message (rules_of H D task) ((s ++ take used piece) ++ more)).settled ≡ false) →
      HasTaken task ((s ++ take used piece) ++ take count (drop used piece)) (grown v.reader.phase (B ++ part_of piece from to) (take count (drop used piece))) next →
      (0 < to → from < to) → to ≤ used → used + count ≤ length piece → Along task s B piece (used + count) from to next
  goes_past outside fixed within reads_on order among fits =
      let same : grown v.reader.phase (B ++ part_of piece from to) (take count (drop used piece)) ≡ B ++ part_of piece from to =
      grown_by v.reader.phase (B ++ part_of piece from to) (take count (drop used piece)) ∙ rw outside (append-nil (B ++ part_of piece from to)) in
      record {
        reads_on = subst (λ (t : List ℕ). HasTaken task t (B ++ part_of piece from to) next) regrouped (subst (λ (t : List ℕ). HasTaken task ((s ++ take used piece) ++ take count (drop used piece)) t next) same reads_on);
        none_earlier = none_earlier_then H D task s piece used count a.none_earlier within;
        over = λ some lt more.
            (let there : 0 < length (B ++ part_of piece from to) = omega (arith, order some, among, fits, length-append B (part_of piece from to), length-take (to - from) (drop from piece), length-drop from piece) in
            subst (λ (t : List ℕ). (message (rules_of H D task) t).so_far.payload ≡ B ++ part_of piece from to) (sym (append_assoc (s ++ take used piece) (take count (drop used piece)) more) ∙ ap (λ (t : List ℕ). t ++ more) regrouped) (fixed (take count (drop used piece) ++ more) there));
      }

  -- The payload doesn't begin a second time.
  pub begins_once : ((more : List ℕ) → (message (rules_of H D task) ((s ++ take used piece) ++ more)).so_far.payload ≡ (B ++ part_of piece from to) ++ take (want_of v.reader.phase) more) → 0 < want_of v.reader.phase → 0 < to → to ≤ used → to ≡ used
  begins_once grows some begun among = elim (cases_lt to used) [
    | inl before ↦ (
        let byte : List ℕ = 0 ∷ [] in
        let both : B ++ part_of piece from to ≡ (B ++ part_of piece from to) ++ take (want_of v.reader.phase) byte = sym (a.over begun before byte) ∙ grows byte in
        let lengths : length (B ++ part_of piece from to) ≡ length (B ++ part_of piece from to) + length (take (want_of v.reader.phase) byte) = ap length both ∙ length-append (B ++ part_of piece from to) (take (want_of v.reader.phase) byte) in
        absurd (omega (arith, lengths, some, length-take (want_of v.reader.phase) byte)))
    | inr not_before ↦ omega (arith, among, not_before)
  ]

  -- A step in the payload: it continues where it was, or begins.
  pub goes_on : (from_next : ℕ) → in_payload v.reader.phase ≡ true → part_of piece from_next (used + count) ≡ part_of piece from to ++ take count (drop used piece) →
      ((more : List ℕ) → length more < count → (message (rules_of H D task) ((s ++ take used piece) ++ more)).settled ≡ false) →
      HasTaken task ((s ++ take used piece) ++ take count (drop used piece)) (grown v.reader.phase (B ++ part_of piece from to) (take count (drop used piece))) next →
      Along task s B piece (used + count) from_next (used + count) next
  goes_on from_next inside part within reads_on =
      let same : grown v.reader.phase (B ++ part_of piece from to) (take count (drop used piece)) ≡ B ++ part_of piece from_next (used + count) =
      grown_by v.reader.phase (B ++ part_of piece from to) (take count (drop used piece)) ∙ rw inside (append_assoc B (part_of piece from to) (take count (drop used piece))) ∙ ap (λ (t : List ℕ). B ++ t) (sym part) in
      record {
        reads_on = subst (λ (t : List ℕ). HasTaken task t (B ++ part_of piece from_next (used + count)) next) regrouped (subst (λ (t : List ℕ). HasTaken task ((s ++ take used piece) ++ take count (drop used piece)) t next) same reads_on);
        none_earlier = none_earlier_then H D task s piece used count a.none_earlier within;
        over = λ some lt. absurd (omega (arith, lt));
      }

-- ---- the result for a piece

module _ {H D : ℕ} {S : Type 0} {K : _} {task : Task} {s B piece : List ℕ} {used from to : ℕ} {v : Verifier H D S K} (a : Along task s B piece used from to v) where
  -- No byte of it is left, or the message is settled.
  pub uses_all : Bounded → H ≤ 65535 → (count : ℕ) → (message (rules_of H D task) ((s ++ take used piece) ++ [])).settled ≡ is_settled v.reader.phase →
      (0 < length (take (length piece - used) (drop used piece)) → is_settled v.reader.phase ≡ false → v.taken < 2 ^ 57 → 0 < count) → count ≡ 0 → used ≤ length piece → Uses (rules_of H D task) s piece used
  uses_all bounded limit count same some none within = record {
    within = within;
    none_earlier = a.none_earlier;
    all = λ unsettled. elim (cases_lt used (length piece)) [
      | inl lt ↦ (
          let rest : 0 < length (take (length piece - used) (drop used piece)) = omega (arith, lt, ap length (rest_of piece used), length-drop used piece) in
          let done = settled_if_none_asked bounded limit count a.reads_on same (some rest) none in
          let clash : true ≡ false = sym done ∙ ap (λ (r : Reading). r.settled) (without_more H D task (s ++ take used piece)) ∙ unsettled in
          absurd cc)
      | inr ge ↦ omega (arith, within, ge)
    ];
  }

  pub knows_payload : (message (rules_of H D task) ((s ++ take used piece) ++ [])).so_far.payload ≡ B ++ part_of piece from to → (message (rules_of H D task) (s ++ [])).so_far.payload ≡ B →
      (message (rules_of H D task) (s ++ take used piece)).so_far.payload ≡ (message (rules_of H D task) s).so_far.payload ++ part_of piece from to
  knows_payload now before =
      let known : (message (rules_of H D task) s).so_far.payload ≡ B = ap (λ (r : Reading). r.so_far.payload) (sym (without_more H D task s)) ∙ before in
      ap (λ (r : Reading). r.so_far.payload) (sym (without_more H D task (s ++ take used piece))) ∙ now ∙ ap (λ (t : List ℕ). t ++ part_of piece from to) (sym known)

pub shows_now : {H D : ℕ} {S : Type 0} {K : _} (task : Task) (bytes : List ℕ) (v : Verifier H D S K) → shown_of v ≡ shown_in task (message (rules_of H D task) (bytes ++ [])) → ShowsReading task bytes v
shows_now {H} {D} task bytes v e = e ∙ ap (shown_in task) (without_more H D task bytes)
