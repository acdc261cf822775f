-- The reader of spans, by the grammar.
use Rattle.std.proofs.Common.{◌≡◌, ℕ, ◌+◌, ◌≤◌, List, length, take, Result, Ok, Err, IfOk, IfErr, refl, sym, ap, ◌∙◌, arith, zero-add}
use Rattle.std.proofs.lemmas.List.{take-append-drop, length-take-le}
use Rattle.std.proofs.Math.Seq.{take-append_seam}
use Rattle.cose_head.specs.declared.item.Span.{Span}
use Rattle.cose_head.specs.declared.refusal.Refusal.{Refusal}
use Rattle.cose_head.specs.Item.{Item, Spells, depth_of}
use Rattle.cose_head.specs.Reading.{Outcome, after, read, span_of}
use Rattle.cose_head.specs.Measured.{left_of, span_found, nesting, SpansItem}
use Rattle.cose_head.specs.Laws.{Between, IsSpelled, Steps}
use Rattle.cose_head.proofs.lemmas.Reading.ItemSteps.{whole_span}
use Rattle.cose_head.proofs.lemmas.Reading.Sound.{AtOk, read_sound}
use Rattle.cose_head.proofs.lemmas.Reading.ReadSteps.{read_steps}
use Rattle.cose_head.proofs.lemmas.Reading.ReadLaws.{spelled_is_read}

spans_found : (depth : ℕ) (bytes : List ℕ) (room : ℕ) (found : Outcome Item) → AtOk (IsSpelled depth (left_of bytes room 0)) found →
    IfOk (span_of found) (SpansItem bytes)
spans_found depth bytes room (Ok found) s =
    let p = s.0 in
    let n : found.1.place ≡ length p.part = p.place ∙ zero-add (length p.part) in
    let front : take found.1.place bytes ≡ p.part = ap (λ k. take k bytes) n ∙ ap (take (length p.part)) p.whole
    ∙ take-append_seam p.part found.1.bytes in
    record { content = found.0; spelled = rw front p.is_part; nested = refl }
spans_found depth bytes room (Err refusal) s = tt

pub spans_item : (depth : ℕ) (bytes : List ℕ) (room : ℕ) (result : Result Span Refusal) →
    span_found (left_of bytes room 0) result ≡ nesting (read depth (left_of bytes room 0)) → IfOk result (SpansItem bytes)
spans_item depth bytes room result e =
    rw (whole_span bytes room result (read depth (left_of bytes room 0)) e)
    (spans_found depth bytes room (read depth (left_of bytes room 0)) (read_sound depth (left_of bytes room 0)))

pub spans_spelled : (depth : ℕ) (bytes : List ℕ) (room : ℕ) (result : Result Span Refusal) →
    span_found (left_of bytes room 0) result ≡ nesting (read depth (left_of bytes room 0)) →
    (content : Item) (n : ℕ) → n ≤ length bytes → Spells (take n bytes) content → n ≤ room → depth_of content ≤ depth →
    result ≡ Ok (record { length = n; depth = depth_of content })
spans_spelled depth bytes room result e content n there s fits shallow =
    let k = length-take-le n bytes there in
    let p : Between (left_of bytes room 0) (after n (left_of bytes room 0)) (λ part. Spells part content) =
    record { part = take n bytes; whole = sym (take-append-drop n bytes); room = omega arith; place = omega arith; is_part = s } in
    let z : 0 + n ≡ n = zero-add n in
    whole_span bytes room result (read depth (left_of bytes room 0)) e
    ∙ ap span_of (spelled_is_read depth (left_of bytes room 0) content (after n (left_of bytes room 0)) (p, shallow)) ∙ rw z refl

placed : (bytes : List ℕ) (room : ℕ) (found : Outcome Item) → Steps 1 (left_of bytes room 0) found →
    IfErr (span_of found) (λ refusal. refusal.place ≤ length bytes)
placed bytes room (Ok found) s = tt
placed bytes room (Err refusal) s = let u : refusal.place ≤ 0 + length bytes = s.upto in omega arith

pub spans_placed : (depth : ℕ) (bytes : List ℕ) (room : ℕ) (result : Result Span Refusal) →
    span_found (left_of bytes room 0) result ≡ nesting (read depth (left_of bytes room 0)) →
    IfErr result (λ refusal. refusal.place ≤ length bytes)
spans_placed depth bytes room result e =
    rw (whole_span bytes room result (read depth (left_of bytes room 0)) e)
    (placed bytes room (read depth (left_of bytes room 0)) (read_steps depth (left_of bytes room 0)))
