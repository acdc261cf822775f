-- The laws of reading.
use Rattle.std.proofs.Common.{◌≡◌, ℕ, ◌+◌, ◌-◌, ◌<◌, ◌≤◌, List, ◌++◌, max, length, take, drop, Ok, Err, refl, sym, ap, ◌∙◌, arith, zero-add}
use Rattle.std.proofs.lemmas.List.{length-drop, length-append}
use Rattle.std.proofs.Math.Seq.{take-append_seam}
use Rattle.cose_head.specs.declared.reason.Reason.TheVariants.{Truncated}
use Rattle.cose_head.specs.declared.refusal.Refusal.{Refusal}
use Rattle.cose_head.specs.Item.{Item, Spells, depth_of}
use Rattle.cose_head.specs.Reading.{Left, read}
use Rattle.cose_head.specs.Measured.{left_of}
use Rattle.cose_head.specs.Laws.{Between, IsSpelled, IsSettled, IsStep, IsRefusal, more, more_after}
use Rattle.cose_head.proofs.lemmas.Reading.Measured.{same_ok}
use Rattle.cose_head.proofs.lemmas.Reading.ReadSteps.{read_steps}
use Rattle.cose_head.proofs.lemmas.Reading.Stable.{read_same}
use Rattle.cose_head.proofs.lemmas.Reading.Sound.{read_sound}
use Rattle.cose_head.proofs.lemmas.Reading.Complete.{complete}

pub sound : (depth : ℕ) (l : Left) (content : Item) (rest : Left) → read depth l ≡ Ok (content, rest) → IsSpelled depth l content rest
sound depth l content rest e = rw e at (read_sound depth l)

pub spelled_is_read : (depth : ℕ) (l : Left) (content : Item) (rest : Left) → IsSpelled depth l content rest → read depth l ≡ Ok (content, rest)
spelled_is_read depth l content rest s = complete content depth l rest s.0 s.1

pub stays : (depth : ℕ) (l : Left) (bytes : List ℕ) → IsSettled (read depth l) → read depth (more bytes l) ≡ more_after bytes (read depth l)
stays depth l bytes s = read_same depth bytes l s

pub refused_is_no_item : (depth : ℕ) (l : Left) (refusal : Refusal) → read depth l ≡ Err refusal → (refusal.reason ≡ Truncated → ⊥) →
    (bytes : List ℕ) (content : Item) (rest : Left) → IsSpelled depth (more bytes l) content rest → ⊥
refused_is_no_item depth l refusal e other bytes content rest s =
    let settled : IsSettled (read depth l) = rw e other in
    let same : read depth (more bytes l) ≡ Err refusal = stays depth l bytes settled ∙ ap (more_after bytes) e in
    let found = spelled_is_read depth (more bytes l) content rest s in
    cc

pub adds_up : (depth : ℕ) (l : Left) (content : Item) (rest : Left) → read depth l ≡ Ok (content, rest) →
    (rest.place + length rest.bytes ≡ l.place + length l.bytes) × (rest.place + rest.room ≡ l.place + l.room) × (l.place < rest.place)
adds_up depth l content rest e =
    let s : IsStep 1 l rest = rw e at (read_steps depth l) in
    let n = length-drop s.used l.bytes in
    let b : length rest.bytes ≡ length (drop s.used l.bytes) = ap (λ m. length m.bytes) s.left in
    let r : rest.room ≡ l.room - s.used = ap (λ m. m.room) s.left in
    let p : rest.place ≡ l.place + s.used = ap (λ m. m.place) s.left in
    let some = s.some in let there = s.there in let fits = s.fits in
    (omega arith, omega arith, omega arith)

pub truncated_has_room : (depth : ℕ) (l : Left) (refusal : Refusal) → read depth l ≡ Err refusal → refusal.reason ≡ Truncated →
    (refusal.place ≡ l.place + length l.bytes) × (length l.bytes < l.room)
truncated_has_room depth l refusal e short =
    let s : IsRefusal l refusal = rw e at (read_steps depth l) in
    s.ended short

-- an item that a list begins with, in all of the list
pub whole_list : (part rest : List ℕ) (content : Item) → Spells part content →
    IsSpelled (depth_of content) (left_of (part ++ rest) (length (part ++ rest)) 0) content (left_of rest (length rest) (length part))
whole_list part rest content s =
    (record { part = part; whole = refl; room = length-append part rest; place = sym (zero-add (length part)); is_part = s }, omega arith)

pub one_item : (a b rest others : List ℕ) (content other : Item) → Spells a content → Spells b other → a ++ rest ≡ b ++ others → (a ≡ b)
    × (content ≡ other)
one_item a b rest others content other s t e =
    let depth : ℕ = max (depth_of content) (depth_of other) in
    let p = whole_list a rest content s in
    let q = whole_list b others other t in
    let f : read depth (left_of (a ++ rest) (length (a ++ rest)) 0) ≡ Ok (content, left_of rest (length rest) (length a)) =
    spelled_is_read depth _ content _ (p.0, omega arith) in
    let g : read depth (left_of (b ++ others) (length (b ++ others)) 0) ≡ Ok (other, left_of others (length others) (length b)) =
    spelled_is_read depth _ other _ (q.0, omega arith) in
    let same : (content, left_of rest (length rest) (length a)) ≡ (other, left_of others (length others) (length b)) =
    same_ok _ _ (sym f ∙ ap (λ bytes. read depth (left_of bytes (length bytes) 0)) e ∙ g) in
    let n : length a ≡ length b = ap (λ x. x.1.place) same in
    (sym (take-append_seam a rest) ∙ ap (take (length a)) e ∙ ap (λ k. take k (b ++ others)) n ∙ take-append_seam b others, ap (λ x. x.0) same)

pub read_elsewhere : (depth deeper : ℕ) (l rest m last : Left) (content : Item) → depth ≤ deeper → read depth l ≡ Ok (content, rest) →
    Between m last (λ part. part ≡ take (rest.place - l.place) l.bytes) → read deeper m ≡ Ok (content, last)
read_elsewhere depth deeper l rest m last content deep e p =
    let s = sound depth l content rest e in
    let place = s.0.place in
    let n : rest.place - l.place ≡ length s.0.part = omega arith in
    let part : p.part ≡ s.0.part = p.is_part ∙ ap (λ k. take k l.bytes) n ∙ ap (take (length s.0.part)) s.0.whole
    ∙ take-append_seam s.0.part rest.bytes in
    let shallow = s.1 in
    spelled_is_read deeper m content last
    (record { part = p.part; whole = p.whole; room = p.room; place = p.place; is_part = rw part s.0.is_part }, omega arith)
