-- Bytes that are exactly one item.
use Rattle.std.proofs.Common.{◌≡◌, ℕ, ◌+◌, ◌<◌, ◌≤◌, Bool, true, false, List, [], length, drop, Result, Ok, Err, IfErr, refl, sym, ap, ◌∙◌, arith}
use Rattle.std.proofs.lemmas.Bool.{cond_both, ne_eqb, eqb-true}
use Rattle.std.proofs.lemmas.List.{length-drop, length-append, nil_from_length}
use Rattle.std.specs.Prelude.{◌==◌, if◌then◌else◌}
use Rattle.std.specs.Result.{is_ok}
use Rattle.cose_head.specs.declared.head.Head.{Head}
use Rattle.cose_head.specs.declared.head.HeadStep.TheVariants.{Got, More, Fault}
use Rattle.cose_head.specs.declared.item.Span.{Span}
use Rattle.cose_head.specs.declared.reason.Reason.{Reason}
use Rattle.cose_head.specs.declared.reason.Reason.TheVariants.{Trailing}
use Rattle.cose_head.specs.declared.refusal.Refusal.{Refusal}
use Rattle.cose_head.specs.Item.{Item, tag, Spells, depth_of}
use Rattle.cose_head.specs.Reading.{Left, Outcome, after, read}
use Rattle.cose_head.specs.Measured.{left_of, span_found, nesting}
use Rattle.cose_head.specs.Laws.{Steps}
use Rattle.cose_head.specs.Head.{bare_head}
use Rattle.cose_head.specs.Placed.{Placed, head_of_item, past_head}
use Rattle.cose_head.specs.PlacedLaws.{IsItem, StandsIn, is_tag}
use Rattle.cose_head.specs.Whole.{nothing_after, whole, is_one_item}
use Rattle.cose_head.proofs.lemmas.Reading.Measured.{same_ok}
use Rattle.cose_head.proofs.lemmas.Placed.PlacedTrees.{at, item_spelled, spelled_item, head_is_of_item, tag_has_its_content, tag_of_head, in_tag}
use Rattle.cose_head.proofs.lemmas.Head.BareHeads.{bare_complete}
use Rattle.cose_head.proofs.lemmas.Reading.ReadSteps.{read_steps}

abbrev here : Placed → Left
here p = left_of p.bytes (length p.bytes) p.place

-- what the reader of spans found
found_refused : (p : Placed) (refusal : Refusal) (found : Outcome Item) → Err refusal ≡ nesting found → nothing_after p found ≡ Err refusal
found_refused p refusal (Ok found) e = absurd cc
found_refused p refusal (Err other) e = let same : refusal ≡ other = cc in rw same refl

found_left : (p : Placed) (span : Span) (found : Outcome Item) → span_found (here p) (Ok span) ≡ nesting found → nothing_after p found ≡
    (if length (drop span.length p.bytes) == 0 then Ok p else Err (record { reason = Trailing; place = p.place + span.length }))
found_left p span (Ok found) e =
    let left : after span.length (here p) ≡ found.1 = ap (λ x. x.1) (same_ok _ _ e) in
    ap (λ l. if length l.bytes == 0 then Ok p else Err (record { reason = Trailing; place = l.place })) (sym left)
found_left p span (Err refusal) e = absurd cc

module _ (depth : ℕ) (p : Placed) where
  pub whole_refused : (refusal : Refusal) → Err refusal ≡ nesting (read depth (here p)) → whole depth p ≡ Err refusal
  whole_refused refusal e = found_refused p refusal (read depth (here p)) e

  pub whole_trails : (span : Span) → span_found (here p) (Ok span) ≡ nesting (read depth (here p)) → span.length < length p.bytes →
      whole depth p ≡ Err (record { reason = Trailing; place = p.place + span.length })
  whole_trails span e less =
      let n = length-drop span.length p.bytes in
      let some : length (drop span.length p.bytes) == 0 ≡ false = ne_eqb _ 0 (λ none. absurd (omega arith)) in
      found_left p span (read depth (here p)) e ∙ rw some refl

  pub whole_found : (span : Span) → span_found (here p) (Ok span) ≡ nesting (read depth (here p)) → length p.bytes ≤ span.length →
      whole depth p ≡ Ok p
  whole_found span e all =
      let n = length-drop span.length p.bytes in
      let none : length (drop span.length p.bytes) ≡ 0 = omega arith in
      found_left p span (read depth (here p)) e ∙ rw none refl

abbrev trailing_at : ℕ → Result Placed Refusal
trailing_at place = Err (record { reason = Trailing; place = place })

-- bytes accepted as exactly one item are the item of a tree, and conversely
found_tree : (p q : Placed) (found : Outcome Item) → nothing_after p found ≡ Ok q → (tree : Item) × (rest : Left) × (found ≡ Ok (tree, rest))
    × (rest.bytes ≡ []) × (q ≡ p)
found_tree p q (Ok found) e = let s = go (length found.1.bytes == 0) refl e in (found.0, found.1, refl, s.0, s.1)
  where
    go : (b : Bool) → length found.1.bytes == 0 ≡ b → (if b then Ok p else trailing_at found.1.place) ≡ Ok q → (found.1.bytes ≡ []) × (q ≡ p)
    go true none e = (nil_from_length found.1.bytes (eqb-true _ 0 none), cc)
    go false some e = absurd cc
found_tree p q (Err refusal) e = absurd cc

pub whole_is_item : (depth : ℕ) (p q : Placed) → whole depth p ≡ Ok q → (tree : Item) × IsItem depth p tree × (q ≡ p)
whole_is_item depth p q e =
    let s = found_tree p q (read depth (here p)) e in
    (s.0, record { rest = s.1; is_read = s.2; nothing_left = s.3 }, s.4)

pub item_is_whole : (depth : ℕ) (p : Placed) (tree : Item) → IsItem depth p tree → whole depth p ≡ Ok p
item_is_whole depth p tree s = rw (s.is_read, s.nothing_left) refl

pub whole_is_deeper : (depth deeper : ℕ) (p q : Placed) → depth ≤ deeper → whole depth p ≡ Ok q → whole deeper p ≡ Ok q
whole_is_deeper depth deeper p q deep e =
    let s = whole_is_item depth p q e in
    let t = item_spelled depth p s.0 s.1 in
    let shallow = t.1 in
    item_is_whole deeper p s.0 (spelled_item deeper p s.0 t.0 (omega arith)) ∙ ap {B = Result Placed Refusal} Ok (sym s.2)

-- the places of the refusals
found_inside : (p : Placed) (found : Outcome Item) → Steps 1 (here p) found → IfErr (nothing_after p found) (λ refusal. StandsIn p refusal.place)
found_inside p (Ok found) s = cond_both (length found.1.bytes == 0) (Ok p) (trailing_at found.1.place) (λ answer. IfErr answer (λ refusal. StandsIn p refusal.place))
    (λ none. tt)
    (λ some.
    let place : found.1.place ≡ p.place + s.used = ap (λ l. l.place) s.left in
    let there = s.there in
    (omega arith, omega arith))
found_inside p (Err refusal) s = (s.from, s.upto)

pub refused_inside : (depth : ℕ) (p : Placed) → IfErr (whole depth p) (λ refusal. StandsIn p refusal.place)
refused_inside depth p = found_inside p (read depth (here p)) (read_steps depth (here p))

-- at any place of the bytes
pub spelled_is_one_item : (bytes : List ℕ) (tree : Item) → Spells bytes tree → depth_of tree ≤ 32 → is_one_item bytes ≡ true
unfolding is_one_item
spelled_is_one_item bytes tree s shallow =
    ap is_ok (item_is_whole 32 (at bytes 0) tree (spelled_item 32 (at bytes 0) tree s shallow))

pub one_item_is_spelled : (bytes : List ℕ) → is_one_item bytes ≡ true → (tree : Item) × Spells bytes tree × (depth_of tree ≤ 32)
unfolding is_one_item
one_item_is_spelled bytes e = go (whole 32 (at bytes 0)) refl e
  where
    go : (found : Result Placed Refusal) → whole 32 (at bytes 0) ≡ found → is_ok found ≡ true → (tree : Item) × Spells bytes tree × (depth_of tree ≤ 32)
    go (Ok q) found e =
        let s = whole_is_item 32 (at bytes 0) q found in
        let t = item_spelled 32 (at bytes 0) s.0 s.1 in
        (s.0, t.0, t.1)
    go (Err refusal) found e = absurd cc

pub one_item_is_whole : (p : Placed) → is_one_item p.bytes ≡ true → whole 32 p ≡ Ok p
one_item_is_whole p e = let s = one_item_is_spelled p.bytes e in item_is_whole 32 p s.0 (spelled_item 32 p s.0 s.1 s.2)

pub whole_is_one_item : (depth : ℕ) (p q : Placed) → depth ≤ 32 → whole depth p ≡ Ok q → is_one_item p.bytes ≡ true
whole_is_one_item depth p q shallow e =
    let s = whole_is_item depth p q e in
    let t = item_spelled depth p s.0 s.1 in
    let deep = t.1 in
    spelled_is_one_item p.bytes s.0 t.0 (omega arith)

-- an item has a head, and its bytes are at least as many as the head's
pub one_item_has_head : (bytes : List ℕ) → is_one_item bytes ≡ true → (h : Head) × (bare_head bytes ≡ Got h h.width) × (h.width ≤ length bytes)
one_item_has_head bytes e =
    let s = one_item_is_spelled bytes e in
    let t = head_is_of_item 32 (at bytes 0) s.0 (spelled_item 32 (at bytes 0) s.0 s.1 s.2) in
    let h = head_of_item (at bytes 0) in
    let n = ap length t.whole ∙ length-append t.part t.rest in
    let wide = t.wide in
    (h, bare_complete bytes h h.width t, omega arith)

pub one_item_is_no_half : (bytes : List ℕ) (wanted : ℕ) → is_one_item bytes ≡ true → bare_head bytes ≡ More wanted → ⊥
one_item_is_no_half bytes wanted e half = let s = one_item_has_head bytes e in let f = s.1 in cc

pub one_item_is_no_fault : (bytes : List ℕ) (reason : Reason) → is_one_item bytes ≡ true → bare_head bytes ≡ Fault reason → ⊥
one_item_is_no_fault bytes reason e fault = let s = one_item_has_head bytes e in let f = s.1 in cc

-- what a tag encloses is one item
enclosed_found : (tree : Item) (p : Placed) → IsItem 32 p tree → is_tag tree ≡ true → is_one_item (past_head (head_of_item p) p).bytes ≡ true
enclosed_found (tag number content) p s e =
    let c = tag_has_its_content 32 p number content s in
    let t = item_spelled 31 c.enclosed content c.is_item in
    let deep = t.1 in
    let same : past_head (head_of_item p) p ≡ c.enclosed = in_tag p number c.enclosed c.found in
    ap (λ q. is_one_item q.bytes) same ∙ spelled_is_one_item c.enclosed.bytes content t.0 (omega arith)
enclosed_found other p s e = absurd cc

pub enclosed_is_one_item : (p : Placed) (h : Head) → is_one_item p.bytes ≡ true → h ≡ head_of_item p → h.major ≡ 6 →
    is_one_item (drop h.width p.bytes) ≡ true
enclosed_is_one_item p h e found six =
    let s = one_item_is_spelled p.bytes e in
    let t = spelled_item 32 p s.0 s.1 s.2 in
    rw found (enclosed_found s.0 p t (tag_of_head s.0 p t (rw found at six)))
