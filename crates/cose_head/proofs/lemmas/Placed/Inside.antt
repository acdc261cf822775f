-- Children are within the bytes of their item, also where these are not an item.
use Rattle.std.proofs.Common.{◌≡◌, ℕ, zero, suc, ◌+◌, ◌≤◌, true, List, [], length, drop, Result, Ok, Err, IfOk, refl, ap, arith}
use Rattle.std.specs.List.{AllByRecursion}
use Rattle.std.proofs.lemmas.Bool.{cond_both}
use Rattle.std.proofs.lemmas.List.{length-append, length-drop, length-take-le}
use Rattle.cose_head.specs.declared.head.HeadStep.{HeadStep}
use Rattle.cose_head.specs.declared.head.HeadStep.TheVariants.{Got, More, Fault}
use Rattle.cose_head.specs.declared.item.Span.{Span}
use Rattle.cose_head.specs.declared.refusal.Refusal.{Refusal}
use Rattle.cose_head.specs.Head.{bare_head}
use Rattle.cose_head.specs.Item.{Item}
use Rattle.cose_head.specs.Reading.{Outcome, child_count, read, span_of}
use Rattle.cose_head.specs.Measured.{left_of}
use Rattle.cose_head.specs.Laws.{Steps}
use Rattle.cose_head.specs.Placed.{Placed, head_or_undefined, head_of_item, past_head, span_at, first_of, items_from, has_children, children_of}
use Rattle.cose_head.specs.PlacedLaws.{end_of, EndsBy}
use Rattle.cose_head.proofs.lemmas.Head.BareHeads.{bare_sound}
use Rattle.cose_head.proofs.lemmas.Reading.ReadSteps.{read_steps}

-- an item that the bytes begin with is no longer than they are
found_inside : (bytes : List ℕ) (found : Outcome Item) → Steps 1 (left_of bytes (length bytes) 0) found →
    IfOk (span_of found) (λ span. span.length ≤ length bytes)
found_inside bytes (Ok found) s =
    let place : found.1.place ≡ 0 + s.used = ap (λ l. l.place) s.left in
    let there = s.there in
    omega arith
found_inside bytes (Err refusal) s = tt

span_inside : (bytes : List ℕ) → IfOk (span_at bytes) (λ span. span.length ≤ length bytes)
span_inside bytes = found_inside bytes (read 32 (left_of bytes (length bytes) 0)) (read_steps 32 (left_of bytes (length bytes) 0))

-- items one after another
first_inside : (end : ℕ) (others : Placed → List Placed) → ((q : Placed) → EndsBy end q → AllByRecursion (EndsBy end) (others q)) →
    (p : Placed) → EndsBy end p → (found : Result Span Refusal) → IfOk found (λ span. span.length ≤ length p.bytes) →
    AllByRecursion (EndsBy end) (first_of others p found)
first_inside end others next p inside (Ok span) there =
    let n = length-take-le span.length p.bytes there in
    let m = length-drop span.length p.bytes in
    (omega arith, next (record { bytes = drop span.length p.bytes; place = p.place + span.length }) (omega arith))
first_inside end others next p inside (Err refusal) there = tt

items_inside : (end n : ℕ) (p : Placed) → EndsBy end p → AllByRecursion (EndsBy end) (items_from n p)
unfolding items_from
items_inside end zero p inside = tt
items_inside end (suc n) p inside = first_inside end (items_from n) (items_inside end n) p inside (span_at p.bytes) (span_inside p.bytes)

-- a head with children is complete
head_inside : (bytes : List ℕ) (step : HeadStep) → bare_head bytes ≡ step → has_children (head_or_undefined step) ≡ true →
    (head_or_undefined step).width ≤ length bytes
head_inside bytes (Got h used) e some =
    let s = bare_sound bytes h used e in
    let whole = ap length s.whole in
    let n = length-append s.part s.rest in
    let wide = s.wide in
    omega arith
head_inside bytes (More wanted) e some = cc
head_inside bytes (Fault reason) e some = cc

past_inside : (p : Placed) → has_children (head_of_item p) ≡ true → EndsBy (end_of p) (past_head (head_of_item p) p)
unfolding head_of_item
past_inside p some =
    let width = head_inside p.bytes (bare_head p.bytes) refl some in
    let n = length-drop (head_or_undefined (bare_head p.bytes)).width p.bytes in
    omega arith

pub children_end_inside : (p : Placed) → AllByRecursion (EndsBy (end_of p)) (children_of p)
unfolding children_of
children_end_inside p =
    let h = head_of_item p in
    cond_both (has_children h) (items_from (child_count h) (past_head h p)) [] (AllByRecursion (EndsBy (end_of p)))
    (λ some. items_inside (end_of p) (child_count h) (past_head h p) (past_inside p some)) (λ none. tt)
