-- Laws of a walker, by the bytes that it was put.
use Rattle.std.proofs.Common.{◌≡◌, ℕ, ◌-◌, ◌<◌, List, [], length, Ok, subst, ◌∙◌, arith, append-nil}
use Rattle.cose_head.specs.declared.walker.Walker.{Walker}
use Rattle.cose_head.specs.declared.walker.Step.TheVariants.{Going, Done}
use Rattle.cose_head.specs.Measured.{left_of}
use Rattle.cose_head.specs.Open.{open_in}
use Rattle.cose_head.specs.Placed.{Placed}
use Rattle.cose_head.specs.Reading.{Left, read}
use Rattle.cose_head.specs.Walker.{HasPut, Answers, open_now}
use Rattle.cose_head.specs.Whole.{whole}
use Rattle.cose_head.proofs.lemmas.Placed.PlacedTrees.{spelled_item}
use Rattle.cose_head.proofs.lemmas.Reading.ReadLaws.{sound}
use Rattle.cose_head.proofs.lemmas.Walker.WalkerSteps.{early_none, counts_open}
use Rattle.cose_head.proofs.lemmas.Placed.Whole.{item_is_whole}

pub put_has_room : {D : ℕ} (room : ℕ) (bytes : List ℕ) (w : Walker D) → HasPut room bytes w → 0 < room → length bytes < room
put_has_room room bytes w has some =
    let half = (has.waits some).1 in
    let taken = has.taken in
    let left = has.left in
    omega arith

pub put_is_truncated : {D : ℕ} (room : ℕ) (bytes : List ℕ) (w : Walker D) → HasPut room bytes w → 0 < room →
    Answers room bytes Going (read D (left_of bytes room 0))
put_is_truncated {D} room bytes w has some =
    subst (λ all. Answers room all Going (read D (left_of all room 0))) (append-nil bytes) (early_none w room bytes has [] some (omega arith))

pub put_is_open : {D : ℕ} (room : ℕ) (bytes : List ℕ) (w : Walker D) → HasPut room bytes w →
    open_now w ≡ (open_in D (left_of bytes room 0)).items
put_is_open room bytes w has = counts_open w room bytes has

pub done_is_whole : (depth room : ℕ) (p : Placed) → Answers room p.bytes Done (read depth (left_of p.bytes room 0)) → whole depth p ≡ Ok p
done_is_whole depth room p answer =
    let rest : Left = left_of [] (room - length p.bytes) (length p.bytes) in
    let s = sound depth (left_of p.bytes room 0) answer.0 rest answer.1 in
    let all : p.bytes ≡ s.0.part = s.0.whole ∙ append-nil s.0.part in
    item_is_whole depth p answer.0 (spelled_item depth p answer.0 (rw all s.0.is_part) s.1)
