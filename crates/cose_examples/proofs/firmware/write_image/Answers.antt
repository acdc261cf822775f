use Rattle.std.proofs.Common.{◌≡◌, ℕ, ◌≤◌, List, ◌++◌, length, take, drop, sym, ◌∙◌, arith, length-append}
use Rattle.std.proofs.lemmas.List.{length-take}
use Rattle.cose_msg.specs.Status.{payload_wanted_in}
use Rattle.cose_msg.proofs.lemmas.Detached.PayloadRuns.{whole_piece}
use Rattle.cose_msg.proofs.lemmas.Run.Runs.{first_of, put_done}
use Rattle.cose_examples.proofs.Images.{takes_more, takes_none, takes_nothing}
use Rattle.cose_examples.proofs.firmware.write_image.Goals as goal

pub pages-init : goal.pages-init
pages-init g c = λ task taken before h. takes_nothing _ _ h

pub returns-then-most-eq0 : goal.returns-then-most-eq0
returns-then-most-eq0 g c = record { takes = λ task taken before h. c.pages.invariant task taken before h }

pub returns-then-count-eq0 : goal.returns-then-count-eq0
returns-then-count-eq0 g c = record {
  takes = λ task taken before h.
      let none : c.in-Ok.count ≡ 0 = omega (arith, c.if-count-eq0.true) in
      let took = rw none at c.in-Ok.ensures.bytes in
      takes_none _ _ _ _ _ (c.pages.invariant task taken before h) took.0;
}

pub pages-preserved : goal.pages-preserved
pages-preserved g c = λ task taken before h.
    let a = c.pages.invariant task taken before h in
    let piece : List ℕ = take c.in-Ok.count (c.take.new.into ++ drop c.min-most.result c.pages.page) in
    let size : length piece ≡ c.in-Ok.count = omega (arith, c.in-Ok.ensures.within, length-take c.in-Ok.count (c.take.new.into ++ drop c.min-most.result c.pages.page), length-append c.take.new.into (drop c.min-most.result c.pages.page)) in
    let fits : length piece ≤ payload_wanted_in c.pages.verifier = omega (arith, size, c.in-Ok.ensures.within, c.take.auto.into, c.min-most.ensures, c.payload_wanted.ensures.value, length-take c.min-most.result c.pages.page) in
    takes_more _ _ _ _ _ _ a piece c.feed_payload.result (whole_piece c.feed_payload.ensures.uses fits) (first_of _ _ c.in-Ok.count c.take.new.into _ c.in-Ok.ensures.within c.in-Ok.ensures.bytes.0)
    (put_done _ _ _ c.put.result (sym c.is_err.ensures.value ∙ c.if-is_err.false) c.put.ensures.bytes) (c.feed_payload.ensures.taken _ _ _ a.has_taken)
