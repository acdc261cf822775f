use Rattle.std.proofs.Common.{ℕ, List, subst}
use Rattle.std.specs.Io.KnownBytes.{Appends}
use Rattle.cose_examples.proofs.Lines.{hears_more, hears_nothing}
use Rattle.cose_examples.proofs.line.hear.Goals as goal

pub interrupts-init : goal.interrupts-init
interrupts-init g c = λ task h. hears_nothing _ h

pub interrupts-preserved : goal.interrupts-preserved
interrupts-preserved g c = λ task h.
    let a = c.interrupts.invariant task h in
    hears_more _ _ _ a _ _ (subst (λ (t : List ℕ). Appends (g.S.Sink.contents c.interrupts.handler) (g.S.Sink.contents c.pass_on.new.handler) t) c.payload_of.ensures c.in_ok-pass_on.ensures.handled)
    (c.feed-fed.ensures.taken task a.taken a.payload a.has_taken) (c.feed-fed.ensures.payload task a.taken a.payload a.has_taken)

pub returns-then-is_done : goal.returns-then-is_done
returns-then-is_done g c = record {
  hears = λ task h.
      let a = c.interrupts.invariant task h in
      hears_more _ _ _ a _ _ (subst (λ (t : List ℕ). Appends (g.S.Sink.contents c.interrupts.handler) (g.S.Sink.contents c.pass_on.new.handler) t) c.payload_of.ensures c.in_ok-pass_on.ensures.handled)
      (c.feed-fed.ensures.taken task a.taken a.payload a.has_taken) (c.feed-fed.ensures.payload task a.taken a.payload a.has_taken);
}
