use Rattle.std.proofs.Common.{arith, ap, ◌∙◌, sym}
use Rattle.std.proofs.lemmas.Grind.{common_steps}
use Rattle.cose_msg.specs.Reading.{Reading}
use Rattle.cose_msg.proofs.lemmas.Deciding.PhaseCases.{none_wanted_else}
use Rattle.cose_msg.proofs.lemmas.Run.Runs.{without_more}
use Rattle.cose_msg.proofs.verifier.Verifier.payload_wanted.Goals as goal

pub returns-clause-reads : goal.returns-clause-reads
returns-clause-reads g c = λ task s B h.
    c.payload_wanted.ensures ∙ sym (c.lemma_reading_so_far.ensures.payload_wanted task B _ _ h.so_far h.came) ∙ ap (λ (r : Reading). r.payload_wanted) (without_more _ _ task s)

pub returns-clause-none : goal.returns-clause-none
returns-clause-none g c = λ other.
    c.payload_wanted.ensures ∙ none_wanted_else c.args.self.now.reader.phase (rw c.if-self.false at other)

pub returns-then-self-clause-value : goal.returns-then-self-clause-value
returns-then-self-clause-value g c = grind (arith, common_steps)

pub returns-then-self-clause-reads : goal.returns-then-self-clause-reads
returns-then-self-clause-reads g c = grind (arith, common_steps)

pub returns-then-self-clause-some : goal.returns-then-self-clause-some
returns-then-self-clause-some g c = grind (arith, common_steps)

pub returns-then-self-clause-none : goal.returns-then-self-clause-none
returns-then-self-clause-none g c = grind (arith, common_steps)

pub returns-clause-value : goal.returns-clause-value
returns-clause-value g c = grind (arith, common_steps)

pub returns-clause-some : goal.returns-clause-some
returns-clause-some g c = grind (arith, common_steps)
