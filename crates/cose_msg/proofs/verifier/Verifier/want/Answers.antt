use Rattle.std.proofs.Common.{◌<◌, length, ap, ◌∙◌, sym, arith}
use Rattle.std.proofs.lemmas.Grind.{common_steps}
use Rattle.cose_msg.specs.Phase.{want_of}
use Rattle.cose_msg.specs.Reading.{Reading}
use Rattle.cose_msg.proofs.lemmas.Run.Runs.{without_more}
use Rattle.cose_msg.proofs.verifier.Verifier.want.Goals as goal

pub returns-clause-reads : goal.returns-clause-reads
returns-clause-reads g c = λ task s B h. c.wanted.ensures.value ∙ sym (c.lemma_reading_so_far.ensures.wanted task B _ _ h.so_far h.came) ∙ ap (λ (r : Reading). r.wanted) (without_more _ _ task s)

pub returns-clause-early : goal.returns-clause-early
returns-clause-early g c = λ task s B h more lt. c.lemma_reading_so_far.ensures.open task B _ _ more h.so_far (let short : length more < want_of c.args.self.now.reader.phase = omega (arith, lt, c.wanted.ensures.value) in short)

pub returns-then-self-clause-value : goal.returns-then-self-clause-value
returns-then-self-clause-value g c = cc

pub returns-then-self-clause-reads : goal.returns-then-self-clause-reads
returns-then-self-clause-reads g c = grind (arith, common_steps)

pub returns-then-self-clause-some : goal.returns-then-self-clause-some
returns-then-self-clause-some g c = grind (arith, common_steps)

pub returns-then-self-clause-none : goal.returns-then-self-clause-none
returns-then-self-clause-none g c = grind (arith, common_steps)

pub returns-then-self-clause-early : goal.returns-then-self-clause-early
returns-then-self-clause-early g c = grind (arith, common_steps)

pub returns-clause-value : goal.returns-clause-value
returns-clause-value g c = cc

pub returns-clause-some : goal.returns-clause-some
returns-clause-some g c = grind (arith, common_steps)

pub returns-clause-none : goal.returns-clause-none
returns-clause-none g c = grind (arith, common_steps)
