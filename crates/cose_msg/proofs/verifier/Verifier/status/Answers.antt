use Rattle.std.proofs.Common.{◌∙◌, sym, arith}
use Rattle.std.proofs.lemmas.Grind.{common_steps}
use Rattle.cose_msg.proofs.lemmas.Detached.Attached.{never_next}
use Rattle.cose_msg.proofs.lemmas.Feeding.Statuses.{status_reads}
use Rattle.cose_msg.proofs.verifier.Verifier.status.Goals as goal

pub returns : goal.returns
returns g c = record {
  value = rw c.if-self.false c.status.ensures;
  reads = λ task s B h. status_reads h (c.lemma_reading_so_far.ensures.status task B _ _ h.so_far h.came) (sym c.status.ensures);
  attached = λ task s B h is e. never_next h is (sym (status_reads h (c.lemma_reading_so_far.ensures.status task B _ _ h.so_far h.came) (sym c.status.ensures)) ∙ e);
}

pub returns-then-self-clause-value : goal.returns-then-self-clause-value
returns-then-self-clause-value g c = grind (arith, common_steps)

pub returns-then-self-clause-reads : goal.returns-then-self-clause-reads
returns-then-self-clause-reads g c = grind (arith, common_steps)

pub returns-then-self-clause-attached : goal.returns-then-self-clause-attached
returns-then-self-clause-attached g c = λ task s B h is e. cc
