use Rattle.std.proofs.Common.{◌+◌, [], length, refl, sym, arith}
use Rattle.std.proofs.lemmas.Grind.{common_steps}
use Rattle.cose_map.specs.Bucket.{bucket_of}
use Rattle.cose_msg.specs.Task.{rules_of}
use Rattle.cose_msg.specs.Phases.{nothing_so_far, placed_at, unprotected}
use Rattle.cose_msg.proofs.lemmas.Reader.Meanings.{moved}
use Rattle.cose_msg.proofs.lemmas.Reader.PhaseSteps.{value_refused, value_there}
use Rattle.cose_msg.proofs.reader.Reader.past_protected.Goals as goal

pub returns-in-Some : goal.returns-in-Some
returns-in-Some g c = record {
  reads_on = λ task e.
      let is = rw c.as_slice.ensures.value at c.in-Some.ensures in
      moved c.refuse.new.self _ _ refl refl
      (λ z. value_refused nothing_so_far (bucket_of g.row.D (placed_at c.args.at c.args.self.now.protected.items)) (unprotected (rules_of g.row.H g.row.D task) c.args.kind c.args.self.now.protected.items) c.in-Some.refusal (sym is) (c.args.at + length c.args.self.now.protected.items) z)
      (c.refuse.ensures task [] (c.args.at + length c.args.self.now.protected.items) nothing_so_far e refl);
}

pub returns-in-None : goal.returns-in-None
returns-in-None g c = record {
  reads_on = λ task e.
      let is = rw c.as_slice.ensures.value at c.in-None.ensures in
      let pairs = value_there (bucket_of g.row.D (placed_at c.args.at c.args.self.now.protected.items)) (sym is) in
      rw pairs.1 (rw c.len-length.ensures.value at (c.begin_unprotected.ensures.reads_on task pairs.0 e pairs.1));
}

pub overflow_add-at : goal.overflow_add-at
overflow_add-at g c = grind (arith, common_steps)
