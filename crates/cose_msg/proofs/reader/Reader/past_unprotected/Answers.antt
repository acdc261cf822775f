use Rattle.std.proofs.Common.{◌+◌, [], length, refl, sym, arith}
use Rattle.std.proofs.lemmas.Grind.{common_steps}
use Rattle.cose_map.specs.Bucket.{bucket_of}
use Rattle.cose_msg.specs.Phases.{both_buckets, headers_of, placed_at, protected_so_far}
use Rattle.cose_msg.specs.Task.{rules_of}
use Rattle.cose_msg.proofs.lemmas.Reader.Meanings.{moved}
use Rattle.cose_msg.proofs.lemmas.Reader.PhaseSteps.{value_refused, value_there}
use Rattle.cose_msg.proofs.reader.Reader.past_unprotected.Goals as goal

pub returns-in-Some : goal.returns-in-Some
returns-in-Some g c = record {
  reads_on = λ task pairs among away e good.
      let is = rw c.as_slice.ensures.value at c.in-Some.ensures in
      moved c.refuse.new.self _ _ refl refl
      (λ z. value_refused (protected_so_far pairs) (bucket_of g.row.D (placed_at c.args.at c.args.self.now.unprotected.items)) (λ others. both_buckets (rules_of g.row.H g.row.D task) (headers_of c.args.kind c.args.self.now.protected.items pairs others)) c.in-Some.refusal (sym is) (c.args.at + length c.args.self.now.unprotected.items) z)
      (c.refuse.ensures task [] (c.args.at + length c.args.self.now.unprotected.items) (protected_so_far pairs) e refl);
}

pub returns-in-None : goal.returns-in-None
returns-in-None g c = record {
  reads_on = λ task pairs among away e good.
      let is = rw c.as_slice.ensures.value at c.in-None.ensures in
      let others = value_there (bucket_of g.row.D (placed_at c.args.at c.args.self.now.unprotected.items)) (sym is) in
      rw others.1 (c.past_buckets.ensures.reads_on task pairs others.0 among away (e.0, e.1, others.1, e.3) good others.1);
}

pub invariant_of-self : goal.invariant_of-self
invariant_of-self g c = grind (arith, common_steps)

pub invariant_of-self-in-None : goal.invariant_of-self-in-None
invariant_of-self-in-None g c = grind (arith, common_steps)
