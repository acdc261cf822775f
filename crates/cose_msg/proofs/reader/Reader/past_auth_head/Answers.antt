use Rattle.std.proofs.Common.{◌≡◌, [], Some, None, refl, sym, ◌∙◌, zero-add, add-zero, arith}
use Rattle.std.proofs.lemmas.Grind.{common_steps}
use Rattle.cose_msg.specs.Chosen.{has_length_of}
use Rattle.cose_msg.specs.Message.{has_auth_length}
use Rattle.cose_msg.specs.Phases.{auth_fault_where, finish, headers_so_far}
use Rattle.cose_msg.specs.Task.{rules_of}
use Rattle.cose_msg.proofs.lemmas.Reader.ArgumentBounds.{auth_fault_same, auth_fits}
use Rattle.cose_msg.proofs.lemmas.Choosing.ChosenKeys.{length_by_alg, nothing_held}
use Rattle.cose_msg.proofs.lemmas.Reader.StructureHashes.{with_auth}
use Rattle.cose_msg.proofs.lemmas.Reader.Meanings.{moved}
use Rattle.cose_msg.proofs.lemmas.Reader.PhaseSteps.{string_none}
use Rattle.cose_msg.proofs.reader.Reader.past_auth_head.Goals as goal

pub returns-in-Some : goal.returns-in-Some
returns-in-Some g c = record {
  reads_on = λ task known e key count fed.
      let fits = length_by_alg c.args.self.now.chosen known.chosen c.alg.result c.alg.ensures key.1 in
      let fault : auth_fault_where (has_auth_length known.chosen) c.args.head ≡ Some c.in-Some.reason = auth_fault_same (has_auth_length known.chosen) (has_length_of c.alg.result) fits c.args.head ∙ sym c.in-Some.ensures.value in
      rw fault (c.refuse.ensures task known.payload c.args.at (headers_so_far known.headers known.payload) e refl);
}

pub returns-then-head-eq0 : goal.returns-then-head-eq0
returns-then-head-eq0 g c = record {
  reads_on = λ task known e key count fed.
      let fits = length_by_alg c.args.self.now.chosen known.chosen c.alg.result c.alg.ensures key.1 in
      let fault : auth_fault_where (has_auth_length known.chosen) c.args.head ≡ None = auth_fault_same (has_auth_length known.chosen) (has_length_of c.alg.result) fits c.args.head ∙ sym c.in-None.ensures.value in
      moved c.finish.new.self _ _ refl refl
      (λ z. rw (fault, c.if-head-eq0.true) (string_none (λ w. headers_so_far known.headers known.payload) (finish (rules_of g.row.H g.row.D task) known.headers known.chosen known.payload c.args.auth_head.at) c.args.at z))
      (c.finish.ensures.reads_on task (with_auth known []) c.args.at e key count refl fed (rw c.clear.ensures (nothing_held known.chosen)));
}

pub returns-else-head-eq0 : goal.returns-else-head-eq0
returns-else-head-eq0 g c = record {
  reads_on = λ task known e key count fed.
      let fits = length_by_alg c.args.self.now.chosen known.chosen c.alg.result c.alg.ensures key.1 in
      let fault : auth_fault_where (has_auth_length known.chosen) c.args.head ≡ None = auth_fault_same (has_auth_length known.chosen) (has_length_of c.alg.result) fits c.args.head ∙ sym c.in-None.ensures.value in
      record {
        known = with_auth known [];
        so_far = headers_so_far known.headers known.payload;
        shows = e;
        payload_known = refl;
        payload_so_far = refl;
        holds = (refl, zero-add c.args.head.arg, sym (add-zero c.args.at), key, count, fed, auth_fits (has_auth_length known.chosen) c.args.head fault, rw c.clear.ensures (nothing_held known.chosen));
        left = λ z. rw fault refl;
      };
}

pub fault_of_auth-requires : goal.fault_of_auth-requires
fault_of_auth-requires g c = cc

pub invariant_of-self : goal.invariant_of-self
invariant_of-self g c = grind (arith, common_steps)

pub invariant_of-self-else-head-eq0 : goal.invariant_of-self-else-head-eq0
invariant_of-self-else-head-eq0 g c = record {
  some_left = omega (arith, c.if-head-eq0.false);
  within = omega arith;
  limit = c.in-None.ensures.limit refl;
  early = c.requires.early;
}

pub invariant_of-self-else-head-eq0-2 : goal.invariant_of-self-else-head-eq0-2
invariant_of-self-else-head-eq0-2 g c = grind (arith, common_steps)
