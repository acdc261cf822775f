use Rattle.std.proofs.Common.{[], refl, sym, zero-add, add-zero, arith}
use Rattle.std.proofs.lemmas.Grind.{common_steps}
use Rattle.cose_msg.specs.Task.{rules_of}
use Rattle.cose_msg.specs.Phases.{nothing_so_far, past_protected}
use Rattle.cose_msg.proofs.lemmas.Reader.ArgumentBounds.{protected_fits}
use Rattle.cose_msg.proofs.lemmas.Reader.Meanings.{moved, unknown}
use Rattle.cose_msg.proofs.lemmas.Reader.PhaseSteps.{string_none}
use Rattle.cose_msg.proofs.reader.Reader.past_protected_head.Goals as goal

pub returns-in-Some : goal.returns-in-Some
returns-in-Some g c = record { reads_on = λ task e. rw (← c.in-Some.ensures) (c.refuse.ensures task [] c.args.at nothing_so_far e refl) }

pub returns-then-head-eq0 : goal.returns-then-head-eq0
returns-then-head-eq0 g c = record {
  reads_on = λ task e.
      let after = rw (c.clear.ensures, add-zero) at (c.past_protected.ensures.reads_on task e) in
      rw (← c.in-None.ensures, c.if-head-eq0.true) (moved c.past_protected.new.self _ _ refl refl (string_none (λ w. nothing_so_far) (past_protected (rules_of g.row.H g.row.D task) c.args.kind) c.args.at) after);
}

pub returns-else-head-eq0 : goal.returns-else-head-eq0
returns-else-head-eq0 g c = record {
  reads_on = λ task e. record {
    known = unknown [];
    so_far = nothing_so_far;
    shows = e;
    payload_known = refl;
    payload_so_far = refl;
    holds = rw c.clear.ensures (refl, zero-add c.args.head.arg, protected_fits g.row.H c.args.head (sym c.in-None.ensures), sym (add-zero c.args.at));
    left = λ z. rw (← c.in-None.ensures, c.clear.ensures) refl;
  };
}

pub invariant_of-self : goal.invariant_of-self
invariant_of-self g c = grind (arith, common_steps)

pub invariant_of-self-else-head-eq0 : goal.invariant_of-self-else-head-eq0
invariant_of-self-else-head-eq0 g c = record {
  some_left = omega (arith, c.if-head-eq0.false);
  within = omega arith;
  limit = omega (arith, protected_fits g.row.H c.args.head (sym c.in-None.ensures), c.args.self.now.limit);
  early = c.requires.early;
}

pub invariant_of-self-else-head-eq0-2 : goal.invariant_of-self-else-head-eq0-2
invariant_of-self-else-head-eq0-2 g c = grind (arith, common_steps)
