use Rattle.std.proofs.Common.{[], refl, sym, add-zero, arith}
use Rattle.std.proofs.lemmas.Grind.{common_steps}
use Rattle.cose_msg.specs.Phases.{unprotected_so_far}
use Rattle.cose_msg.specs.Reading.{open_items_after}
use Rattle.cose_msg.proofs.lemmas.Reader.Meanings.{under_pairs}
use Rattle.cose_msg.proofs.reader.Reader.begin_unprotected.Goals as goal

pub returns : goal.returns
returns g c = record {
  reads_on = λ task pairs e good. record {
    known = under_pairs pairs;
    so_far = unprotected_so_far pairs (open_items_after g.row.H g.row.D []);
    shows = (e.0, good, e.2, c.walker_is_reading.ensures.open g.row.D g.row.H [] c.new-self.result c.new-self.ensures.put);
    payload_known = refl;
    payload_so_far = refl;
    holds = (rw c.clear.ensures refl, good, rw c.clear.ensures c.new-self.ensures.put, rw c.clear.ensures (sym (add-zero c.args.at)), rw c.clear.ensures (c.want.ensures.content g.row.H [] c.new-self.ensures.put));
    left = λ z. rw c.clear.ensures refl;
  };
}

pub invariant_of-self-2-clause-some_wanted : goal.invariant_of-self-2-clause-some_wanted
invariant_of-self-2-clause-some_wanted g c = c.want.ensures.some c.new-self.ensures.put.is_going

pub walker_is_reading-requires : goal.walker_is_reading-requires
walker_is_reading-requires g c = cc

pub invariant_of-self : goal.invariant_of-self
invariant_of-self g c = grind (arith, common_steps)

pub invariant_of-self-3 : goal.invariant_of-self-3
invariant_of-self-3 g c = grind (arith, common_steps)
