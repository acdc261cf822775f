use Rattle.std.proofs.Common.{◌≡◌, ap, refl, arith, length, true, rules}
use Rattle.cose_head.specs.Head.{bare_head}
use Rattle.cose_head.specs.HalfHead.{is_half}
use Rattle.cose_head.specs.Walker.{resume}
use Rattle.cose_head.proofs.lemmas.Walker.WalkerSteps.{new_rest}
use Rattle.cose_head.proofs.lemmas.Walker.WalkSteps.{waits-begins}
use Rattle.cose_head.proofs.walker.Walker.new.Goals as goal

pub invariant_of-result : goal.invariant_of-result
unfolding bare_head
invariant_of-result g c =
    let begun : is_half c.new.result.items ≡ true = rw c.new.ensures refl in
    search rules

pub returns-clause-put : goal.returns-clause-put
unfolding resume
returns-clause-put g c =
    let none = ap length c.new.ensures in
    record {
      rest = new_rest g.row.D c.args.room c.new-2.result.items c.new.result.items c.new-2.ensures c.new.ensures;
      taken = omega arith;
      left = omega arith;
      waits = λ some. (waits-begins g.row.D c.new-2.result.items c.new.result.items 0 c.args.room 0 refl none (λ e. omega arith), omega arith);
      is_going = refl;
    }
