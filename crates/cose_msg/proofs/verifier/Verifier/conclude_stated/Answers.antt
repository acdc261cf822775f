use Rattle.std.proofs.Common.{arith, refl}
use Rattle.cose_msg.proofs.verifier.Verifier.conclude_stated.Goals as goal

pub returns : goal.returns
returns g c =
    let e = c.conclude_stated.ensures in
    record {
      kept = rw e.kept refl;
      counts = refl;
      purpose = rw e.terms refl;
      shown = e.shown;
      answer = e.answer;
    }

pub invariant_of-self-clause-held : goal.invariant_of-self-clause-held
invariant_of-self-clause-held g c = omega (arith, c.conclude_stated.ensures.held, c.args.self.now.held)

pub invariant_of-self-clause-opened : goal.invariant_of-self-clause-opened
invariant_of-self-clause-opened g c = omega (arith, c.conclude_stated.ensures.opened, c.args.self.now.opened)
