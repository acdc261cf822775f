use Rattle.std.proofs.Common.{arith, refl}
use Rattle.cose_msg.proofs.verifier.Verifier.conclude.Goals as goal

pub returns : goal.returns
returns g c =
    let e = c.conclude.ensures in
    record {
      kept = rw e.kept refl;
      counts = refl;
      purpose = rw e.terms refl;
      shown = e.shown;
      complete = λ awaits goes_on. rw goes_on (e.complete awaits);
      answer = e.answer;
      counted = e.counted;
      status = λ setting B reading h came goes_on. rw goes_on (e.status setting B reading h came);
    }

pub invariant_of-self-clause-held : goal.invariant_of-self-clause-held
invariant_of-self-clause-held g c = omega (arith, c.conclude.ensures.held, c.args.self.now.held)

pub invariant_of-self-clause-opened : goal.invariant_of-self-clause-opened
invariant_of-self-clause-opened g c = omega (arith, c.conclude.ensures.opened, c.args.self.now.opened)
