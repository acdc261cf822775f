use Rattle.std.proofs.Common.{◌≡◌, ◌++◌, rules, subst, inl, inr}
use Rattle.std.specs.Prelude.{codes}
use Rattle.cose_msg.specs.Sink.{AppendsFront}
use Rattle.cose_answers.specs.Faults.{fault_text}
use Rattle.cose_answers.proofs.output.print_fault.Goals as goal

pub returns-in-Ok-clause-line : goal.returns-in-Ok-clause-line
returns-in-Ok-clause-line g c =
    let line : c.as_str.result.now ≡ fault_text c.args.fault ++ codes "\n" = search rules in
    inl (subst (AppendsFront (g.W.Write.contents c.args.output.now) (g.W.Write.contents c.print.new.output)) line c.print.ensures.front)

pub returns-in-Err-clause-line : goal.returns-in-Err-clause-line
returns-in-Err-clause-line g c = inr c.print-in-Err.ensures.front
