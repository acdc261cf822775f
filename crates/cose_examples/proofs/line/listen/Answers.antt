use Rattle.cose_msg.specs.Task.{to_verify}
use Rattle.cose_msg.specs.Verifier.{setting_in}
use Rattle.cose_examples.proofs.Images.{verifies}
use Rattle.cose_examples.proofs.Lines.{judges}
use Rattle.cose_examples.proofs.line.listen.Goals as goal

pub returns-then-is_complete : goal.returns-then-is_complete
returns-then-is_complete g c = record {
  authentic =
      let setting = setting_in c.args.verifier.now in
      let start = verifies c.args.verifier.now c.reset.new.self c.requires c.reset.ensures.none_taken in
      let a = c.in_ok-hear.ensures.hears (to_verify setting) start in
      judges setting (g.E.EcVerifier.decides c.args.ec.now) _ _ a c.verdict.result (c.verdict.ensures.answer setting a.taken a.payload a.has_taken);
}
