use Rattle.std.proofs.Common.{◌≡◌, Some, arith}
use Rattle.cose_examples.proofs.Tokens.{none_left}
use Rattle.cose_examples.proofs.token.is_at_end.Goals as goal

pub returns-in-Ok : goal.returns-in-Ok
returns-in-Ok c = λ known.
    let zero : c.in-Ok.count ≡ 0 = grind (arith) in
    none_left (Some c.args.intake.now.bytes.now) (Some c.take.new.self.bytes.now) c.in-Ok.count c.take.new.into zero c.in-Ok.ensures.bytes.0 (c.in-Ok.ensures.bytes.1 zero)
